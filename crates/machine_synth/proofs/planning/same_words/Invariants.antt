use Rattle.std.proofs.Common.{◌≡◌, take}
use Rattle.machine_synth.proofs.planning.same_words.Given as goal

-- the first words, so many of them
abbrev pub invariant-loop-place : goal.invariant-loop-place
invariant-loop-place l = l.list ≡ record { width = l.words.width; words = take l.place l.words.words }
