-- No text that was passed is the one that is looked for.
use Rattle.std.proofs.Common.{◌≡◌, ◌<◌, ℕ, false}
use Rattle.std.specs.Str.{bytes_eq}
use Rattle.tsc_net.specs.Names.{text_at}
use Rattle.tsc_net.proofs.texts.Texts.find.Given as goal

abbrev pub invariant-loop-place : goal.invariant-loop-place
invariant-loop-place l = (k : ℕ) → k < l.place → bytes_eq l.text (text_at l.self k) ≡ false
