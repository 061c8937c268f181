use Rattle.std.proofs.Common.{◌≡◌, drop}
use Rattle.tsc_bits.specs.Counting.{some_both}
use Rattle.register_synth.proofs.groups.marks_meet.Given as goal

-- the cones that are left meet where the whole ones do
abbrev pub invariant-loop-place : goal.invariant-loop-place
invariant-loop-place l = some_both (drop l.place l.marks) (drop l.place l.others) ≡ some_both l.marks l.others
