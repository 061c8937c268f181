-- No line of the kind stands before this one.
use Rattle.std.proofs.Common.{◌≡◌, take}
use Rattle.std.specs.List.{slice_range}
use Rattle.pla_read.specs.Selections.{line_of}
use Rattle.pla_read.proofs.directives.line_before.Given as goal

abbrev pub invariant-loop-place : goal.invariant-loop-place
invariant-loop-place l = line_of l.kind (take l.past l.section) ≡ line_of l.kind (slice_range l.section l.place l.past)
