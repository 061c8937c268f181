-- The inputs so far.
use Rattle.std.proofs.Common.{◌≡◌, take, []}
use Rattle.pla_read.specs.FreeParts.{begun}
use Rattle.pla_read.proofs.beginning.add_inputs.Given as goal

abbrev pub invariant-loop-place : goal.invariant-loop-place
invariant-loop-place l = l.parts ≡ begun (take l.place l.names) []
