-- The outputs so far.
use Rattle.std.proofs.Common.{◌≡◌, length, map, take}
use Rattle.std.specs.List.{range_with_len}
use Rattle.net_building.specs.Names.{numbered}
use Rattle.pla_read.specs.FreeParts.{begun}
use Rattle.pla_read.proofs.beginning.add_outputs.Given as goal

abbrev pub invariant-loop-place : goal.invariant-loop-place
invariant-loop-place l = record {
  parts : l.parts ≡ begun l.inputs (take l.place l.names);
  outs : l.outs ≡ map numbered (range_with_len (length l.inputs) l.place);
}
