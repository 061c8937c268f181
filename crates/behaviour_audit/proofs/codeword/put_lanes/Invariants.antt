-- The first lanes have the first bits.
use Rattle.std.proofs.Common.{◌≡◌, length, take}
use Rattle.code_lanes.specs.Lanes.{column}
use Rattle.behaviour_audit.proofs.codeword.put_lanes.Given as goal

abbrev pub invariant-loop-place : goal.invariant-loop-place
invariant-loop-place l = record {
  sized : length l.lanes ≡ length l.word;
  put : take l.place (column 0 l.lanes) ≡ take l.place l.word;
}
