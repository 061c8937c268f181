-- As many lists as steps are read, of which the first were read.
use Rattle.std.proofs.Common.{◌≡◌, ◌-◌, All, drop, length, min, take}
use Rattle.sim_text.specs.Batches.{FitsEach}
use Rattle.sim_text.proofs.batches.read_inputs.Given as goal

abbrev pub invariant-loop-place : goal.invariant-loop-place
invariant-loop-place l = record {
  count : length l.inputs ≡ min (length l.initial.inputs) (length l.steps - l.first);
  sized : All (FitsEach l.steps) l.inputs;
  read : take l.place l.inputs ≡ take l.place (drop l.first l.steps);
}
