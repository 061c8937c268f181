-- One list for each round, with room for the input bits of a step.
use Rattle.std.proofs.Common.{◌≡◌, All, length}
use Rattle.sim_text.proofs.batches.blank_batch.Given as goal

abbrev pub invariant-loop : goal.invariant-loop
invariant-loop l = record {
  counted : length l.lists ≡ l.counter;
  sized : All (λ bits. length bits ≡ l.inputs) l.lists;
}
