-- The points of the first batches have no reason.
use Rattle.std.proofs.Common.{ℕ, ◌*◌, ◌<◌}
use Rattle.unheard_cells.specs.Trial.{IsRoom, IsTrialOf, IsWrongPlace}
use Rattle.unheard_cells.proofs.batches.first_reason.Given as goal

abbrev pub invariant-loop-batch : goal.invariant-loop-batch
invariant-loop-batch l = record {
  trial : IsTrialOf l.net.circuit l.plan l.trial;
  right : IsRoom l.net.circuit l.plan l.right;
  wrong : IsRoom l.net.circuit l.plan l.wrong;
  none : (p : ℕ) → p < l.batch * 1024 → p < l.count → IsWrongPlace l.net.circuit l.plan p → ⊥;
}
