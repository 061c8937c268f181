-- The points of the first batches have no reason.
use Rattle.std.proofs.Common.{ℕ, ◌*◌, ◌<◌, None}
use Rattle.behaviour_audit.specs.Trial.{IsTrialOf, IsRoomOf, IsAnswerAt}
use Rattle.behaviour_audit.proofs.search.first_reason.Given as goal
use Rattle.lane_sim.specs.Places.{point_at}

abbrev pub invariant-loop-batch : goal.invariant-loop-batch
invariant-loop-batch l = record {
  trial : IsTrialOf l.audited l.trial;
  room : IsRoomOf l.audited l.room;
  none : (p : ℕ) → p < l.batch * 1024 → p < l.count → IsAnswerAt l.condition l.audited (point_at l.audited.net.now.circuit.inputs p) None;
}
