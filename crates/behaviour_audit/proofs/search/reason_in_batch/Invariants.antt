-- The points of the first words have no reason.
use Rattle.std.proofs.Common.{ℕ, ◌+◌, ◌*◌, ◌<◌, ◌≤◌, None}
use Rattle.behaviour_audit.specs.Trial.{IsRoomOf, IsAnswerAt}
use Rattle.behaviour_audit.proofs.search.reason_in_batch.Given as goal
use Rattle.lane_sim.specs.Places.{point_at}

abbrev pub invariant-loop-word : goal.invariant-loop-word
invariant-loop-word l = record {
  room : IsRoomOf l.audited l.room;
  none : (p : ℕ) → l.first ≤ p → p < l.first + l.word * 64 → p < l.past → IsAnswerAt l.condition l.audited (point_at l.audited.net.now.circuit.inputs p) None;
}
