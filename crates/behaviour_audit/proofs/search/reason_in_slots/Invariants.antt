-- The first points have no reason.
use Rattle.std.proofs.Common.{ℕ, ◌+◌, ◌<◌, ◌≤◌, None}
use Rattle.behaviour_audit.specs.Trial.{IsRoomOf, IsAnswerAt}
use Rattle.behaviour_audit.proofs.search.reason_in_slots.Given as goal
use Rattle.lane_sim.specs.Places.{point_at}

abbrev pub invariant-loop-slot : goal.invariant-loop-slot
invariant-loop-slot l = record {
  room : IsRoomOf l.audited l.room;
  none : (s : ℕ) → l.from ≤ s → s < l.slot → IsAnswerAt l.condition l.audited (point_at l.audited.net.now.circuit.inputs (l.first + s)) None;
}
