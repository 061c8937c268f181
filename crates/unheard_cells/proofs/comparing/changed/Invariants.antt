-- At a point without a mark the first nets after the rails are the same.
use Rattle.std.proofs.Common.{◌≡◌, ◌↔◌, ℕ, ◌<◌, false}
use Rattle.lane_sim.specs.Lanes.{lane_bit}
use Rattle.unheard_cells.specs.There.{AreSameAt}
use Rattle.unheard_cells.proofs.comparing.changed.Given as goal

abbrev pub invariant-loop-place : goal.invariant-loop-place
invariant-loop-place l = (p : ℕ) → p < 1024 → (lane_bit l.changed p ≡ false) ↔ AreSameAt l.right l.wrong l.low l.place p
