use Rattle.std.proofs.Common.{◌≡◌, ℕ, ◌<◌, Some}
use Rattle.lane_rows.specs.Rows.{row_of}
use Rattle.lane_sim.proofs.steps.some_has_row.Given as goal

abbrev pub invariant-loop-net : goal.invariant-loop-net
invariant-loop-net l = (net row : ℕ) → net < l.net → row_of l.rows.rows net ≡ Some row → ⊥
