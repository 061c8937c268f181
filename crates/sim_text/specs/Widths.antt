-- How many bits a step shows.
use Rattle.std.specs.Prelude.{◌≡◌, ◌≤◌, length, take}
use Rattle.fault_secure.specs.Circuit.{Circuit}
use Rattle.fault_secure.specs.CodePlan.{CodePlan}
use Rattle.sim_text.specs.declared.widths.Widths.{Widths}

-- they are the numbers of the plan's outputs, of its checks and of the latches
pub record AreWidthsOf (N : Circuit) (P : CodePlan) (widths : Widths) : Type 0 where
  pub outputs : widths.outputs ≡ length (take P.outputs N.outputs)
  pub checks : widths.checks ≡ length P.checks
  pub next : widths.next ≡ length N.latches

-- the outputs fit a word, and so do the checks
pub record AreFew (widths : Widths) : Type 0 where
  pub outputs : widths.outputs ≤ 64
  pub checks : widths.checks ≤ 64
