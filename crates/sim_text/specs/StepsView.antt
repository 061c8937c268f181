-- What the step lines of a text keep.
use Rattle.std.specs.Prelude.{◌≡◌, ◌≤◌, None, drop, length}
use Rattle.sim_text.specs.StepLines.{first_misshapen}
use Rattle.sim_text.specs.declared.steps.StepLines.TheInside.{Inside}

-- they are lines of the text, and each is a step's
pub record AreShaped (steps : Inside) : Type 0 where
  pub within : steps.from ≤ length steps.lines.now
  pub shaped : first_misshapen steps.inputs (drop steps.from steps.lines.now) ≡ None
