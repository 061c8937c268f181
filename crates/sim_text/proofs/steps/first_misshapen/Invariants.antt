-- The first misshapen line from this one on is that of all.
use Rattle.std.proofs.Common.{◌≡◌, drop}
use Rattle.sim_text.specs.StepLines.{first_misshapen}
use Rattle.sim_text.proofs.steps.first_misshapen.Given as goal

abbrev pub invariant-loop-line : goal.invariant-loop-line
invariant-loop-line l = first_misshapen l.inputs (drop l.line l.lines) ≡ first_misshapen l.inputs (drop l.from l.lines)
