-- The nets that an exact verdict names are nets of the netlist, and its inputs have few bits.
use Rattle.std.proofs.Common.{ℕ, ◌<◌, ◌≤◌, ◌^◌, arith}
use Rattle.fault_secure.specs.Circuit.{Circuit}
use Rattle.fault_secure.specs.CodePlan.{CodePlan}
use Rattle.fault_secure.specs.Logic.{Logic, inputs_of}
use Rattle.behaviour_audit.specs.declared.reason.BehaviourReason.TheVariants as behaviour
use Rattle.unheard_cells.specs.declared.reason.PointReason.TheVariants as point
use Rattle.audit.specs.Verdict.{FitsSource}
use Rattle.audit.specs.Shown.{IsNumberOf}
use Rattle.exact_audit.specs.declared.verdict.ExactReason.TheVariants as reason
use Rattle.exact_audit.specs.declared.verdict.ExactVerdict.TheVariants.{Yes, No}
use Rattle.exact_audit.specs.ExactLaws.{ExactVerdictsAreShown}

input_shown : (M : Logic) (N : Circuit) (P : CodePlan) (input : ℕ) → inputs_of M ≤ 20 → FitsSource M N P → input < 2 ^ N.inputs → IsNumberOf N.inputs input
input_shown M N P input few fits small = record { few = omega (arith, few, fits.inputs); fits = small }

pub exact_verdicts_are_shown : ExactVerdictsAreShown
exact_verdicts_are_shown M N P Yes few is = tt
exact_verdicts_are_shown M N P (No (reason.Shape what)) few is = tt
exact_verdicts_are_shown M N P (No (reason.Behaviour behaviour.Reset)) few is = tt
exact_verdicts_are_shown M N P (No (reason.Behaviour (behaviour.Next state input))) few is = input_shown M N P input few is.0 is.1.1
exact_verdicts_are_shown M N P (No (reason.Behaviour (behaviour.Word state input))) few is = input_shown M N P input few is.0 is.1.1
exact_verdicts_are_shown M N P (No (reason.Behaviour (behaviour.Output state input place))) few is = input_shown M N P input few is.0 is.1.1
exact_verdicts_are_shown M N P (No (reason.Point (point.Quiet state input))) few is = input_shown M N P input few is.0.fits is.1.0
exact_verdicts_are_shown M N P (No (reason.Point (point.Alarm net value state input))) few is =
    (is.1.3.is_cell.inside, input_shown M N P input few is.0.fits is.1.0)
