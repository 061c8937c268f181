-- Of a netlist with its plan there is at most one exact verdict.
use Rattle.std.proofs.Common.{◌≡◌, Some, None, refl, ap}
use Rattle.fault_secure.specs.Circuit.{Circuit}
use Rattle.fault_secure.specs.CodePlan.{CodePlan, IsPlanOf, IsWellMade}
use Rattle.fault_secure.specs.Logic.{Logic}
use Rattle.behaviour_audit.specs.Reason.{IsBehaviourAnswer}
use Rattle.behaviour_audit.specs.declared.reason.BehaviourReason.{BehaviourReason}
use Rattle.behaviour_audit.proofs.Determined.{one_answer as one_behaviour}
use Rattle.audit.specs.declared.verdict.Shape.{Shape}
use Rattle.audit.specs.declared.verdict.Shape.TheVariants.{Inputs, Outputs, States}
use Rattle.audit.specs.Verdict.{FitsSource, HasOther}
use Rattle.unheard_cells.specs.PointReason.{IsPointAnswer}
use Rattle.unheard_cells.specs.declared.reason.PointReason.{PointReason}
use Rattle.unheard_cells.proofs.Determined.{one_point_answer}
use Rattle.exact_audit.specs.declared.verdict.ExactReason.{ExactReason}
use Rattle.exact_audit.specs.declared.verdict.ExactReason.TheVariants as reason
use Rattle.exact_audit.specs.declared.verdict.ExactVerdict.{ExactVerdict}
use Rattle.exact_audit.specs.declared.verdict.ExactVerdict.TheVariants.{Yes, No}
use Rattle.exact_audit.specs.ExactVerdict.{IsExactVerdict}
use Rattle.exact_audit.specs.ExactLaws.{OneExactVerdict, NoOfANetworkRefutes}
use Rattle.exact_audit.proofs.Secure.{networks_are_decided_exactly}

none_is_some : (A : Type 0) (a : A) → None ≡ Some a → ⊥
none_is_some A a e = cc

some_is_one : (A : Type 0) (a b : A) → Some a ≡ Some b → a ≡ b
some_is_one A a b e = cc

yes_or_no : (why : ExactReason) → Yes ≡ No why → ⊥
yes_or_no why e = cc

module _ (M : Logic) (N : Circuit) (P : CodePlan) (of : IsPlanOf N P) (made : IsWellMade P) where
  fits_or_other : (what : Shape) → FitsSource M N P → HasOther M N P what → ⊥
  fits_or_other Inputs fits other = other fits.inputs
  fits_or_other Outputs fits other = other.1 fits.outputs
  fits_or_other States fits other = other.1.1 fits.states

  one_shape : (a b : Shape) → HasOther M N P a → HasOther M N P b → a ≡ b
  one_shape Inputs Inputs first second = refl
  one_shape Inputs Outputs first second = absurd (first second.0)
  one_shape Inputs States first second = absurd (first second.0)
  one_shape Outputs Inputs first second = absurd (second first.0)
  one_shape Outputs Outputs first second = refl
  one_shape Outputs States first second = absurd (first.1 second.1.0)
  one_shape States Inputs first second = absurd (second first.0)
  one_shape States Outputs first second = absurd (second.1 first.1.0)
  one_shape States States first second = refl

  follows_or_breaks : (why : BehaviourReason) → IsBehaviourAnswer M N P None → IsBehaviourAnswer M N P (Some why) → ⊥
  follows_or_breaks why follows breaks = none_is_some BehaviourReason why (one_behaviour M N P None (Some why) of made follows breaks)

  heard_or_wrong : (why : PointReason) → IsPointAnswer N P None → IsPointAnswer N P (Some why) → ⊥
  heard_or_wrong why heard wrong = none_is_some PointReason why (one_point_answer N P None (Some why) heard wrong)

  pub the_same : (a b : ExactVerdict) → IsExactVerdict M N P a → IsExactVerdict M N P b → a ≡ b
  the_same Yes Yes first second = refl
  the_same Yes (No (reason.Shape b)) first second = absurd (fits_or_other b first.0.fits second)
  the_same Yes (No (reason.Behaviour b)) first second = absurd (follows_or_breaks b first.0.follows second.1)
  the_same Yes (No (reason.Point b)) first second = absurd (heard_or_wrong b first.1 second.1)
  the_same (No (reason.Shape a)) Yes first second = absurd (fits_or_other a second.0.fits first)
  the_same (No (reason.Shape a)) (No (reason.Shape b)) first second = ap (λ (s : Shape). No (reason.Shape s)) (one_shape a b first second)
  the_same (No (reason.Shape a)) (No (reason.Behaviour b)) first second = absurd (fits_or_other a second.0 first)
  the_same (No (reason.Shape a)) (No (reason.Point b)) first second = absurd (fits_or_other a second.0.fits first)
  the_same (No (reason.Behaviour a)) Yes first second = absurd (follows_or_breaks a second.0.follows first.1)
  the_same (No (reason.Behaviour a)) (No (reason.Shape b)) first second = absurd (fits_or_other b first.0 second)
  the_same (No (reason.Behaviour a)) (No (reason.Behaviour b)) first second =
      ap (λ (r : BehaviourReason). No (reason.Behaviour r)) (some_is_one BehaviourReason a b (one_behaviour M N P (Some a) (Some b) of made first.1 second.1))
  the_same (No (reason.Behaviour a)) (No (reason.Point b)) first second = absurd (follows_or_breaks a second.0.follows first.1)
  the_same (No (reason.Point a)) Yes first second = absurd (heard_or_wrong a second.1 first.1)
  the_same (No (reason.Point a)) (No (reason.Shape b)) first second = absurd (fits_or_other b first.0.fits second)
  the_same (No (reason.Point a)) (No (reason.Behaviour b)) first second = absurd (follows_or_breaks b first.0.follows second.1)
  the_same (No (reason.Point a)) (No (reason.Point b)) first second =
      ap (λ (r : PointReason). No (reason.Point r)) (some_is_one PointReason a b (one_point_answer N P (Some a) (Some b) first.1 second.1))

-- of a source and a netlist with a well-made plan of it there is at most one exact verdict: two are the same
pub one_exact_verdict : OneExactVerdict
one_exact_verdict M N P first second of made is other = the_same M N P of made first second is other

pub no_of_a_network_refutes : NoOfANetworkRefutes
no_of_a_network_refutes M N P why one planned fits none is secure =
    yes_or_no why (one_exact_verdict M N P Yes (No why) planned.plan_of planned.well_made ((networks_are_decided_exactly M N P one planned fits none).1 secure) is)
