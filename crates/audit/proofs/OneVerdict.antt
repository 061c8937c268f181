-- Of a netlist with its plan there is at most one verdict: each part of an audit has at most one answer, and a later part is asked only where no earlier
-- one found anything.
use Rattle.std.proofs.Common.{◌≡◌, Some, None, refl, sym, ◌∙◌, ap}
use Rattle.fault_secure.specs.Circuit.{Circuit}
use Rattle.fault_secure.specs.CodePlan.{CodePlan, IsPlanOf, IsWellMade}
use Rattle.fault_secure.specs.Logic.{Logic}
use Rattle.structure_audit.specs.StructureReason.{IsStructureAnswer}
use Rattle.structure_audit.specs.declared.reason.StructureReason.{StructureReason}
use Rattle.structure_audit.specs.declared.reason.StructureReason.TheVariants as structure
use Rattle.structure_audit.proofs.Determined.{one_answer as one_structure}
use Rattle.behaviour_audit.specs.Reason.{IsBehaviourAnswer}
use Rattle.behaviour_audit.specs.declared.reason.BehaviourReason.{BehaviourReason}
use Rattle.behaviour_audit.specs.declared.reason.BehaviourReason.TheVariants as behaviour
use Rattle.behaviour_audit.proofs.Determined.{one_answer as one_behaviour}
use Rattle.checker_audit.specs.CheckerAnswer.{IsCheckerAnswer}
use Rattle.checker_audit.specs.declared.reason.CheckerReason.{CheckerReason}
use Rattle.checker_audit.specs.declared.reason.CheckerReason.TheVariants as checker
use Rattle.checker_audit.proofs.Determined.{one_answer as one_checker}
use Rattle.audit.specs.declared.verdict.Shape.{Shape}
use Rattle.audit.specs.declared.verdict.Shape.TheVariants.{Inputs, Outputs, States}
use Rattle.audit.specs.declared.verdict.Reason.TheVariants as reason
use Rattle.audit.specs.declared.verdict.Verdict.{Verdict}
use Rattle.audit.specs.declared.verdict.Verdict.TheVariants.{Yes, No}
use Rattle.audit.specs.Verdict.{FitsSource, HasOther, IsAccepted, BreaksStructure, BreaksBehaviour, BreaksChecker, IsVerdict}
use Rattle.audit.specs.Laws.{OneVerdict}

-- which part of an audit a verdict comes from, and what that part found
data Outcome : Type 0 where
  Accepted : Outcome
  OfShape : Shape → Outcome
  OfStructure : StructureReason → Outcome
  OfBehaviour : BehaviourReason → Outcome
  OfChecker : CheckerReason → Outcome

-- the verdict of an outcome, and the outcome of a verdict
abbrev verdict_of : Outcome → Verdict
verdict_of Accepted = Yes
verdict_of (OfShape what) = No (reason.Shape what)
verdict_of (OfStructure (structure.Rails net)) = No (reason.Rails net)
verdict_of (OfStructure (structure.Reads at pin)) = No (reason.Reads at pin)
verdict_of (OfStructure (structure.Sign at pin)) = No (reason.Sign at pin)
verdict_of (OfStructure structure.Latched) = No reason.Latched
verdict_of (OfStructure (structure.Shares group first second at)) = No (reason.Shares group first second at)
verdict_of (OfBehaviour behaviour.Reset) = No reason.Reset
verdict_of (OfBehaviour (behaviour.Next state input)) = No (reason.Next state input)
verdict_of (OfBehaviour (behaviour.Word state input)) = No (reason.Word state input)
verdict_of (OfBehaviour (behaviour.Output state input place)) = No (reason.Output state input place)
verdict_of (OfChecker (checker.Word value width)) = No (reason.CheckerWord value width)
verdict_of (OfChecker (checker.Net net)) = No (reason.CheckerNet net)

abbrev outcome_of : Verdict → Outcome
outcome_of Yes = Accepted
outcome_of (No (reason.Shape what)) = OfShape what
outcome_of (No (reason.Rails net)) = OfStructure (structure.Rails net)
outcome_of (No (reason.Reads at pin)) = OfStructure (structure.Reads at pin)
outcome_of (No (reason.Sign at pin)) = OfStructure (structure.Sign at pin)
outcome_of (No reason.Latched) = OfStructure structure.Latched
outcome_of (No (reason.Shares group first second at)) = OfStructure (structure.Shares group first second at)
outcome_of (No reason.Reset) = OfBehaviour behaviour.Reset
outcome_of (No (reason.Next state input)) = OfBehaviour (behaviour.Next state input)
outcome_of (No (reason.Word state input)) = OfBehaviour (behaviour.Word state input)
outcome_of (No (reason.Output state input place)) = OfBehaviour (behaviour.Output state input place)
outcome_of (No (reason.CheckerWord value width)) = OfChecker (checker.Word value width)
outcome_of (No (reason.CheckerNet net)) = OfChecker (checker.Net net)

and_back : (verdict : Verdict) → verdict_of (outcome_of verdict) ≡ verdict
and_back Yes = refl
and_back (No (reason.Shape what)) = refl
and_back (No (reason.Rails net)) = refl
and_back (No (reason.Reads at pin)) = refl
and_back (No (reason.Sign at pin)) = refl
and_back (No reason.Latched) = refl
and_back (No (reason.Shares group first second at)) = refl
and_back (No reason.Reset) = refl
and_back (No (reason.Next state input)) = refl
and_back (No (reason.Word state input)) = refl
and_back (No (reason.Output state input place)) = refl
and_back (No (reason.CheckerWord value width)) = refl
and_back (No (reason.CheckerNet net)) = refl

-- what the parts found before an outcome, and in it
abbrev IsOutcome : Logic → Circuit → CodePlan → Outcome → Type 0
IsOutcome M N P Accepted = IsAccepted M N P
IsOutcome M N P (OfShape what) = HasOther M N P what
IsOutcome M N P (OfStructure why) = BreaksStructure M N P why
IsOutcome M N P (OfBehaviour why) = BreaksBehaviour M N P why
IsOutcome M N P (OfChecker why) = BreaksChecker M N P why

is_outcome : (M : Logic) (N : Circuit) (P : CodePlan) (verdict : Verdict) → IsVerdict M N P verdict → IsOutcome M N P (outcome_of verdict)
is_outcome M N P Yes is = is
is_outcome M N P (No (reason.Shape what)) is = is
is_outcome M N P (No (reason.Rails net)) is = is
is_outcome M N P (No (reason.Reads at pin)) is = is
is_outcome M N P (No (reason.Sign at pin)) is = is
is_outcome M N P (No reason.Latched) is = is
is_outcome M N P (No (reason.Shares group first second at)) is = is
is_outcome M N P (No reason.Reset) is = is
is_outcome M N P (No (reason.Next state input)) is = is
is_outcome M N P (No (reason.Word state input)) is = is
is_outcome M N P (No (reason.Output state input place)) is = is
is_outcome M N P (No (reason.CheckerWord value width)) is = is
is_outcome M N P (No (reason.CheckerNet net)) is = is

none_is_some : (A : Type 0) (a : A) → None ≡ Some a → ⊥
none_is_some A a e = cc

some_is_one : (A : Type 0) (a b : A) → Some a ≡ Some b → a ≡ b
some_is_one A a b e = cc

module _ (M : Logic) (N : Circuit) (P : CodePlan) (of : IsPlanOf N P) (made : IsWellMade P) where
  -- ---- each part has at most one answer

  fits_or_other : (what : Shape) → FitsSource M N P → HasOther M N P what → ⊥
  fits_or_other Inputs fits other = other fits.inputs
  fits_or_other Outputs fits other = other.1 fits.outputs
  fits_or_other States fits other = other.1.1 fits.states

  one_shape : (a b : Shape) → HasOther M N P a → HasOther M N P b → a ≡ b
  one_shape Inputs Inputs first second = refl
  one_shape Inputs Outputs first second = absurd (first second.0)
  one_shape Inputs States first second = absurd (first second.0)
  one_shape Outputs Inputs first second = absurd (second first.0)
  one_shape Outputs Outputs first second = refl
  one_shape Outputs States first second = absurd (first.1 second.1.0)
  one_shape States Inputs first second = absurd (second first.0)
  one_shape States Outputs first second = absurd (second.1 first.1.0)
  one_shape States States first second = refl

  sound_or_broken : (why : StructureReason) → IsStructureAnswer N P None → IsStructureAnswer N P (Some why) → ⊥
  sound_or_broken why sound broken = none_is_some StructureReason why (one_structure N P None (Some why) sound broken)

  follows_or_breaks : (why : BehaviourReason) → IsBehaviourAnswer M N P None → IsBehaviourAnswer M N P (Some why) → ⊥
  follows_or_breaks why follows breaks = none_is_some BehaviourReason why (one_behaviour M N P None (Some why) of made follows breaks)

  decides_or_misses : (why : CheckerReason) → IsCheckerAnswer N P None → IsCheckerAnswer N P (Some why) → ⊥
  decides_or_misses why decides misses = none_is_some CheckerReason why (one_checker N P None (Some why) decides misses)

  -- ---- so there is one outcome: of two different parts the earlier one found nothing and something

  one_outcome : (a b : Outcome) → IsOutcome M N P a → IsOutcome M N P b → a ≡ b
  one_outcome Accepted Accepted first second = refl
  one_outcome Accepted (OfShape b) first second = absurd (fits_or_other b first.before.before.fits second)
  one_outcome Accepted (OfStructure b) first second = absurd (sound_or_broken b first.before.before.structure second.1)
  one_outcome Accepted (OfBehaviour b) first second = absurd (follows_or_breaks b first.before.follows second.1)
  one_outcome Accepted (OfChecker b) first second = absurd (decides_or_misses b first.checker second.1)
  one_outcome (OfShape a) Accepted first second = absurd (fits_or_other a second.before.before.fits first)
  one_outcome (OfShape a) (OfShape b) first second = ap OfShape (one_shape a b first second)
  one_outcome (OfShape a) (OfStructure b) first second = absurd (fits_or_other a second.0 first)
  one_outcome (OfShape a) (OfBehaviour b) first second = absurd (fits_or_other a second.0.fits first)
  one_outcome (OfShape a) (OfChecker b) first second = absurd (fits_or_other a second.0.before.fits first)
  one_outcome (OfStructure a) Accepted first second = absurd (sound_or_broken a second.before.before.structure first.1)
  one_outcome (OfStructure a) (OfShape b) first second = absurd (fits_or_other b first.0 second)
  one_outcome (OfStructure a) (OfStructure b) first second =
      ap OfStructure (some_is_one StructureReason a b (one_structure N P (Some a) (Some b) first.1 second.1))
  one_outcome (OfStructure a) (OfBehaviour b) first second = absurd (sound_or_broken a second.0.structure first.1)
  one_outcome (OfStructure a) (OfChecker b) first second = absurd (sound_or_broken a second.0.before.structure first.1)
  one_outcome (OfBehaviour a) Accepted first second = absurd (follows_or_breaks a second.before.follows first.1)
  one_outcome (OfBehaviour a) (OfShape b) first second = absurd (fits_or_other b first.0.fits second)
  one_outcome (OfBehaviour a) (OfStructure b) first second = absurd (sound_or_broken b first.0.structure second.1)
  one_outcome (OfBehaviour a) (OfBehaviour b) first second =
      ap OfBehaviour (some_is_one BehaviourReason a b (one_behaviour M N P (Some a) (Some b) of made first.1 second.1))
  one_outcome (OfBehaviour a) (OfChecker b) first second = absurd (follows_or_breaks a second.0.follows first.1)
  one_outcome (OfChecker a) Accepted first second = absurd (decides_or_misses a second.checker first.1)
  one_outcome (OfChecker a) (OfShape b) first second = absurd (fits_or_other b first.0.before.fits second)
  one_outcome (OfChecker a) (OfStructure b) first second = absurd (sound_or_broken b first.0.before.structure second.1)
  one_outcome (OfChecker a) (OfBehaviour b) first second = absurd (follows_or_breaks b first.0.follows second.1)
  one_outcome (OfChecker a) (OfChecker b) first second =
      ap OfChecker (some_is_one CheckerReason a b (one_checker N P (Some a) (Some b) first.1 second.1))

  pub the_same : (first second : Verdict) → IsVerdict M N P first → IsVerdict M N P second → first ≡ second
  the_same first second is other =
      sym (and_back first) ∙ ap verdict_of (one_outcome (outcome_of first) (outcome_of second) (is_outcome M N P first is) (is_outcome M N P second other))
      ∙ and_back second

-- of a source and a netlist with a well-made plan of it there is at most one verdict: two are the same
pub one_verdict : OneVerdict
one_verdict M N P first second of made is other = the_same M N P of made first second is other
