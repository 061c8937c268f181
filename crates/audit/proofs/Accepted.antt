-- A netlist that an audit accepts is of sound structure and follows its source, so it is secure; and a self-checking one is accepted.
use Rattle.std.proofs.Common.{inl, inr, None, Some, subst, sym}
use Rattle.std.proofs.lemmas.Bool.{cases_lt}
use Rattle.fault_secure.specs.Circuit.{Circuit}
use Rattle.fault_secure.specs.CodePlan.{CodePlan}
use Rattle.fault_secure.specs.Structure.{IsCodeDisjoint}
use Rattle.fault_secure.specs.SoundStructure.{HasSoundStructure}
use Rattle.fault_secure.specs.Logic.{Logic}
use Rattle.code_checkers.proofs.Block.{checker_sound}
use Rattle.structure_laws.proofs.SoundCodes.{sound_is_cell_secure, sound_is_fault_secure}
use Rattle.checker_audit.specs.CheckerAnswer.{IsCheckerAnswer}
use Rattle.checker_audit.specs.Misjudged.{monitored_count}
use Rattle.structure_audit.specs.StructureReason.{IsStructureAnswer}
use Rattle.behaviour_audit.specs.Reason.{IsBehaviourAnswer}
use Rattle.behaviour_audit.specs.declared.reason.BehaviourReason.{BehaviourReason}
use Rattle.structure_audit.specs.declared.reason.StructureReason.{StructureReason}
use Rattle.structure_audit.specs.declared.reason.StructureReason.TheVariants as structure
use Rattle.checker_audit.specs.declared.reason.CheckerReason.{CheckerReason}
use Rattle.checker_audit.specs.declared.reason.CheckerReason.TheVariants as checker
use Rattle.audit.specs.declared.verdict.Reason.{Reason}
use Rattle.audit.specs.Conditions.{of_checker, of_structure, IsCheckerReason, IsStructureReason}
use Rattle.audit.specs.Verdict.{FitsSource, Behaves, IsAccepted, IsFirstReason, BreaksBehaviour, BreaksChecker, BreaksStructure}
use Rattle.audit.specs.Laws.{AcceptedIsSecure, SelfCheckingIsAccepted, IsPlanned}

-- an accepted checker is code-disjoint
disjoint : (N : Circuit) (P : CodePlan) → IsPlanned N P → IsCheckerAnswer N P None → IsCodeDisjoint N P
disjoint N P planned checker =
    elim (cases_lt 20 (monitored_count N P)) [
      | inr few ↦ checker.0 few
      | inl many ↦ (checker_sound N P planned.well_made planned.plan_of (checker.1 many)).decides
    ]

-- an accepted netlist is of sound structure
pub sound : (M : Logic) (N : Circuit) (P : CodePlan) → IsPlanned N P → IsAccepted M N P → HasSoundStructure N P
sound M N P planned is = record {
  well_made = planned.well_made;
  plan_of = planned.plan_of;
  closed = planned.closed;
  acyclic = planned.acyclic;
  rails = is.before.before.structure.0;
  reads = is.before.before.structure.1;
  suits = is.before.before.structure.2;
  checker = disjoint N P planned is.checker;
}

-- an accepted netlist is secure for its source, against any one failing cell and against each listed fault
pub accepted_is_secure : AcceptedIsSecure
accepted_is_secure M N P planned is =
    (sound_is_cell_secure M N P (sound M N P planned is) is.before.follows, sound_is_fault_secure M N P (sound M N P planned is) is.before.follows)

-- a self-checking netlist that fits its source is accepted
pub self_checking_is_accepted : SelfCheckingIsAccepted
self_checking_is_accepted M N P is fits = record {
  before = record {
    before = record { fits = fits; structure = (is.structure.rails, is.structure.reads, is.structure.suits) };
    follows = is.follows;
  };
  checker = (λ few. is.structure.checker, λ many. is.rails);
}

-- a netlist that fits its source and has the right structure breaks with the source's behaviour for the answered reason
pub breaks_behaviour : (M : Logic) (N : Circuit) (P : CodePlan) (why : BehaviourReason) → FitsSource M N P → IsStructureAnswer N P None
    → IsBehaviourAnswer M N P (Some why) → BreaksBehaviour M N P why
breaks_behaviour M N P why fits structure answer = (record { fits = fits; structure = structure }, answer)

-- a netlist that fits its source has the reason of its structure as the first one
by_structure : (M : Logic) (N : Circuit) (P : CodePlan) (which : StructureReason) → BreaksStructure M N P which → IsFirstReason M N P (of_structure which)
by_structure M N P (structure.Rails net) breaks = breaks
by_structure M N P (structure.Reads at pin) breaks = breaks
by_structure M N P (structure.Sign at pin) breaks = breaks
by_structure M N P structure.Latched breaks = breaks
by_structure M N P (structure.Shares group first second at) breaks = breaks

pub first_of_structure : (M : Logic) (N : Circuit) (P : CodePlan) (why : Reason) → FitsSource M N P → IsStructureReason N P why → IsFirstReason M N P why
first_of_structure M N P why fits found = subst (IsFirstReason M N P) (sym found.is) (by_structure M N P found.which (fits, found.breaks))

-- and one that follows its source too has that of its checker
by_checker : (M : Logic) (N : Circuit) (P : CodePlan) (which : CheckerReason) → BreaksChecker M N P which → IsFirstReason M N P (of_checker which)
by_checker M N P (checker.Word value width) breaks = breaks
by_checker M N P (checker.Net net) breaks = breaks

pub first_of_checker : (M : Logic) (N : Circuit) (P : CodePlan) (why : Reason) → Behaves M N P → IsCheckerReason N P why → IsFirstReason M N P why
first_of_checker M N P why behaves found = subst (IsFirstReason M N P) (sym found.is) (by_checker M N P found.which (behaves, found.breaks))
