-- What is answered of the structure and of the checker, whatever the source: nothing where every condition holds, else the first that doesn't.
use Rattle.std.specs.Prelude.{◌≡◌, Option, Some, None}
use Rattle.fault_secure.specs.Circuit.{Circuit}
use Rattle.fault_secure.specs.CodePlan.{CodePlan}
use Rattle.structure_audit.specs.StructureReason.{IsStructureAnswer}
use Rattle.structure_audit.specs.declared.reason.StructureReason.{StructureReason}
use Rattle.structure_audit.specs.declared.reason.StructureReason.TheVariants as structure
use Rattle.checker_audit.specs.CheckerAnswer.{IsCheckerAnswer}
use Rattle.checker_audit.specs.declared.reason.CheckerReason.{CheckerReason}
use Rattle.checker_audit.specs.declared.reason.CheckerReason.TheVariants as checker
use Rattle.audit.specs.declared.verdict.Reason.{Reason}
use Rattle.audit.specs.declared.verdict.Reason.TheVariants as reason

-- the reason of an audit that a reason of the structure is
abbrev pub of_structure : StructureReason → Reason
of_structure (structure.Rails net) = reason.Rails net
of_structure (structure.Reads at pin) = reason.Reads at pin
of_structure (structure.Sign at pin) = reason.Sign at pin
of_structure structure.Latched = reason.Latched
of_structure (structure.Shares group first second at) = reason.Shares group first second at

-- and that a reason of the checker is
abbrev pub of_checker : CheckerReason → Reason
of_checker (checker.Word value width) = reason.CheckerWord value width
of_checker (checker.Net net) = reason.CheckerNet net

-- the reason is the first one of the structure
pub record IsStructureReason (N : Circuit) (P : CodePlan) (why : Reason) : Type 0 where
  pub which : StructureReason
  pub is : why ≡ of_structure which
  pub breaks : IsStructureAnswer N P (Some which)

-- the reason is the first one of the checker
pub record IsCheckerReason (N : Circuit) (P : CodePlan) (why : Reason) : Type 0 where
  pub which : CheckerReason
  pub is : why ≡ of_checker which
  pub breaks : IsCheckerAnswer N P (Some which)

abbrev pub IsStructureStep : Circuit → CodePlan → Option Reason → Type 0
IsStructureStep N P None = IsStructureAnswer N P None
IsStructureStep N P (Some why) = IsStructureReason N P why

abbrev pub IsCheckerStep : Circuit → CodePlan → Option Reason → Type 0
IsCheckerStep N P None = IsCheckerAnswer N P None
IsCheckerStep N P (Some why) = IsCheckerReason N P why
