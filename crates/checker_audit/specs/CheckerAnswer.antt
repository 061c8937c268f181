-- What an audit of the checker answers.
use Rattle.std.specs.Prelude.{◌≡◌, ◌<◌, ◌≤◌, Option, Some, None}
use Rattle.fault_secure.specs.Circuit.{Circuit}
use Rattle.fault_secure.specs.CodePlan.{CodePlan}
use Rattle.fault_secure.specs.Structure.{IsCodeDisjoint}
use Rattle.code_checkers.specs.Block.{RailsRealise}
use Rattle.checker_audit.specs.FirstMisfit.{IsFirstMismatch}
use Rattle.checker_audit.specs.Misjudged.{monitored_count, IsFirstMisjudged}
use Rattle.checker_audit.specs.declared.reason.CheckerReason.{CheckerReason}
use Rattle.checker_audit.specs.declared.reason.CheckerReason.TheVariants.{Word, Net}

-- none where the checker is code-disjoint, with at most 20 different monitored nets, or else where each rail realises its gate;
-- otherwise the first value that is misjudged, or the first net that doesn't fit its gate
abbrev pub IsCheckerAnswer : Circuit → CodePlan → Option CheckerReason → Type 0
IsCheckerAnswer N P None =
    (monitored_count N P ≤ 20 → IsCodeDisjoint N P) × (20 < monitored_count N P → RailsRealise N P)
IsCheckerAnswer N P (Some (Word value width)) = (monitored_count N P ≤ 20) × (width ≡ monitored_count N P) × IsFirstMisjudged N P value
IsCheckerAnswer N P (Some (Net net)) = (20 < monitored_count N P) × IsFirstMismatch N P net.number
