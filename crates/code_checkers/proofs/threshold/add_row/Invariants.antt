use Rattle.std.proofs.Common.{◌≡◌, ◌<◌, ◌++◌, length, drop}
use Rattle.code_checkers.specs.Gates.{meaning}
use Rattle.code_checkers.specs.Draft.{AreWithin, meanings, Keeps}
use Rattle.code_checkers.specs.Threshold.{row_from}
use Rattle.code_checkers.proofs.threshold.add_row.Given as goal

-- the thresholds made so far, and those that what is left gives, are the row
abbrev pub invariant-loop-threshold : goal.invariant-loop-threshold
invariant-loop-threshold l = record {
  made : meanings l.draft l.next.items ++ row_from (meaning l.draft l.carried) (meaning l.fn.draft l.x) (drop l.threshold-index (meanings l.fn.draft l.row)) ≡ row_from (meaning l.fn.draft l.x) (meaning l.fn.draft l.x) (meanings l.fn.draft l.row);
  within : AreWithin l.draft l.next.items;
  carried : l.carried < length l.draft;
  keeps : Keeps l.fn.draft l.draft;
}
