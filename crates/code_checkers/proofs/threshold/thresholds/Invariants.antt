use Rattle.std.proofs.Common.{◌≡◌, drop}
use Rattle.code_checkers.specs.Draft.{AreWithin, meanings, Keeps}
use Rattle.code_checkers.specs.Threshold.{thresholds_from, thresholds}
use Rattle.code_checkers.proofs.threshold.thresholds.Given as goal

-- the row so far, with what is left, gives the thresholds of all
abbrev pub invariant-loop-x : goal.invariant-loop-x
invariant-loop-x l = record {
  made : thresholds_from (meanings l.draft l.row.items) (drop l.x-index (meanings l.fn.draft l.list)) ≡ thresholds (meanings l.fn.draft l.list);
  within : AreWithin l.draft l.row.items;
  keeps : Keeps l.fn.draft l.draft;
}
