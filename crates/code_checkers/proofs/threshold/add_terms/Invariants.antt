use Rattle.std.proofs.Common.{◌≡◌, ◌-◌, ◌++◌}
use Rattle.code_checkers.specs.Draft.{AreWithin, meanings, Keeps}
use Rattle.code_checkers.specs.Threshold.{terms_from}
use Rattle.code_checkers.proofs.threshold.add_terms.Given as goal

-- the terms made so far and those from term t on are all terms
abbrev pub invariant-loop-t : goal.invariant-loop-t
invariant-loop-t l = record {
  made : meanings l.draft l.terms.items ++ terms_from (meanings l.fn.draft l.firsts) (meanings l.fn.draft l.seconds) l.m l.t (l.count - l.t) ≡ terms_from (meanings l.fn.draft l.firsts) (meanings l.fn.draft l.seconds) l.m 0 l.count;
  within : AreWithin l.draft l.terms.items;
  keeps : Keeps l.fn.draft l.draft;
}
