use Rattle.std.proofs.Common.{◌≡◌, ◌-◌, ◌≤◌, length, drop, ◌++◌}
use Rattle.code_checkers.specs.Draft.{pairs_at, PairsAreWithin, Keeps}
use Rattle.code_checkers.specs.TwoRail.{level}
use Rattle.code_checkers.proofs.two_rail.level.Given as goal

-- the cells made so far and the level of what is left are the level of all
abbrev pub invariant-loop-place : goal.invariant-loop-place
invariant-loop-place l = record {
  made : pairs_at l.draft l.next.items ++ level (drop l.place (pairs_at l.fn.draft l.pairs)) ≡ level (pairs_at l.fn.draft l.pairs);
  within : PairsAreWithin l.draft l.next.items;
  keeps : Keeps l.fn.draft l.draft;
  place : l.place ≤ length l.pairs;
}

abbrev pub decreases-loop-place : goal.decreases-loop-place
decreases-loop-place l = length l.pairs - l.place
