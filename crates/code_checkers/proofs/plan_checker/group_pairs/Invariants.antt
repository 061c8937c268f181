use Rattle.std.proofs.Common.{◌≡◌, ◌+◌, ◌++◌, map, drop}
use Rattle.code_checkers.specs.Checker.{group_pairs}
use Rattle.code_checkers.specs.Draft.{pairs_at, PairsAreWithin, Keeps}
use Rattle.code_checkers.proofs.plan_checker.group_pairs.Given as goal

-- the pairs added so far and those of the groups that are left are all of them
abbrev pub invariant-loop-group : goal.invariant-loop-group
invariant-loop-group l = record {
  made : pairs_at l.draft l.pairs.items ++ group_pairs l.place (map (λ group. group.places) (drop l.group-index l.groups)) ≡ group_pairs l.check (map (λ group. group.places) l.groups);
  place : l.place ≡ l.check + l.group-index;
  within : PairsAreWithin l.draft l.pairs.items;
  keeps : Keeps l.fn.draft l.draft;
}
