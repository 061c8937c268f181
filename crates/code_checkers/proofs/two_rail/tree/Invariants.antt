use Rattle.std.proofs.Common.{◌≡◌, ◌<◌, length}
use Rattle.code_checkers.specs.Draft.{pairs_at, PairsAreWithin, Keeps}
use Rattle.code_checkers.specs.TwoRail.{tree}
use Rattle.code_checkers.proofs.two_rail.tree.Given as goal

-- the tree of what is left is the tree of all
abbrev pub invariant-levels : goal.invariant-levels
invariant-levels l = record {
  same : tree (pairs_at l.draft l.left.items) ≡ tree (pairs_at l.fn.draft l.fn.pairs.items);
  some : 0 < length l.left.items;
  within : PairsAreWithin l.draft l.left.items;
  keeps : Keeps l.fn.draft l.draft;
}

abbrev pub decreases-levels : goal.decreases-levels
decreases-levels l = length l.left.items
