use Rattle.std.proofs.Common.{◌≡◌, ◌*◌, ◌-◌, ◌++◌}
use Rattle.code_checkers.specs.Draft.{pairs_at, PairsAreWithin, Keeps}
use Rattle.code_checkers.specs.Tree.{word_pairs}
use Rattle.code_checkers.proofs.pair_tree.word_pairs.Given as goal

-- the pairs added so far and those that are left are all of them
abbrev pub invariant-loop-k : goal.invariant-loop-k
invariant-loop-k l = record {
  made : pairs_at l.draft l.pairs.items ++ word_pairs (2 * l.k) (l.count - l.k) ≡ word_pairs 0 l.count;
  within : PairsAreWithin l.draft l.pairs.items;
  keeps : Keeps l.fn.draft l.draft;
}
