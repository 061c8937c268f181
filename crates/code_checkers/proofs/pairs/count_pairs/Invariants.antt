use Rattle.std.proofs.Common.{◌≡◌, ◌+◌, ◌++◌, drop}
use Rattle.code_checkers.specs.Checker.{count_pairs}
use Rattle.code_checkers.specs.Draft.{meanings, pairs_at, PairsAreWithin, Keeps}
use Rattle.code_checkers.proofs.pairs.count_pairs.Given as goal

-- the pairs added so far and those of the bits that are left are all of them
abbrev pub invariant-loop-bit : goal.invariant-loop-bit
invariant-loop-bit l = record {
  made : pairs_at l.draft l.pairs.items ++ count_pairs l.place (drop l.bit-index (meanings l.fn.draft l.bits)) ≡ count_pairs l.check (meanings l.fn.draft l.bits);
  place : l.place ≡ l.check + l.bit-index;
  within : PairsAreWithin l.draft l.pairs.items;
  keeps : Keeps l.fn.draft l.draft;
}
