use Rattle.std.proofs.Common.{◌≡◌, ◌<◌, ◌++◌, length, drop}
use Rattle.code_checkers.specs.Counter.{add_carry}
use Rattle.code_checkers.specs.Gates.{meaning}
use Rattle.code_checkers.specs.Draft.{AreWithin, meanings, Keeps}
use Rattle.code_checkers.proofs.counter.add_carry.Given as goal

-- the sums made so far, and what the carry and the bits that are left give, are the sum
abbrev pub invariant-loop-bit : goal.invariant-loop-bit
invariant-loop-bit l = record {
  made : meanings l.draft l.next.items ++ add_carry l.grows (meaning l.draft l.carried) (drop l.bit-index (meanings l.fn.draft l.bits)) ≡ add_carry l.grows (meaning l.fn.draft l.fn.carry) (meanings l.fn.draft l.bits);
  within : AreWithin l.draft l.next.items;
  carried : l.carried < length l.draft;
  keeps : Keeps l.fn.draft l.draft;
}
