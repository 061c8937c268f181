use Rattle.std.proofs.Common.{◌≡◌, ◌+◌, ◌*◌, ◌^◌, ◌<◌, length, drop}
use Rattle.code_checkers.specs.Counter.{count_from, count_zeros}
use Rattle.code_checkers.specs.Draft.{AreWithin, meanings, Keeps}
use Rattle.code_checkers.proofs.counter.count_zeros.Given as goal

-- counting on from the bits so far, over what is left, counts the zeros of all; the bits are no more than the number needs
abbrev pub invariant-loop-item : goal.invariant-loop-item
invariant-loop-item l = record {
  made : count_from l.number (meanings l.draft l.bits.items) (drop l.item-index (meanings l.fn.draft l.items)) ≡ count_zeros (meanings l.fn.draft l.items);
  within : AreWithin l.draft l.bits.items;
  number : l.number ≡ l.item-index + 1;
  tight : 2 ^ length l.bits.items < 2 * l.number;
  keeps : Keeps l.fn.draft l.draft;
}
