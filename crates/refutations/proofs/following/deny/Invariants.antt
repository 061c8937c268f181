-- The first literals are known to be false.
use Rattle.std.proofs.Common.{◌≡◌, drop, length}
use Rattle.refutations.specs.Steps.{with_false}
use Rattle.refutations.proofs.following.deny.Given as goal

abbrev pub invariant-loop-literal : goal.invariant-loop-literal
invariant-loop-literal l = record {
  denied : with_false l.fn.known l.literals ≡ with_false l.known (drop l.literal-index l.literals);
  sized : length l.known ≡ length l.fn.known;
}
