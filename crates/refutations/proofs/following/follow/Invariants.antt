-- The hints that are left lead where all of them lead.
use Rattle.std.proofs.Common.{◌≡◌, drop, length}
use Rattle.refutations.specs.Steps.{follows}
use Rattle.refutations.proofs.following.follow.Given as goal

abbrev pub invariant-loop-hint : goal.invariant-loop-hint
invariant-loop-hint l = record {
  same : follows l.clauses.clauses l.fn.known l.hints ≡ follows l.clauses.clauses l.known (drop l.hint-index l.hints);
  sized : length l.known ≡ length l.fn.known;
}
