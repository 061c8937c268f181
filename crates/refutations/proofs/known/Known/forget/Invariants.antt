-- The variables of the trail before the index are forgotten.
use Rattle.std.proofs.Common.{◌≡◌, length}
use Rattle.refutations.specs.Known.{IsTrailed}
use Rattle.refutations.proofs.known.Known.forget.Given as goal

abbrev pub invariant-loop-variable : goal.invariant-loop-variable
invariant-loop-variable l = record {
  trailed : IsTrailed l.variable-index l.self-inside.1.0.items l.variable-items;
  sized : length l.self-inside.1.0.items ≡ length l.fn.self;
}
