use Rattle.std.proofs.Common.{◌≡◌}
use Rattle.settle_bench.proofs.settling.settle_often.Given as goal

abbrev pub invariant-loop-settle : goal.invariant-loop-settle
invariant-loop-settle l = record {
  circuit : l.bench.circuit ≡ l.initial.bench.circuit;
  watched : l.bench.watched ≡ l.initial.bench.watched;
}
