use Rattle.buffered_sink.proofs.PrintLemmas.{begin, cut, ends, exits, more}
use Rattle.std.proofs.Common.{ℕ, ◌-◌, ap}
use Rattle.netlist_answers.specs.VectorList.{last_lines}
use Rattle.netlist_answers.proofs.VectorLemmas.{last_split}
use Rattle.netlist_answers.proofs.vector_list.print_last.Goals as goal

pub returns-in_err-print_counts : goal.returns-in_err-print_counts
returns-in_err-print_counts g c = record {
  printed = exits _ c.from_residual.result c.from_residual.ensures.1
      (cut _ (begin _ (last_lines c.args.tests.now)) c.in_err-print_counts.ensures.printed
      (last_split c.args.tests.now c.testable-testable.result (c.len.result - c.testable-testable.result) c.testable-testable.ensures.count
      (ap (λ (n : ℕ). n - c.testable-testable.result) c.len.ensures.count)));
}

pub returns : goal.returns
returns g c = record {
  printed = ends c.print_verdict.result _ _
      (more _ (begin _ (last_lines c.args.tests.now)) c.in_ok-print_counts.ensures.printed
      (last_split c.args.tests.now c.testable-testable.result (c.len.result - c.testable-testable.result) c.testable-testable.ensures.count
      (ap (λ (n : ℕ). n - c.testable-testable.result) c.len.ensures.count))) c.print_verdict.ensures.printed;
}
