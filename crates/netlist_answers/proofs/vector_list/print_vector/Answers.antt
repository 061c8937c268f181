use Rattle.std.proofs.Common.{[], ◌∷◌, ◌++◌}
use Rattle.buffered_sink.proofs.PrintLemmas.{IsCut-more, IsCut-then, Prints-then, exits}
use Rattle.netlist_answers.specs.VectorList.{test_end}
use Rattle.netlist_answers.proofs.vector_list.print_vector.Goals as goal

pub returns-in_err-print_fault : goal.returns-in_err-print_fault
returns-in_err-print_fault g c = record {
  printed = exits _ c.from_residual.result c.from_residual.ensures.1 (IsCut-more (test_end c.args.net.now.circuit.inputs c.args.test ++ 10 ∷ []) c.in_err-print_fault.ensures.printed);
}

pub returns-in_err-print_test : goal.returns-in_err-print_test
returns-in_err-print_test g c = record {
  printed = exits _ c.from_residual-in_err-print_test.result c.from_residual-in_err-print_test.ensures.1
      (rw (← c.inputs.ensures.count) (IsCut-then c.in_ok-print_fault.ensures.printed (IsCut-more (10 ∷ []) c.in_err-print_test.ensures.printed)));
}

pub returns : goal.returns
returns g c = record {
  printed = rw (← c.inputs.ensures.count)
      (Prints-then c.print.result _ (test_end c.inputs.result c.args.test ++ 10 ∷ []) c.in_ok-print_fault.ensures.printed
      (Prints-then c.print.result _ (10 ∷ []) c.in_ok-print_test.ensures.printed c.print.ensures.printed));
}
