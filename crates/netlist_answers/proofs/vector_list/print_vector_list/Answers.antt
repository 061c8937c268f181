use Rattle.std.proofs.Common.{◌<◌, All, List, sym, subst}
use Rattle.buffered_sink.proofs.PrintLemmas.{IsCut-more, Prints-then, exits}
use Rattle.fault_secure.specs.Circuit.{nets}
use Rattle.fault_secure.specs.StuckAt.{StuckAt, fault_cell}
use Rattle.netlist_answers.specs.VectorList.{last_lines}
use Rattle.netlist_answers.proofs.FaultLemmas.{listed-named}
use Rattle.netlist_answers.proofs.vector_list.print_vector_list.Goals as goal

pub print_vectors-requires : goal.print_vectors-requires
print_vectors-requires g c =
    let tested = c.args.tested.now in
    let P : List StuckAt → Type 0 = λ faults. All (λ fault. fault_cell fault < nets tested.net.circuit) faults in
    record {
      known = subst P (sym c.requires.tested.listed) (listed-named tested.net.circuit);
      few = c.requires.tested.few;
      sized = c.requires.tested.sized;
    }

pub returns-in_err-print_vectors : goal.returns-in_err-print_vectors
returns-in_err-print_vectors g c =
    let tested = c.args.tested.now in
    record {
      printed = exits _ c.from_residual.result c.from_residual.ensures.1
          (rw (← c.requires.tested.listed) (IsCut-more (last_lines tested.tests) c.in_err-print_vectors.ensures.printed));
    }

pub returns : goal.returns
returns g c =
    let tested = c.args.tested.now in
    record {
      printed = rw (← c.requires.tested.listed) (Prints-then c.print_last.result _ (last_lines tested.tests) c.in_ok-print_vectors.ensures.printed c.print_last.ensures.printed);
    }
