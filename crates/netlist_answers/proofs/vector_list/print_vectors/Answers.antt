use Rattle.buffered_sink.proofs.PrintLemmas.{begin, cut, exits, more}
use Rattle.fault_secure.specs.Circuit.{nets}
use Rattle.tsc_net.specs.Fault.{stuck_at}
use Rattle.netlist_answers.proofs.FaultLemmas.{all-found}
use Rattle.netlist_answers.proofs.VectorLemmas.{vectors_next}
use Rattle.netlist_answers.proofs.vector_list.print_vectors.Goals as goal

pub loop-place-init : goal.loop-place-init
loop-place-init g c = begin _ _

pub print_vector-requires : goal.print_vector-requires
print_vector-requires g c = record {
  known = all-found (nets c.args.net.now.circuit) c.args.faults.now c.loop-place.place (stuck_at c.get.result) c.requires.known c.get.ensures.found;
  few = c.requires.few;
}

pub returns-in_err-print_vector : goal.returns-in_err-print_vector
returns-in_err-print_vector g c = record {
  printed = exits _ c.from_residual.result c.from_residual.ensures.1
      (cut _ c.loop-place.invariant c.in_err-print_vector.ensures.printed
      (vectors_next c.args.net.now c.args.faults.now c.args.tests.now c.loop-place.place (stuck_at c.get.result) c.get-in-loop-place.result
      c.get.ensures.found c.get-in-loop-place.ensures.found));
}

pub loop-place-preserved : goal.loop-place-preserved
loop-place-preserved g c =
    more _ c.loop-place.invariant c.in_ok-print_vector.ensures.printed
    (vectors_next c.args.net.now c.args.faults.now c.args.tests.now c.loop-place.place (stuck_at c.get.result) c.get-in-loop-place.result
    c.get.ensures.found c.get-in-loop-place.ensures.found)
