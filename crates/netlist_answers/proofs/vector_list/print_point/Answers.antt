use Rattle.std.proofs.Common.{◌∷◌}
use Rattle.buffered_sink.proofs.PrintLemmas.{begin, cut, ends, exits, more}
use Rattle.sim_text.specs.StepLine.{bits_word}
use Rattle.tsc_bits.specs.Bits.{bits_of}
use Rattle.netlist_answers.specs.VectorList.{point_end}
use Rattle.netlist_answers.proofs.VectorLemmas.{point_split}
use Rattle.netlist_answers.proofs.vector_list.print_point.Goals as goal

pub returns-in_err-print_all : goal.returns-in_err-print_all
returns-in_err-print_all g c = record {
  printed = exits _ c.from_residual.result c.from_residual.ensures.1
      (cut (32 ∷ bits_word (bits_of c.args.inputs c.args.point.input)) (begin _ (point_end c.args.inputs c.args.point)) c.in_err-print_all.ensures.printed (point_split c.args.inputs c.args.point));
}

pub returns : goal.returns
returns g c =
    let rest = 32 ∷ bits_word (bits_of c.args.inputs c.args.point.input) in
    record {
      printed = ends c.print_bits.result _ rest
          (more rest (begin _ (point_end c.args.inputs c.args.point)) c.in_ok-print_all.ensures.printed (point_split c.args.inputs c.args.point)) c.print_bits.ensures.printed;
    }
