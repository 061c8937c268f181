use Rattle.buffered_sink.proofs.PrintLemmas.{IsCut-more, Prints-then, exits}
use Rattle.fault_secure.specs.Circuit.{node}
use Rattle.tsc_text.specs.Written.{text_of}
use Rattle.blif_write.specs.Layout.{row_lines}
use Rattle.joint_text.proofs.part_lines.print_node.Goals as goal

pub returns-in_err-print_names_line : goal.returns-in_err-print_names_line
returns-in_err-print_names_line g c = record {
  printed = exits _ c.from_residual.result c.from_residual.ensures.1
      (IsCut-more (text_of (row_lines (node c.args.net.now.circuit c.args.place).cover)) c.in_err-print_names_line.ensures.printed);
}

pub returns : goal.returns
returns g c = record {
  printed = Prints-then c.print_cover.result _ (text_of (row_lines (node c.args.net.now.circuit c.args.place).cover)) c.in_ok-print_names_line.ensures.printed
      (rw (← c.node_cover.ensures.cover) c.print_cover.ensures.printed);
}
