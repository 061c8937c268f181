use Rattle.buffered_sink.proofs.PrintLemmas.{begin, cut, ends, exits, more}
use Rattle.joint_text.specs.LineWords.{row_end}
use Rattle.joint_text.proofs.LineTexts.{row_text}
use Rattle.joint_text.proofs.cover_rows.print_row.Goals as goal

pub returns-in_err-print_literals : goal.returns-in_err-print_literals
returns-in_err-print_literals g c = record {
  printed = exits _ c.from_residual.result c.from_residual.ensures.1
      (cut (row_end c.args.width c.args.on) (begin _ _) c.in_err-print_literals.ensures.printed (row_text c.args.width c.args.row.now.care c.args.row.now.value c.args.on));
}

pub returns : goal.returns
returns g c = record {
  printed = ends c.print.result _ (row_end c.args.width c.args.on)
      (more (row_end c.args.width c.args.on) (begin _ _) c.in_ok-print_literals.ensures.printed (row_text c.args.width c.args.row.now.care c.args.row.now.value c.args.on))
      (rw (← c.row_end.ensures.end) c.print.ensures.printed);
}
