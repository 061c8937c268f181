use Rattle.joint_text.proofs.PartSteps.{row_step}
use Rattle.buffered_sink.proofs.PrintLemmas.{begin, cut, exits, more}
use Rattle.joint_text.proofs.cover_rows.print_rows.Goals as goal

pub loop-row-init : goal.loop-row-init
loop-row-init g c = begin _ _

pub returns-in_err-print_row : goal.returns-in_err-print_row
returns-in_err-print_row g c = record {
  printed = exits _ c.from_residual.result c.from_residual.ensures.1
      (cut _ c.loop-row.invariant c.in_err-print_row.ensures.printed
      (row_step c.args.rows.now c.loop-row.row-index _ c.args.width c.args.on c.loop-row-test.true));
}

pub loop-row-preserved : goal.loop-row-preserved
loop-row-preserved g c =
    more _ c.loop-row.invariant c.in_ok-print_row.ensures.printed
    (row_step c.args.rows.now c.loop-row.row-index _ c.args.width c.args.on c.loop-row-test.true)
