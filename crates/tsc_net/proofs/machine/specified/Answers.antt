-- One row more: what it specifies counts where it answers.
use Rattle.tsc_net.specs.MachineView.{row_applies}
use Rattle.tsc_net.proofs.MachineLemmas.{specified_more}
use Rattle.tsc_net.proofs.machine.specified.Goals as goal

pub loop-row-preserved : goal.loop-row-preserved
loop-row-preserved c = λ k.
    specified_more (row_applies c.args.state c.args.input) c.args.rows.now c.loop-row.row-index c.loop-row.care c.specified_by-care.result k _ c.loop-row-test.true
    (c.loop-row.invariant k) (c.specified_by-care.ensures.specified k)
