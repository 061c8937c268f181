-- One row after the other.
use Rattle.std.proofs.Common.{refl}
use Rattle.pla_read.proofs.CoverLists.{some_first, some_next}
use Rattle.pla_read.proofs.table.some_marks.Goals as goal

pub loop-row-init : goal.loop-row-init
loop-row-init c = λ inputs outputs place below. some_first outputs place below

pub loop-row-preserved : goal.loop-row-preserved
loop-row-preserved c = λ inputs outputs place below.
    some_next c.args.mark inputs outputs place c.args.rows.now c.loop-row.row _ _ c.loop-row.some c.marks_in-some.result below (c.loop-row.invariant inputs outputs place below)
    c.loop-row-test.true refl c.marks_in-some.ensures.marks
