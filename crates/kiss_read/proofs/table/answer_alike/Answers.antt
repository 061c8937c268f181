-- Equal outputs are equal bits.
use Rattle.kiss_read.proofs.RowConflicts.{alike_from, row_outputs_below}
use Rattle.kiss_read.proofs.table.answer_alike.Goals as goal

pub returns-then-later-earlier : goal.returns-then-later-earlier
returns-then-later-earlier c = record {
  alike = λ inputs outputs states reset h g.
      alike_from outputs c.args.later.now.next c.args.earlier.now.next c.args.later.now.outputs c.args.earlier.now.outputs c.if-later-earlier.true
      (row_outputs_below inputs outputs states reset c.args.later.now h) (row_outputs_below inputs outputs states reset c.args.earlier.now g);
}
