-- Rows that share a state overlap where their inputs meet.
use Rattle.kiss_read.proofs.RowConflicts.{overlap_from}
use Rattle.kiss_read.proofs.table.overlap.Goals as goal

pub returns-then-share_state : goal.returns-then-share_state
returns-then-share_state c = record {
  overlap = λ inputs outputs states reset h g.
      overlap_from inputs c.args.later.now.input c.args.earlier.now.input c.args.later.now.from c.args.earlier.now.from c.meet.result
      (c.meet.ensures.narrow inputs h.input g.input) c.if-share_state.ensures.share;
}
