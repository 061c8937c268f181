-- Rows that overlap conflict where they don't answer alike.
use Rattle.std.proofs.Common.{◌&&◌, ◌==◌, not, ap, ◌∙◌}
use Rattle.fault_secure.specs.FaultSecure.{equal_bits}
use Rattle.tsc_net.specs.MachineView.{transition_of}
use Rattle.kiss_read.proofs.RowConflicts.{conflict_from}
use Rattle.kiss_read.proofs.table.rows_conflict.Goals as goal

pub returns-then-overlap : goal.returns-then-overlap
returns-then-overlap c = record {
  conflict = λ inputs outputs states reset h g.
      conflict_from _ c.answer_alike.result (transition_of inputs outputs c.args.later.now) (transition_of inputs outputs c.args.earlier.now)
      (c.if-overlap.ensures.overlap inputs outputs states reset h g) (c.answer_alike.ensures.alike inputs outputs states reset h g);
}

pub returns-else-overlap : goal.returns-else-overlap
returns-else-overlap c = record {
  conflict = λ inputs outputs states reset h g.
      let a = transition_of inputs outputs c.args.later.now in
      let b = transition_of inputs outputs c.args.earlier.now in
      c.if-overlap.false ∙ ap (λ met. met && not (a.next == b.next && equal_bits a.outputs b.outputs)) (c.if-overlap.ensures.overlap inputs outputs states reset h g);
}
