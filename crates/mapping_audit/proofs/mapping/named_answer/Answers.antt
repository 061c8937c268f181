use Rattle.std.proofs.Common.{slice_index, sym, subst}
use Rattle.tsc_net.specs.Order.{fan_ins, IsOrder}
use Rattle.mapping_reading.specs.MovedNets.{HaveMoved}
use Rattle.mapping_reading.proofs.NamesMoved.{names_move, names_stay_secure}
use Rattle.mapping_audit.proofs.mapping.named_answer.Goals as goal

pub mapping_answer-requires : goal.mapping_answer-requires
mapping_answer-requires c = record {
  moved = subst (HaveMoved c.args.plain.now.circuit c.args.mapped.now.circuit) (sym c.requires.moved)
      (names_move c.args.plain.now c.args.mapped.now c.nets-nets.ensures.checked c.nets-mapped.ensures.checked c.requires.names);
}

pub returns-clause-secure : goal.returns-clause-secure
returns-clause-secure c = λ yes read.
    names_stay_secure c.args.plain.now c.args.mapped.now (slice_index read.blocks) c.nets-mapped.ensures.checked.closed
    (subst (IsOrder (fan_ins c.args.mapped.now.circuit)) c.order-order.ensures.order c.order-order.ensures.whole) read.reads
