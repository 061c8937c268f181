use Rattle.std.proofs.Common.{◌<◌, length, slice_index, All, sym, ◌∙◌, subst}
use Rattle.tsc_net.specs.Order.{fan_ins, IsOrder}
use Rattle.mapping_audit.proofs.Answering.{members_within}
use Rattle.mapping_audit.proofs.covers.missed_value.Goals as goal

pub first_missed-requires-clause-gates : goal.first_missed-requires-clause-gates
first_missed-requires-clause-gates c =
    subst (All (λ g. g < length c.args.mapped.now.circuit.nodes)) (sym (c.deref-3.ensures.value ∙ c.in_ok-gates.ensures.gates))
    (members_within c.args.mapped.now.circuit _ (slice_index c.args.blocks.now) c.args.node (subst (IsOrder (fan_ins c.args.mapped.now.circuit)) c.order-order.ensures.order c.order-order.ensures.whole))
