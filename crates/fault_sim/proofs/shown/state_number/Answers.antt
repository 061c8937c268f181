use Rattle.std.proofs.Common.{◌≡◌, true, List, All, sym, subst}
use Rattle.tsc_net.specs.Order.{has_place}
use Rattle.tsc_net.specs.declared.netlist.LatchView.{LatchView}
use Rattle.fault_sim.proofs.ShownLemmas.{latches_are_watched}
use Rattle.fault_sim.proofs.shown.state_number.Goals as goal

pub state_at-requires-clause-watched : goal.state_at-requires-clause-watched
state_at-requires-clause-watched c =
    let bench = c.args.bench.now in
    let shown = c.args.shown.now in
    subst (λ (views : List LatchView). All (λ latch. has_place bench.watched latch.reads.number ≡ true) views) (sym c.deref.ensures.value)
    (latches_are_watched bench.circuit shown.plan.now bench.watched c.requires.watched shown.latches.items c.requires.shown.latches)
