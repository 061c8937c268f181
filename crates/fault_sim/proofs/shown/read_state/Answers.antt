use Rattle.std.proofs.Common.{◌≡◌, true, List, All, length, map, sym, ap, ◌∙◌, subst}
use Rattle.tsc_net.specs.Order.{has_place}
use Rattle.tsc_net.specs.declared.netlist.LatchView.{LatchView}
use Rattle.fault_sim.specs.Sim.{first_bit}
use Rattle.fault_sim.proofs.ShownLemmas.{latches_are_watched, length-views, next_read}
use Rattle.fault_sim.proofs.shown.read_state.Goals as goal

pub read_latches-requires-clause-watched : goal.read_latches-requires-clause-watched
read_latches-requires-clause-watched c =
    let bench = c.args.bench.now in
    let shown = c.args.shown.now in
    subst (λ (views : List LatchView). All (λ latch. has_place bench.watched latch.reads.number ≡ true) views) (sym c.deref.ensures.value)
    (latches_are_watched bench.circuit shown.plan.now bench.watched c.requires.watched shown.latches.items c.requires.shown.latches)

pub read_latches-requires-clause-next : goal.read_latches-requires-clause-next
read_latches-requires-clause-next c =
    c.requires.next ∙ sym (ap length c.deref.ensures.value ∙ length-views c.args.bench.now.circuit c.args.shown.now.latches.items c.requires.shown.latches)

pub read_latches-requires-clause-state : goal.read_latches-requires-clause-state
read_latches-requires-clause-state c =
    c.requires.state ∙ sym (ap length c.deref.ensures.value ∙ length-views c.args.bench.now.circuit c.args.shown.now.latches.items c.requires.shown.latches)

pub returns-clause-next : goal.returns-clause-next
returns-clause-next c =
    let bench = c.args.bench.now in
    let shown = c.args.shown.now in
    c.read_latches.ensures.next
    ∙ (ap (map (λ (latch : LatchView). first_bit bench latch.reads.number)) c.deref.ensures.value
    ∙ next_read bench.circuit (first_bit bench) shown.latches.items c.requires.shown.latches)
