use Rattle.std.proofs.Common.{sym, ap, subst}
use Rattle.tsc_net.specs.PlanView.{net_numbers}
use Rattle.blif_write.specs.NetLines.{AreNets}
use Rattle.answers.proofs.TwinLemmas.{plan_of_inputs, register_synthesis, watch_nets}
use Rattle.answers.proofs.blif_synthesis.registers_text.Goals as goal

pub write_registers-requires-clause-of_net : goal.write_registers-requires-clause-of_net
write_registers-requires-clause-of_net c =
    let source = c.args.source.now in
    let made = c.in_ok-made.made in
    plan_of_inputs source.net source.clock c.args.watching made.net made.plan (net_numbers made.watch) c.in_ok-made.ensures.secure.twin

pub write_registers-requires-clause-watched : goal.write_registers-requires-clause-watched
write_registers-requires-clause-watched c =
    let source = c.args.source.now in
    let made = c.in_ok-made.made in
    subst (λ list. AreNets made.net.circuit (net_numbers list)) (sym c.as_slice.ensures.whole)
    (watch_nets source.net source.clock c.args.watching made.net made.plan (net_numbers made.watch) c.in_ok-made.ensures.secure.twin)
