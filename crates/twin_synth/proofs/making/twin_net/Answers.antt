use Rattle.std.proofs.Common.{◌≡◌, ◌+◌, ◌∙◌, length, subst, sym, arith}
use Rattle.tsc_net.specs.NetlistOf.{IsBuilt}
use Rattle.twin_synth.proofs.TwinNames.{twin_is_built, latches_counted}
use Rattle.twin_synth.proofs.TwinSizes.{made_low, source_nets}
use Rattle.twin_synth.proofs.making.twin_net.Goals as goal

pub net_of_numbers-requires-clause-built : goal.net_of_numbers-requires-clause-built
net_of_numbers-requires-clause-built c =
    let made = c.in_ok-numbered.ensures.made in
    let low = made_low c.args.source.now.circuit c.args.kept.now.registers c.args.kept.now.covers c.args.groups.now c.args.watched c.requires.sized c.requires.kept c.requires.watched made in
    let twice = latches_counted c.args.source.now c.args.clock.now c.args.kept.now.registers c.args.kept.now.covers c.args.groups.now c.args.watched in
    subst IsBuilt (sym c.in_ok-numbered.ensures.net)
    (twin_is_built c.args.source.now c.args.clock.now c.args.kept.now.registers c.args.kept.now.covers c.args.groups.now c.args.watched c.nets-nets.ensures.checked c.requires.kept
    (source_nets c.args.source.now.circuit c.requires.sized) made.whole.closed made.whole.twin.twin.acyclic (omega (arith, low, twice)))
