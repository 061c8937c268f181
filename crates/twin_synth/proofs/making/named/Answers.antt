use Rattle.std.proofs.Common.{◌≡◌, ℕ, ◌+◌, ◌∙◌, ap, length, arith}
use Rattle.tsc_net.specs.NetlistOf.{NetlistOf}
use Rattle.twin_synth.proofs.TwinNames.{covers_fit}
use Rattle.twin_synth.proofs.TwinSizes.{made_low}
use Rattle.twin_synth.proofs.making.named.Goals as goal

pub overflow_sub-more : goal.overflow_sub-more
overflow_sub-more c =
    let nodes = c.nodes.ensures.count ∙ ap (λ (N : NetlistOf). length N.circuit.nodes) c.in_ok-numbered.ensures.net in
    let fit = covers_fit c.args.source.now c.args.clock.now c.args.kept.now.registers c.args.kept.now.covers c.args.groups.now c.args.watched in
    omega (arith, nodes, fit, c.len.ensures.count)

pub push_twin_names-requires-clause-few : goal.push_twin_names-requires-clause-few
push_twin_names-requires-clause-few c =
    let nodes = c.nodes.ensures.count ∙ ap (λ (N : NetlistOf). length N.circuit.nodes) c.in_ok-numbered.ensures.net in
    let low = made_low c.args.source.now.circuit c.args.kept.now.registers c.args.kept.now.covers c.args.groups.now c.args.watched c.requires.sized c.requires.kept c.requires.watched c.in_ok-numbered.ensures.made in
    omega (arith, nodes, low)
