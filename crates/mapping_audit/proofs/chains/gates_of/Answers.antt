use Rattle.std.proofs.Common.{length, slice_index, subst, sym, arith}
use Rattle.tsc_net.specs.Order.{fan_ins, evaluation_order}
use Rattle.mapping_reading.specs.ReadMapping.{members}
use Rattle.mapping_audit.proofs.Chaining.{IsWalk, walk_step, walk_end}
use Rattle.mapping_audit.proofs.chains.gates_of.Goals as goal

pub loop-gate-preserved : goal.loop-gate-preserved
loop-gate-preserved c =
    let all = members (slice_index c.args.blocks.now) (evaluation_order (fan_ins c.args.mapped.now.circuit)) c.args.block in
    let low = c.loop-gate-test.true in
    let sized = c.requires.chains.sized in
    let step = walk_step c.args.next.now (length c.args.mapped.now.circuit.nodes) (members (slice_index c.args.blocks.now) (evaluation_order (fan_ins c.args.mapped.now.circuit)) c.args.block) c.loop-gate.gates.items c.loop-gate.gate (omega arith) c.loop-gate.invariant in
    subst (λ items. IsWalk c.args.next.now (length c.args.mapped.now.circuit.nodes) (members (slice_index c.args.blocks.now) (evaluation_order (fan_ins c.args.mapped.now.circuit)) c.args.block) items (slice_index c.args.next.now c.loop-gate.gate))
    (sym c.in_ok-push.ensures.items) step.0

pub returns : goal.returns
returns c = record {
  gates = walk_end c.args.next.now (length c.args.mapped.now.circuit.nodes) (members (slice_index c.args.blocks.now) (evaluation_order (fan_ins c.args.mapped.now.circuit)) c.args.block) c.loop-gate.gates.items c.loop-gate.gate
      (let t = c.loop-gate-test.false in let sized = c.requires.chains.sized in omega arith) c.loop-gate.invariant;
}
