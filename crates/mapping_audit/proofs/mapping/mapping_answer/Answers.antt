use Rattle.std.proofs.Common.{◌<◌, length, inr, sym, ◌∙◌, subst, arith}
use Rattle.mapping_reading.specs.Blocks.{AreBlocks, IsFirstShared}
use Rattle.mapping_reading.specs.FoundBlocks.{AreFound}
use Rattle.mapping_reading.proofs.FoundReadings.{shared_gate_refutes}
use Rattle.mapping_audit.proofs.Answering.{are_found}
use Rattle.mapping_audit.proofs.mapping.mapping_answer.Goals as goal
use Rattle.mapping_audit.proofs.mapping.mapping_answer.Goals.{else-nodes-gt0-via-then-nodes-gt0+else-none-eq0, else-nodes-gt0-via-else-nodes-gt0}

pub returns-in-Some : goal.returns-in-Some
returns-in-Some c =
    let some : 0 < length c.args.mapped.now.circuit.nodes → 0 < length c.args.plain.now.circuit.nodes = λ gates.
    (elim c.else-nodes-gt0.branch [
      | else-nodes-gt0-via-then-nodes-gt0+else-none-eq0 w ↦ (let n = w.if-none-eq0.false in let a = c.nodes-none.ensures.count in omega arith)
      | else-nodes-gt0-via-else-nodes-gt0 w ↦ (let n = w.if-nodes-gt0.false in let a = c.nodes.ensures.count in omega arith)
    ]) in
    let led : AreBlocks c.args.mapped.now.circuit c.deref-2.result.now (length c.args.plain.now.circuit.nodes) c.in_ok-blocks.blocks.items
    = subst (λ owners. AreBlocks c.args.mapped.now.circuit owners (length c.args.plain.now.circuit.nodes) c.in_ok-blocks.blocks.items) (c.deref.ensures.value ∙ sym c.deref-2.ensures.value)
    (subst (λ n. AreBlocks c.args.mapped.now.circuit c.deref.result.now n c.in_ok-blocks.blocks.items) c.nodes-none.ensures.count c.in_ok-blocks.ensures.blocks) in
    let found : AreFound c.args.plain.now.circuit c.args.mapped.now.circuit c.args.moved.now c.deref-2.result.now c.deref-3.result.now
    = are_found c.args.plain.now.circuit c.args.mapped.now.circuit c.args.moved.now c.order-order.result.now c.in_ok-owners.owners.items c.in_ok-blocks.blocks.items c.deref-2.result.now c.deref-3.result.now
    c.order-order.ensures.order c.order-order.ensures.whole c.deref-2.ensures.value c.deref-3.ensures.value c.in_ok-owners.ensures.owners led in
    let first : IsFirstShared c.args.mapped.now.circuit c.deref-2.result.now (length c.args.plain.now.circuit.nodes) c.deref-3.result.now c.in-Some.gate
    = subst (λ n. IsFirstShared c.args.mapped.now.circuit c.deref-2.result.now n c.deref-3.result.now c.in-Some.gate) c.nodes-none.ensures.count c.in-Some.ensures.first in
    record {
      answer = (
        inr (record { owners = c.deref-2.result.now; blocks = c.deref-3.result.now; found = found; some_node = some; first = first }),
        shared_gate_refutes c.args.plain.now.circuit c.args.mapped.now.circuit c.args.moved.now c.deref-2.result.now c.deref-3.result.now c.in-Some.gate found first,
      );
    }
