use Rattle.std.proofs.Common.{◌≡◌, inl, inr, sym, subst, arith}
use Rattle.std.proofs.lemmas.Bool.{cases_lt}
use Rattle.mapping_reading.specs.NamedMapping.{IsGateNet}
use Rattle.mapping_audit.proofs.missing.first_missing.Goals as goal

pub loop-node-preserved : goal.loop-node-preserved
loop-node-preserved c = λ k low.
    elim (cases_lt k c.loop-node.node) [
      | inl before ↦ c.loop-node.invariant k before
      | inr here ↦ (let is : k ≡ c.loop-node.node = omega arith in subst (IsGateNet c.args.plain.now c.args.mapped.now) (sym is) (c.is_gate_net.ensures.gate.0 c.if-not-is_gate_net.false))
    ]

pub returns : goal.returns
returns c =
    let past = c.loop-node-test.false in
    let count = c.nodes-node-end.ensures.count in
    record { first = λ j low. c.loop-node.invariant j (omega arith) }
