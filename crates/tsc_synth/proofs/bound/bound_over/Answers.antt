use Rattle.std.proofs.Common.{◌≡◌, ◌≤◌, ◌+◌, ◌*◌, ◌^◌, ◌-◌, min, length, sym, ◌∙◌, ap, subst, lit<, arith}
use Rattle.std.proofs.lemmas.List.{length-map}
use Rattle.fault_secure.specs.Size.{network_size}
use Rattle.tsc_synth.proofs.BoundLemmas.{bound_stops}
use Rattle.tsc_synth.proofs.bound.bound_over.Goals as goal

pub returns : goal.returns
returns c =
    let count : length c.outputs.result.now ≡ length c.args.source.now.circuit.outputs = sym (length-map c.outputs.result.now (λ net. net.number)) ∙ ap length c.outputs.ensures.outputs in
    let low : c.args.copies ≤ 2 ^ 64 - 1 = omega (arith, c.ranges.copies) in
    record {
      bound = bound_stops (2 ^ 64 - 1) c.args.copies (network_size c.args.source.now.circuit) c.args.source.now.circuit.inputs (16 * (length c.args.source.now.circuit.outputs + 1) ^ 2)
          _ _ _ _ _ _ (lit< tt) low c.network_size.ensures.size c.saturating_mul-nodes.ensures
          (subst (λ n. c.saturating_add.result ≡ min (c.saturating_mul-nodes.result + n) (2 ^ 64 - 1)) c.inputs.ensures.count c.saturating_add.ensures)
          (subst (λ n. c.checker_size.result ≡ min (16 * (n + 1) ^ 2) (2 ^ 64 - 1)) count c.checker_size.ensures.size) c.saturating_add-2.ensures c.saturating_mul.ensures;
    }
