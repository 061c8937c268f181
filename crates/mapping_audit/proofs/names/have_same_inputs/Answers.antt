use Rattle.std.proofs.Common.{◌≡◌, length, refl, sym, ◌∙◌, arith}
use Rattle.std.proofs.lemmas.Bool.{true≢false}
use Rattle.fault_secure.specs.Circuit.{nets}
use Rattle.mapping_audit.proofs.NameTables.{inputs_same, inputs_count}
use Rattle.mapping_audit.proofs.names.have_same_inputs.Goals as goal

pub returns-then-count-inputs : goal.returns-then-count-inputs
returns-then-count-inputs c =
    let a : length c.args.plain.now.names ≡ nets c.args.plain.now.circuit = c.nets-nets.ensures.checked.sized in
    let b : length c.args.mapped.now.names ≡ nets c.args.mapped.now.circuit = c.nets-mapped.ensures.checked.sized in
    record {
      same = (
        λ h. absurd (true≢false (sym h)),
        λ same. absurd (c.if-count-inputs.true (c.inputs-count.ensures.count
            ∙ inputs_count c.args.plain.now.names c.args.mapped.now.names c.args.plain.now.circuit.inputs c.args.mapped.now.circuit.inputs (omega arith) (omega arith) same ∙ sym c.inputs.ensures.count)),
      );
    }

pub returns : goal.returns
returns c =
    let a : length c.args.plain.now.names ≡ nets c.args.plain.now.circuit = c.nets-nets.ensures.checked.sized in
    let b : length c.args.mapped.now.names ≡ nets c.args.mapped.now.circuit = c.nets-mapped.ensures.checked.sized in
    let past = c.loop-net-test.false in
    let count = c.inputs-count.ensures.count in
    record {
      same = (
        λ h. inputs_same c.args.plain.now.names c.args.mapped.now.names c.args.plain.now.circuit.inputs c.args.mapped.now.circuit.inputs (omega arith) (omega arith)
            (sym c.inputs-count.ensures.count ∙ c.if-count-inputs.false ∙ c.inputs.ensures.count) (λ k low. c.loop-net.invariant k (omega arith)),
        λ same. refl,
      );
    }
