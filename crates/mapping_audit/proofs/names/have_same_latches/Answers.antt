use Rattle.std.proofs.Common.{refl, sym, ◌∙◌, arith}
use Rattle.std.proofs.lemmas.Bool.{true≢false}
use Rattle.mapping_audit.proofs.NameTables.{latches_same, latches_count, latch_same}
use Rattle.mapping_audit.proofs.names.have_same_latches.Goals as goal

pub returns-then-count-latches : goal.returns-then-count-latches
returns-then-count-latches c = record {
  same = (
    λ h. absurd (true≢false (sym h)),
    λ same. absurd (c.if-count-latches.true (c.latches-count.ensures.count
        ∙ latches_count c.args.plain.now.names c.args.mapped.now.names c.args.plain.now.circuit.inputs c.args.mapped.now.circuit.inputs c.args.plain.now.circuit.latches c.args.mapped.now.circuit.latches same ∙ sym c.latches.ensures.count)),
  );
}

pub returns-then-not-is_same_latch : goal.returns-then-not-is_same_latch
returns-then-not-is_same_latch c =
    let test = c.loop-place-test.true in
    let count = c.latches-count.ensures.count in
    record {
      same = (
        λ h. absurd (true≢false (sym h)),
        λ same. absurd (true≢false (sym (c.is_same_latch.ensures.same.1
            (latch_same c.args.plain.now.names c.args.mapped.now.names c.args.plain.now.circuit.inputs c.args.mapped.now.circuit.inputs c.args.plain.now.circuit.latches c.args.mapped.now.circuit.latches c.loop-place.place same (omega arith)))
            ∙ c.if-not-is_same_latch.true)),
      );
    }

pub returns : goal.returns
returns c =
    let past = c.loop-place-test.false in
    let count = c.latches-count.ensures.count in
    record {
      same = (
        λ h. latches_same c.args.plain.now.names c.args.mapped.now.names c.args.plain.now.circuit.inputs c.args.mapped.now.circuit.inputs c.args.plain.now.circuit.latches c.args.mapped.now.circuit.latches
            (sym c.latches-count.ensures.count ∙ c.if-count-latches.false ∙ c.latches.ensures.count) (λ k low. c.loop-place.invariant k (omega arith)),
        λ same. refl,
      );
    }
