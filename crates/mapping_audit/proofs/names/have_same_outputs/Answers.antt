use Rattle.std.proofs.Common.{◌≡◌, ◌<◌, ℕ, List, length, slice_index, slice_index_or, inl, inr, refl, sym, ◌∙◌, ap, subst, arith}
use Rattle.std.proofs.lemmas.Bool.{true≢false, cases_lt}
use Rattle.std.proofs.lemmas.List.{length-map, get_or-map}
use Rattle.tsc_net.specs.Names.{text_at}
use Rattle.tsc_net.specs.PlanView.{net_numbers}
use Rattle.tsc_net.specs.declared.ids.NetId.{NetId}
use Rattle.std.proofs.lemmas.List.Elements.{All-get_or}
use Rattle.fault_secure.specs.Circuit.{nets}
use Rattle.mapping_audit.proofs.NameTables.{names_same, name_same}
use Rattle.mapping_audit.proofs.names.have_same_outputs.Goals as goal

number_at : (list : List NetId) (outputs : List ℕ) (k : ℕ) → net_numbers list ≡ outputs → k < length list → (slice_index_or list k (record { number = 0 })).number ≡ slice_index outputs k
number_at list outputs k are low = sym (get_or-map (λ (n : NetId). n.number) list k (record { number = 0 }) 0 low) ∙ ap (λ xs. slice_index xs k) are

counted : (list : List NetId) (outputs : List ℕ) → net_numbers list ≡ outputs → length list ≡ length outputs
counted list outputs are = sym (length-map list (λ (n : NetId). n.number)) ∙ ap length are

pub name-requires : goal.name-requires
name-requires c = record {
  net =
      let count = counted c.outputs-outputs.result.now c.args.plain.now.circuit.outputs c.outputs-outputs.ensures.outputs in
      let test = c.loop-place-test.true in
      subst (λ n. n < nets c.args.plain.now.circuit) (sym (number_at c.outputs-outputs.result.now c.args.plain.now.circuit.outputs c.loop-place.place c.outputs-outputs.ensures.outputs c.loop-place-test.true))
      (All-get_or (λ net. net < nets c.args.plain.now.circuit) c.args.plain.now.circuit.outputs c.loop-place.place 0 (omega arith) c.nets-nets.ensures.checked.closed.outputs);
}

pub name-requires-in-loop-place : goal.name-requires-in-loop-place
name-requires-in-loop-place c = record {
  net =
      let count = counted c.outputs-others.result.now c.args.mapped.now.circuit.outputs c.outputs-others.ensures.outputs in
      let test = c.loop-place-test.true in
      let sized = c.if-outputs-others.false in
      subst (λ n. n < nets c.args.mapped.now.circuit) (sym (number_at c.outputs-others.result.now c.args.mapped.now.circuit.outputs c.loop-place.place c.outputs-others.ensures.outputs (omega arith)))
      (All-get_or (λ net. net < nets c.args.mapped.now.circuit) c.args.mapped.now.circuit.outputs c.loop-place.place 0 (omega arith) c.nets-mapped.ensures.checked.closed.outputs);
}

pub returns-then-not-is_same_text : goal.returns-then-not-is_same_text
returns-then-not-is_same_text c =
    let test = c.loop-place-test.true in
    let sized = c.if-outputs-others.false in
    let count = counted c.outputs-outputs.result.now c.args.plain.now.circuit.outputs c.outputs-outputs.ensures.outputs in
    let first = number_at c.outputs-outputs.result.now c.args.plain.now.circuit.outputs c.loop-place.place c.outputs-outputs.ensures.outputs (omega arith) in
    let second = number_at c.outputs-others.result.now c.args.mapped.now.circuit.outputs c.loop-place.place c.outputs-others.ensures.outputs (omega arith) in
    record {
      same = (
        λ h. absurd (true≢false (sym h)),
        λ same. absurd (true≢false (sym (c.is_same_text.ensures.same.1
            (c.name.ensures.name ∙ ap (text_at c.args.plain.now.names) first
            ∙ name_same c.args.plain.now.names c.args.mapped.now.names c.args.plain.now.circuit.outputs c.args.mapped.now.circuit.outputs c.loop-place.place same (omega arith)
            ∙ sym (ap (text_at c.args.mapped.now.names) second) ∙ sym c.name-in-loop-place.ensures.name)) ∙ c.if-not-is_same_text.true)),
      );
    }

pub loop-place-preserved : goal.loop-place-preserved
loop-place-preserved c = λ k low.
    let test = c.loop-place-test.true in
    let sized = c.if-outputs-others.false in
    let first = number_at c.outputs-outputs.result.now c.args.plain.now.circuit.outputs c.loop-place.place c.outputs-outputs.ensures.outputs (omega arith) in
    let second = number_at c.outputs-others.result.now c.args.mapped.now.circuit.outputs c.loop-place.place c.outputs-others.ensures.outputs (omega arith) in
    elim (cases_lt k c.loop-place.place) [
      | inl before ↦ c.loop-place.invariant k before
      | inr here ↦
          let is : k ≡ c.loop-place.place = omega arith in
          subst (λ k. text_at c.args.plain.now.names (slice_index c.args.plain.now.circuit.outputs k) ≡ text_at c.args.mapped.now.names (slice_index c.args.mapped.now.circuit.outputs k)) (sym is)
          (sym (ap (text_at c.args.plain.now.names) first) ∙ sym c.name.ensures.name ∙ c.is_same_text.ensures.same.0 c.if-not-is_same_text.false ∙ c.name-in-loop-place.ensures.name ∙ ap (text_at c.args.mapped.now.names) second)
    ]

pub returns : goal.returns
returns c =
    let past = c.loop-place-test.false in
    let count = counted c.outputs-outputs.result.now c.args.plain.now.circuit.outputs c.outputs-outputs.ensures.outputs in
    let count' = counted c.outputs-others.result.now c.args.mapped.now.circuit.outputs c.outputs-others.ensures.outputs in
    let sized = c.if-outputs-others.false in
    record {
      same = (λ h. names_same c.args.plain.now.names c.args.mapped.now.names c.args.plain.now.circuit.outputs c.args.mapped.now.circuit.outputs (omega arith) (λ k low. c.loop-place.invariant k (omega arith)), λ same. refl);
    }
