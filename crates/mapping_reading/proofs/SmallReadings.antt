-- Small netlists that are read as mappings, and that aren't.
use Rattle.std.proofs.Common.{◌≡◌, ℕ, ◌+◌, ◌<◌, ◌⊎◌, ◌||◌, length, slice_index_or, Bool, true, false, List, [], ◌∷◌, refl, sym, ap, subst, ◌∙◌, inl, inr, arith}
use Rattle.std.proofs.lemmas.Bool.{or_cases, true≢false, false≢true}
use Rattle.tsc_cover.specs.Cover.{CoverTable, truth, zero_cover}
use Rattle.tsc_cover.specs.Gates.{buf_cover}
use Rattle.fault_secure.specs.Circuit.{NodeOf, node_net, pin_net, nets, bit}
use Rattle.fault_secure.specs.Closed.{IsClosed}
use Rattle.structure_laws.specs.SmallNetlist.{small_netlist}
use Rattle.structure_laws.specs.Toggle.{toggle}
use Rattle.structure_laws.proofs.Each.{each, each_pin}
use Rattle.mapping_laws.specs.Inverters.{inverters, inverters_at, inverters_block, merged, without_zero, one_gate}
use Rattle.mapping_laws.proofs.SmallMappings.{inverters_are_mapped, merged_is_not_mapped}
use Rattle.tsc_net.specs.Order.{has_place, fan_ins, evaluation_order, IsOrder}
use Rattle.mapping_reading.specs.ReadMapping.{is_own, block_pins, members, evaluated, pin_row, IsSameGate, GivesCover, IsReadMapping, some_block}
use Rattle.mapping_reading.specs.SmallReadings.{InvertersRead, MergedDoesNotRead, MissingDoesNotRead, one_constant, two_constants, constants_at, TwoConstantsDoNotRead, negated_output, negated_alias, alias_at, AliasDoesNotRead, one_cover, WrongConstantDoesNotRead, LastValueDoesNotRead}
use Rattle.mapping_reading.proofs.Evaluations.{owner_of, evaluation_settles}
use Rattle.mapping_reading.proofs.ReadMappings.{read_mapping_is_mapping, row_sized}

-- ---- two inverters

two_values : (P : ℕ → Type 0) → P 0 → P 1 → (value : ℕ) → value < 2 → P value
two_values P first second value h = each 2 P (first, (second, tt)) value h

pub inverters_read : InvertersRead
inverters_read = record {
  inputs = inverters_are_mapped.inputs;
  latches = inverters_are_mapped.latches;
  outputs = inverters_are_mapped.outputs;
  sources = inverters_are_mapped.sources;
  beyond = inverters_are_mapped.beyond;
  some_node = λ h. omega arith;
  driven = each 6 (λ j. is_own inverters inverters_block j (inverters_at (node_net toggle j)) ≡ true) (refl, (refl, (refl, (refl, (refl, (refl, tt))))));
  pins = λ g pin h k l. each_pin inverters
      (λ g pin. (is_own inverters inverters_block (inverters_block g) (pin_net inverters g pin)
      || has_place (block_pins toggle inverters_at (inverters_block g)) (pin_net inverters g pin)) ≡ true) (
        (refl, tt),
        (
          (refl, tt),
          (
            (refl, tt),
            ((refl, (refl, (refl, tt))), ((refl, (refl, (refl, tt))), ((refl, (refl, (refl, (refl, tt)))), ((refl, (refl, (refl, (refl, tt)))), tt)))),
          ),
        ),
      ) g pin h l;
  covers = each 6
      (λ j. IsSameGate toggle inverters inverters_at j ⊎ GivesCover toggle inverters inverters_at inverters_block (evaluation_order (fan_ins inverters)) j)
      (inr (two_values _ refl refl), (inl refl, (inl refl, (inl refl, (inl refl, (inl refl, tt))))));
}

-- ---- merged nodes, a missing gate

merged_closed : IsClosed merged
merged_closed = record {
  pins = each_pin merged (λ j pin. pin_net merged j pin < nets merged) (omega arith);
  latches = λ k d h. absurd (omega arith);
  outputs = λ k d h. each 3 (λ k. slice_index_or merged.outputs k d < nets merged) (omega arith) k h;
  some_output = omega arith;
  widths = λ k d h. each 4 (λ k. (slice_index_or merged.nodes k d).cover.width ≡ length (slice_index_or merged.nodes k d).reads) (omega arith) k h;
}

pub merged_does_not_read : MergedDoesNotRead
merged_does_not_read at block order whole r =
    merged_is_not_mapped at (some_block small_netlist block) (read_mapping_is_mapping small_netlist merged at block order merged_closed whole r)

pub missing_does_not_read : MissingDoesNotRead
missing_does_not_read shown at block order r =
    let first = owner_of (without_zero shown) block 0 (at 1) (r.driven 0 (omega arith)) in
    let second = owner_of (without_zero shown) block 1 (at 2) (r.driven 1 (omega arith)) in
    let one = first.inside in
    let two = second.inside in
    let same : first.gate ≡ second.gate = omega arith in
    let blocks = ap block same in
    omega (arith, blocks, first.of, second.of)

-- ---- a constant with two gates

module _ (block : ℕ → ℕ) (order : List ℕ) (whole : IsOrder (fan_ins two_constants) order)
    (r : IsReadMapping one_constant two_constants constants_at block order) where
  -- the gate of the last node
  last_of : block 3 ≡ 2
  last_of =
      let from = owner_of two_constants block 2 4 (r.driven 2 (omega arith)) in
      let drives : 4 ≡ 1 + from.gate = from.drives ∙ omega arith in
      let is : from.gate ≡ 3 = omega arith in
      ap block (sym is) ∙ from.of

  -- so the constant that it reads is of its block
  constant_of : block 1 ≡ 2
  constant_of =
      let well = subst (λ i. (is_own two_constants block i 2 || has_place (block_pins one_constant constants_at i) 2) ≡ true) last_of
      (r.pins 3 0 (omega arith) (omega (arith, last_of)) (omega arith)) in
      elim (or_cases (is_own two_constants block 2 2) _ well) [
        | inl own ↦
            let from = owner_of two_constants block 2 2 own in
            let drives : 2 ≡ 1 + from.gate = from.drives ∙ omega arith in
            let is : from.gate ≡ 1 = omega arith in
            ap block (sym is) ∙ from.of
        | inr there ↦ absurd (false≢true there)
      ]

  -- and then the last node never gives 1
  not_same : IsSameGate one_constant two_constants constants_at 2 → ⊥
  not_same same = let reads = ap (λ (n : NodeOf). slice_index_or n.reads 0 0) same in omega (arith, reads)

  not_given : GivesCover one_constant two_constants constants_at block order 2 → ⊥
  not_given gives =
      let row = pin_row one_constant two_constants constants_at 2 1 in
      let v = evaluated two_constants (members block order 2) row in
      let settles = (evaluation_settles two_constants block order 2 row whole (row_sized one_constant two_constants constants_at 2 row 1)).settles in
      let zero_there : bit v 2 ≡ false = settles.gates 1 (omega arith) constant_of in
      let zero_shown : bit v 4 ≡ false = settles.gates 3 (omega arith) last_of ∙ ap (λ b. truth buf_cover (b ∷ [])) zero_there in
      false≢true (sym zero_shown ∙ gives 1 (omega arith))

  two_gates : ⊥
  two_gates = elim (r.covers 2 (omega arith)) [
    | inl same ↦ not_same same
    | inr gives ↦ not_given gives
  ]

pub two_constants_do_not_read : TwoConstantsDoNotRead
two_constants_do_not_read block order whole r = two_gates block order whole r

-- ---- an alias

pub alias_does_not_read : AliasDoesNotRead
alias_does_not_read block order r =
    let first = owner_of negated_alias block 0 2 (r.driven 0 (omega arith)) in
    let first_drives : 2 ≡ 1 + first.gate = first.drives ∙ omega arith in
    let first_is : first.gate ≡ 1 = omega arith in
    let alias_of : block 1 ≡ 0 = ap block (sym first_is) ∙ first.of in
    let second = owner_of negated_alias block 1 3 (r.driven 1 (omega arith)) in
    let second_drives : 3 ≡ 1 + second.gate = second.drives ∙ omega arith in
    let second_is : second.gate ≡ 2 = omega arith in
    let negated_of : block 2 ≡ 1 = ap block (sym second_is) ∙ second.of in
    let one = inner 0 (r.pins 1 0 (omega arith) (omega (arith, alias_of)) (omega arith)) alias_of refl in
    let two = inner 1 (r.pins 2 0 (omega arith) (omega (arith, negated_of)) (omega arith)) negated_of refl in
    absurd (omega (arith, one, two))
  where
    -- whose block reads net 1, which is at no pin of its cover, has the gate that drives it
    inner : (j : ℕ) {i : ℕ} → (is_own negated_alias block i 1 || has_place (block_pins negated_output alias_at i) 1) ≡ true → i ≡ j
        → has_place (block_pins negated_output alias_at j) 1 ≡ false → block 0 ≡ j
    inner j well e none = elim (or_cases (is_own negated_alias block j 1) _
        (subst (λ k. (is_own negated_alias block k 1 || has_place (block_pins negated_output alias_at k) 1) ≡ true) e well)) [
          | inl own ↦
              let from = owner_of negated_alias block j 1 own in
              let drives : 1 ≡ 1 + from.gate = from.drives ∙ omega arith in
              let is : from.gate ≡ 0 = omega arith in
              ap block (sym is) ∙ from.of
          | inr there ↦ absurd (false≢true (sym none ∙ there))
        ]

-- ---- one gate

-- a gate without pins gives what its cover makes of none
module _ (cover : CoverTable) (block : ℕ → ℕ) (order : List ℕ) (whole : IsOrder (fan_ins (one_gate cover [])) order)
    (own : is_own (one_gate cover []) block 0 1 ≡ true) where
  gate_of : block 0 ≡ 0
  gate_of =
      let from = owner_of (one_gate cover []) block 0 1 own in
      let low : from.gate < 1 = from.inside in
      let is : from.gate ≡ 0 = omega arith in
      ap block (sym is) ∙ from.of

  shown : (row : List Bool) → length row ≡ 2 → bit (evaluated (one_gate cover []) (members block order 0) row) 1 ≡ truth cover []
  shown row sized = (evaluation_settles (one_gate cover []) block order 0 row whole sized).settles.gates 0 (omega arith) gate_of

pub wrong_constant_does_not_read : WrongConstantDoesNotRead
wrong_constant_does_not_read block order whole r = elim (r.covers 0 (omega arith)) [
  | inl same ↦ false≢true (ap (λ (n : NodeOf). n.cover.on) same)
  | inr gives ↦ true≢false (sym (shown one_cover block order whole (r.driven 0 (omega arith)) _ refl) ∙ gives 0 (omega arith))
]

pub last_value_does_not_read : LastValueDoesNotRead
last_value_does_not_read block order whole r = elim (r.covers 0 (omega arith)) [
  | inl same ↦ let widths = ap (λ (n : NodeOf). n.cover.width) same in omega (arith, widths)
  | inr gives ↦ false≢true (sym (shown zero_cover block order whole (r.driven 0 (omega arith)) _ refl) ∙ gives 1 (omega arith))
]
