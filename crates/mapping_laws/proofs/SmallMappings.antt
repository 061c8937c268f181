-- The small machine with two inverters in the place of a node is a mapping of it; two nodes merged into one gate are none, nor are a
-- missing gate and gates that are open.
use Rattle.std.proofs.Common.{◌≡◌, ℕ, zero, suc, ◌<◌, ◌≤◌, ◌⊎◌, nat_lt, slice_index_or, length, Bool, true, false, not, List, [], ◌∷◌, map, refl, ap, ap₂, ◌∙◌, inl, inr, arith}
use Rattle.std.proofs.lemmas.Bool.{cond-true, cond-false, lt-ltb, le-ltb, true≢false, false≢true, cases_eq, cases_lt}
use Rattle.tsc_cover.specs.Cover.{truth}
use Rattle.tsc_cover.specs.Gates.{and_cover, buf_cover}
use Rattle.fault_secure.specs.Circuit.{node, node_net, pin_net, latch_net, nets, bit, gate, no_node}
use Rattle.fault_secure.specs.StuckAt.{NoFault}
use Rattle.fault_secure.specs.Settle.{Acyclic, node_value}
use Rattle.fault_secure.specs.Closed.{IsClosed}
use Rattle.fault_secure.specs.FaultSecure.{at_step}
use Rattle.structure_laws.specs.SmallNetlist.{small_netlist}
use Rattle.structure_laws.specs.Toggle.{negates, repeats, toggle, toggle_source, toggle_plan}
use Rattle.structure_laws.proofs.Each.{each, each_pin}
use Rattle.structure_laws.proofs.Toggle.{toggle_is_cell_secure}
use Rattle.mapping_laws.specs.Mapping.{BlockSettles, IsMapped}
use Rattle.mapping_laws.specs.FailingBlock.{SettlesButBlock}
use Rattle.mapping_laws.specs.Inverters.{inverters, inverters_at, inverters_block, both_fail, merged, without_zero, one_gate, InvertersAreMapped, InvertersAreSecure, FailingBlockDoesMore, MergedIsNotMapped, MissingIsNotMapped, OpenIsNotMapped}
use Rattle.mapping_laws.proofs.Secure.{mapped_is_block_secure}

-- ---- two inverters

twice : (a b c : Bool) → b ≡ truth negates (a ∷ []) → c ≡ truth negates (b ∷ []) → c ≡ truth repeats (a ∷ [])
twice true b c e d = d ∙ ap (λ z. truth negates (z ∷ [])) e
twice false b c e d = d ∙ ap (λ z. truth negates (z ∷ [])) e

abbrev Computes : ℕ → Type 0
Computes j = (v : List Bool) → BlockSettles inverters inverters_block j v
    → bit v (inverters_at (node_net toggle j)) ≡ truth (node toggle j).cover (map (λ net. bit v (inverters_at net)) (node toggle j).reads)

inverters_inside : (net : ℕ) → net < 9 → (net < 3) ⊎ (3 ≤ net) → inverters_at net < 10
inverters_inside net h (inl low) = let e : inverters_at net ≡ net = cond-true (nat_lt net 3) net (suc net) (lt-ltb net 3 low) in omega arith
inverters_inside net h (inr high) = let e : inverters_at net ≡ suc net = cond-false (nat_lt net 3) net (suc net) (le-ltb net 3 high) in omega arith

inverters_closed : IsClosed inverters
inverters_closed = record {
  pins = each_pin inverters (λ j pin. pin_net inverters j pin < nets inverters) (omega arith);
  latches = λ k d h. each 2 (λ k. (slice_index_or inverters.latches k d).reads < nets inverters) (omega arith) k h;
  outputs = λ k d h. each 3 (λ k. slice_index_or inverters.outputs k d < nets inverters) (omega arith) k h;
  some_output = omega arith;
  widths = λ k d h. each 7 (λ k. (slice_index_or inverters.nodes k d).cover.width ≡ length (slice_index_or inverters.nodes k d).reads) (omega arith) k h;
}

-- the small machine with two inverters in the place of its first node is a mapping of it
pub inverters_are_mapped : InvertersAreMapped
inverters_are_mapped = record {
  inputs = refl;
  latches = refl;
  outputs = refl;
  sources = λ net h. cond-true (nat_lt net 3) net (suc net) (lt-ltb net 3 h);
  inside = λ net h. inverters_inside net h (cases_lt net 3);
  beyond = λ net h.
      let e : inverters_at net ≡ suc net = cond-false (nat_lt net 3) net (suc net) (le-ltb net 3 (omega arith)) in omega arith;
  closed = λ h. inverters_closed;
  blocks = λ g h. omega arith;
  computes = λ j v h settled. each 6 Computes (
    λ v s. twice (bit v 0) (bit v 3) (bit v 4) (s.gates 0 (omega arith) refl) (s.gates 1 (omega arith) refl),
    (
      λ v s. s.gates 2 (omega arith) refl,
      (
        λ v s. s.gates 3 (omega arith) refl,
        (
          λ v s. s.gates 4 (omega arith) refl,
          (
            λ v s. s.gates 5 (omega arith) refl,
            (λ v s. s.gates 6 (omega arith) refl, tt),
          ),
        ),
      ),
    ),
  ) j h v settled;
}

inverters_acyclic : Acyclic inverters
inverters_acyclic = record {
  rank = λ net. net;
  ranks = record { above = each_pin inverters (λ j pin. pin_net inverters j pin < node_net inverters j) (omega arith) };
}

pub inverters_are_secure : InvertersAreSecure
inverters_are_secure =
    mapped_is_block_secure toggle_source toggle inverters inverters_at inverters_block toggle_plan inverters_are_mapped inverters_acyclic toggle_is_cell_secure

-- ---- a failing block

-- all gates but the first two settle
both_settle : SettlesButBlock toggle inverters inverters_block 3 (bit (false ∷ [])) (bit (false ∷ true ∷ [])) (at_step both_fail 0)
both_settle = record {
  sized = refl;
  inputs = each 1 (λ i. bit (at_step both_fail 0) i ≡ bit (false ∷ []) i) (refl, tt);
  latches = λ l h off. each 2 (λ l. bit (at_step both_fail 0) (latch_net inverters l) ≡ bit (false ∷ true ∷ []) l) (refl, (refl, tt)) l h;
  gates = each 7 (λ g. (node_net toggle (inverters_block g) ≡ 3 → ⊥) → bit (at_step both_fail 0) (node_net inverters g) ≡ node_value inverters NoFault (at_step both_fail 0) g)
      (λ off. absurd (off refl), (λ off. absurd (off refl), (λ off. refl, (λ off. refl, (λ off. refl, (λ off. refl, (λ off. refl, tt)))))));
}

-- neither inverter settles, so one failing gate is both
pub failing_block_does_more : FailingBlockDoesMore
failing_block_does_more = record {
  failing = (both_settle, tt);
  beyond = λ net h. elim (cases_eq 3 net) [
    | inl e ↦ false≢true (h.0.nodes 1 (omega arith) (λ d. omega arith))
    | inr off ↦ false≢true (h.0.nodes 0 (omega arith) off)
  ];
}

-- ---- merged nodes

-- the bits of the nets, where all gates but the first settle: two inputs, what the first gate gives, and what follows from it
abbrev around : Bool → Bool → Bool → List Bool
around a b y = a ∷ b ∷ y ∷ not y ∷ y ∷ not y ∷ []

-- no net has the conjunction of the inputs, where the first gate gives 0 whatever they are
no_net : (net : ℕ) → bit (around true true false) net ≡ true → bit (around true false false) net ≡ false → bit (around false true false) net ≡ false → ⊥
no_net zero p q r = true≢false q
no_net (suc zero) p q r = true≢false r
no_net (suc (suc zero)) p q r = false≢true p
no_net (suc (suc (suc zero))) p q r = true≢false q
no_net (suc (suc (suc (suc zero)))) p q r = false≢true p
no_net (suc (suc (suc (suc (suc zero))))) p q r = true≢false q
no_net (suc (suc (suc (suc (suc (suc n)))))) p q r = false≢true p

module _ (at block : ℕ → ℕ) (m : IsMapped small_netlist merged at block) where
  -- all gates but the first settle
  others : (j : ℕ) (a b : Bool) → (block 0 ≡ j → ⊥) → BlockSettles merged block j (around a b false)
  others j a b off = record {
    sized = refl;
    gates = λ g h. each 4 (λ g. block g ≡ j → bit (around a b false) (node_net merged g) ≡ node_value merged NoFault (around a b false) g)
        (λ e. absurd (off e), (λ e. refl, (λ e. refl, (λ e. refl, tt)))) g h;
  }

  conjunction : (v : List Bool) → truth and_cover (bit v (at 0) ∷ bit v (at 1) ∷ []) ≡ truth and_cover (bit v 0 ∷ bit v 1 ∷ [])
  conjunction v = ap₂ (λ p q. truth and_cover (bit v p ∷ bit v q ∷ [])) (m.sources 0 (omega arith)) (m.sources 1 (omega arith))

  -- so the first gate is of the block of each node that is the conjunction of the inputs
  of_first : (block 0 ≡ 0 → ⊥) → ⊥
  of_first off = no_net (at 2) (value true true) (value true false) (value false true)
    where
      value : (a b : Bool) → bit (around a b false) (at 2) ≡ truth and_cover (a ∷ b ∷ [])
      value a b = m.computes 0 (around a b false) (omega arith) (others 0 a b off) ∙ conjunction (around a b false)

  of_second : (block 0 ≡ 1 → ⊥) → ⊥
  of_second off = no_net (at 3) (value true true) (value true false) (value false true)
    where
      value : (a b : Bool) → bit (around a b false) (at 3) ≡ truth and_cover (a ∷ b ∷ [])
      value a b = m.computes 1 (around a b false) (omega arith) (others 1 a b off) ∙ conjunction (around a b false)

-- the small netlist with y and its copy merged into one gate is no mapping of it
pub merged_is_not_mapped : MergedIsNotMapped
merged_is_not_mapped at block m = elim (cases_eq (block 0) 0) [
  | inl e ↦ of_second at block m (λ d. omega arith)
  | inr off ↦ of_first at block m off
]

-- ---- a missing gate

-- where all nets are 1, the buffer settles
all_ones : (shown : List ℕ) (block : ℕ → ℕ) → BlockSettles (without_zero shown) block 1 (true ∷ true ∷ [])
all_ones shown block = record {
  sized = refl;
  gates = λ g h. each 1 (λ g. block g ≡ 1 → bit (true ∷ true ∷ []) (node_net (without_zero shown) g) ≡ node_value (without_zero shown) NoFault (true ∷ true ∷ []) g)
      (λ e. refl, tt) g h;
}

-- so no net is the one that is 0
no_zero : (net : ℕ) → net < 2 → bit (true ∷ true ∷ []) net ≡ false → ⊥
no_zero zero h e = true≢false e
no_zero (suc zero) h e = true≢false e
no_zero (suc (suc n)) h e = absurd (omega arith)

pub missing_is_not_mapped : MissingIsNotMapped
missing_is_not_mapped shown at block m = no_zero (at 2) (m.inside 2 (omega arith)) (m.computes 1 (true ∷ true ∷ []) (omega arith) (all_ones shown block))

-- ---- open gates

buffer_closed : IsClosed (one_gate buf_cover (0 ∷ []))
buffer_closed = record {
  pins = each_pin (one_gate buf_cover (0 ∷ [])) (λ j pin. pin_net (one_gate buf_cover (0 ∷ [])) j pin < 2) (omega arith);
  latches = λ k d h. absurd (omega arith);
  outputs = λ k d h. each 1 (λ k. slice_index_or (1 ∷ []) k d < 2) (omega arith) k h;
  some_output = omega arith;
  widths = λ k d h. each 1 (λ k. (slice_index_or (gate buf_cover (0 ∷ []) ∷ []) k d).cover.width ≡ length (slice_index_or (gate buf_cover (0 ∷ []) ∷ []) k d).reads) (refl, tt) k h;
}

pub open_is_not_mapped : OpenIsNotMapped
open_is_not_mapped = record {
  no_net = λ at block m. let past : 9 < 2 = (m.closed buffer_closed).pins 0 1 (omega arith) (omega arith) in absurd (omega arith);
  no_pin = λ at block m. let wide : 2 ≡ 1 = (m.closed buffer_closed).widths 0 no_node (omega arith) in absurd (omega arith);
}
