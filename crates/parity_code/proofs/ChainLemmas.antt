-- What a chain of exclusive ors reads, and what its value is.
use Rattle.std.proofs.Common.{◌≡◌, ℕ, zero, suc, ◌+◌, ◌-◌, ◌<◌, ◌≤◌, ◌⊎◌, inl, inr, Bool, true, false, List, [], ◌∷◌, map, length, slice_index, All, refl, sym, ◌∙◌, ap, subst, arith}
use Rattle.std.proofs.lemmas.Bool.{cases_lt}
use Rattle.std.proofs.lemmas.List.Elements.{All-weaker, All-head, All-tail}
use Rattle.tsc_cover.specs.Cover.{truth}
use Rattle.tsc_cover.specs.Gates.{xor_cover}
use Rattle.fault_secure.specs.Circuit.{Circuit, node, node_net, pin_net, bit, gate}
use Rattle.fault_secure.specs.StuckAt.{NoFault}
use Rattle.fault_secure.specs.Settle.{node_value}
use Rattle.tsc_bits.specs.Counting.{differ, odd}
use Rattle.fault_secure.specs.Stretch.{StretchSettles}
use Rattle.fault_secure.proofs.GateLemmas.{node_value-gate, truth-xor}
use Rattle.parity_code.specs.Chain.{IsChain}
use Rattle.tsc_bits.proofs.Bools.{differ-assoc}

-- a chain's end is odd exactly where the nets that it joins are
pub chain_value : (N : Circuit) (u : List Bool) (from made : ℕ) (ns : List ℕ) (last : ℕ) → IsChain N from made ns last
    → StretchSettles N u from (from + length ns) → bit u last ≡ odd (map (bit u) (made ∷ ns))
chain_value N u from made [] last is settles = ap (bit u) is ∙ sym (end (bit u made))
  where
    end : (a : Bool) → differ a false ≡ a
    end true = refl
    end false = refl
chain_value N u from made (n ∷ ns) last is settles =
    let here : bit u (node_net N from) ≡ node_value N NoFault u from = settles.nodes from (omega arith) (omega arith) in
    let value : node_value N NoFault u from ≡ truth xor_cover (bit u made ∷ (bit u n ∷ [])) = node_value-gate N u from xor_cover (made ∷ (n ∷ [])) is.0 in
    let rest : bit u last ≡ odd (map (bit u) (node_net N from ∷ ns))
    = chain_value N u (suc from) (node_net N from) ns last is.1 (record { nodes = λ j low high. settles.nodes j (omega arith) (omega arith) }) in
    rest ∙ ap (λ b. differ b (odd (map (bit u) ns))) (here ∙ value ∙ truth-xor (bit u made) (bit u n)) ∙ differ-assoc (bit u made) (bit u n) (odd (map (bit u) ns))

-- a net of an earlier node of the chain
abbrev IsEarlier : Circuit → ℕ → ℕ → ℕ → Type 0
IsEarlier N from j m = (i : ℕ) × (from ≤ i) × (i < j) × (m ≡ node_net N i)

two_pins : (P : ℕ → Type 0) (a b pin : ℕ) → P a → P b → pin < 2 → P (slice_index (a ∷ (b ∷ [])) pin)
two_pins P a b zero pa pb h = pa
two_pins P a b (suc zero) pa pb h = pb
two_pins P a b (suc (suc pin)) pa pb h = absurd (omega arith)

-- each pin of a chain reads the net that it starts with, one that it joins, or an earlier node of it
pub chain_reads : (P : ℕ → Type 0) (N : Circuit) (from made : ℕ) (ns : List ℕ) (last : ℕ) → IsChain N from made ns last → P made → All P ns
    → (j pin : ℕ) → from ≤ j → j < from + length ns → pin < length (node N j).reads → P (pin_net N j pin) ⊎ IsEarlier N from j (pin_net N j pin)
chain_reads P N from made [] last is made_is all j pin low high has = absurd (omega arith)
chain_reads P N from made (n ∷ ns) last is made_is all j pin low high has =
    elim (cases_lt from j) [
      | inl after ↦ elim (chain_reads (λ m. P m ⊎ (m ≡ node_net N from)) N (suc from) (node_net N from) ns last is.1 (inr refl)
          (All-weaker P (λ m. P m ⊎ (m ≡ node_net N from)) (λ m p. inl p) ns (All-tail P n ns all)) j pin (omega arith) (omega arith) has) [
            | inl old ↦ elim old [ inl p ↦ inl p | inr e ↦ inr (from, omega arith, after, e) ]
            | inr new ↦ inr (new.0, omega arith, new.2, new.3)
          ]
      | inr here ↦ (
          let at : j ≡ from = omega arith in
          let same : node N j ≡ gate xor_cover (made ∷ (n ∷ [])) = ap (node N) at ∙ is.0 in
          let reads : (node N j).reads ≡ made ∷ (n ∷ []) = ap (λ m. m.reads) same in
          let count : length (node N j).reads ≡ 2 = ap length reads in
          let p : P (slice_index (made ∷ (n ∷ [])) pin) = two_pins P made n pin made_is (All-head P n ns all) (omega arith) in
          inl (subst (λ reads. P (slice_index reads pin)) (sym reads) p))
    ]

-- the end of a chain is the net that it starts with, or one of its nodes drives it
pub chain_last : (P : ℕ → Type 0) (N : Circuit) (from made : ℕ) (ns : List ℕ) (last : ℕ) → IsChain N from made ns last → P made
    → P last ⊎ IsEarlier N from (from + length ns) last
chain_last P N from made [] last is made_is = inl (subst P (sym is) made_is)
chain_last P N from made (n ∷ ns) last is made_is =
    elim (chain_last (λ m. P m ⊎ (m ≡ node_net N from)) N (suc from) (node_net N from) ns last is.1 (inr refl)) [
      | inl old ↦ elim old [ inl p ↦ inl p | inr e ↦ inr (from, omega arith, omega arith, e) ]
      | inr new ↦ inr (new.0, omega arith, omega arith, new.3)
    ]
