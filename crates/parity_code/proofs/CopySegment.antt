-- A copy of nodes of an acyclic circuit is a stretch without a ring.
use Rattle.std.proofs.Common.{◌≡◌, ℕ, suc, ◌+◌, ◌-◌, ◌<◌, ◌≤◌, ◌⊎◌, inl, inr, List, length, slice_index, sum_by, sym, ◌∙◌, ap, subst, arith}
use Rattle.std.proofs.lemmas.List.Sums.{get_or-le-sum_by}
use Rattle.fault_secure.specs.Circuit.{Circuit, node, node_net, pin_net}
use Rattle.fault_secure.specs.Settle.{Ranks}
use Rattle.fault_secure.specs.Segment.{Segment, IsNetBetween}
use Rattle.parity_code.specs.Copy.{IsCopy}
use Rattle.parity_code.proofs.CopyLemmas.{pin_net-renamed, pins-renamed}

module _ (C N : Circuit) (places : List ℕ) (base : ℕ) (net : ℕ → ℕ) (rank : ℕ → ℕ) (copy : IsCopy C N places base net) (ranks : Ranks C rank) where
  -- the rank of what a net of the copy is a copy of
  copied_rank : ℕ → ℕ
  copied_rank m = rank (node_net C (slice_index places (m - node_net N base)))

  bound : ℕ
  bound = suc (sum_by (λ place. rank (node_net C place)) places)

  rank_at : (k : ℕ) → copied_rank (node_net N (base + k)) ≡ rank (node_net C (slice_index places k))
  unfolding copied_rank
  rank_at k = let e : node_net N (base + k) - node_net N base ≡ k = omega arith in ap (λ i. rank (node_net C (slice_index places i))) e

  bounded : (m : ℕ) → IsNetBetween N base (base + length places) m → copied_rank m < bound
  unfolding copied_rank bound
  bounded m between =
      let inside : m - node_net N base < length places = omega arith in
      let b : rank (node_net C (slice_index places (m - node_net N base))) ≤ sum_by (λ place. rank (node_net C place)) places
      = get_or-le-sum_by (λ place. rank (node_net C place)) places (m - node_net N base) 0 inside in
      omega arith

  reads_at : (k pin : ℕ) → k < length places → pin < length (node N (base + k)).reads
      → (pin_net N (base + k) pin < node_net N base) ⊎ (IsNetBetween N base (base + length places) (pin_net N (base + k) pin) × (copied_rank (pin_net N (base + k) pin) < copied_rank (node_net N (base + k))))
  reads_at k pin within has =
      let place : ℕ = slice_index places k in
      let pins : length (node N (base + k)).reads ≡ length (node C place).reads = pins-renamed C N net (base + k) place (copy.nodes k within) in
      let there : pin < length (node C place).reads = omega arith in
      let e : pin_net N (base + k) pin ≡ net (pin_net C place pin) = pin_net-renamed C N net (base + k) place pin (copy.nodes k within) there in
      let higher : rank (pin_net C place pin) < rank (node_net C place) = ranks.above place pin (copy.within k within) there in
      elim (copy.closed k pin within there) [
        | inl input ↦ (let f : net (pin_net C place pin) ≡ pin_net C place pin = copy.inputs (pin_net C place pin) input in
            let g : N.inputs ≡ C.inputs = copy.same_inputs in inl (omega arith))
        | inr other ↦ (let m : ℕ = other.0 in
            let f : net (pin_net C place pin) ≡ net (node_net C (slice_index places other.0)) = ap net other.2 in
            let g : net (node_net C (slice_index places other.0)) ≡ node_net N (base + other.0) = copy.nets other.0 other.1 in
            let is : pin_net N (base + k) pin ≡ node_net N (base + other.0) = e ∙ f ∙ g in
            let r : copied_rank (pin_net N (base + k) pin) ≡ rank (pin_net C place pin) = ap copied_rank is ∙ rank_at other.0 ∙ sym (ap rank other.2) in
            let s : copied_rank (node_net N (base + k)) ≡ rank (node_net C place) = rank_at k in
            let o : other.0 < length places = other.1 in
            inr ((omega arith, omega arith), omega arith))
      ]

  pub copy_segment : Segment N base (base + length places)
  copy_segment = record {
    rank = copied_rank;
    bound = bound;
    ordered = omega arith;
    fits = copy.fits;
    bounded = bounded;
    reads = λ j pin from to has.
        let e : j ≡ base + (j - base) = omega arith in
        let P : ℕ → Type 0 = λ i. (pin_net N i pin < node_net N base) ⊎ (IsNetBetween N base (base + length places) (pin_net N i pin) × (copied_rank (pin_net N i pin) < copied_rank (node_net N i))) in
        let has' : pin < length (node N (base + (j - base))).reads = subst (λ i. pin < length (node N i).reads) e has in
        subst P (sym e) (reads_at (j - base) pin (omega arith) has');
  }
