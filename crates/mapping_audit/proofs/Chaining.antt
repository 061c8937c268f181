-- Chains of the gates of blocks.
use Rattle.std.proofs.Common.{◌≡◌, ℕ, ◌+◌, ◌-◌, ◌<◌, ◌≤◌, ◌==◌, inl, inr, nat_lt, Bool, true, false, cond, if◌then◌else◌, List, [], ◌∷◌, ◌++◌, length, drop, replicate, slice_index, slice_index_or, slice_set, All, refl, sym, ◌∙◌, ap, subst, arith, append_assoc, length-set, length-append, length-drop}
use Rattle.std.proofs.lemmas.Bool.{cases_lt, cases_eq}
use Rattle.std.proofs.lemmas.Grind.{common_steps}
use Rattle.std.proofs.lemmas.List.{drop_more, drop_all, get_or-drop, get_or-replicate, append-nil}
use Rattle.std.proofs.lemmas.List.Elements.{All-head, All-tail, All-filter}
use Rattle.tsc_net.specs.Order.{place_in, IsOrder}
use Rattle.mapping_reading.specs.ReadMapping.{members}
use Rattle.mapping_audit.specs.Chains.{IsChain, AreChainsFrom, AreChains}
use Rattle.mapping_audit.proofs.Writing.{written, kept}

-- a chain stays where a gate that isn't in it gets another next one
chain_kept : (next : List ℕ) (end g v gate : ℕ) (gates : List ℕ) → All (λ x. x ≡ g → ⊥) gates → IsChain next end gate gates → IsChain (slice_set next g v) end gate gates
chain_kept next end g v gate [] apart chain = chain
chain_kept next end g v gate (x ∷ gates) apart (is, low, rest) = (
  is,
  low,
  subst (λ y. IsChain (slice_set next g v) end y gates) (sym (kept next g v x (All-head (λ x. x ≡ g → ⊥) x gates apart)))
      (chain_kept next end g v (slice_index next x) gates (All-tail (λ x. x ≡ g → ⊥) x gates apart) rest),
)

module _ (fans : List (List ℕ)) (order : List ℕ) (none end : ℕ) (blocks : List ℕ) (whole : IsOrder fans order) where
  -- nothing is linked
  pub chains_start : (heads next : List ℕ) → heads ≡ replicate none end → length heads ≡ none → length next ≡ end → AreChainsFrom order none end blocks (length order) heads next
  chains_start heads next are headed sized = record {
    headed = headed;
    sized = sized;
    chains = λ j low. subst (IsChain next end (slice_index heads j)) (sym (ap (λ rest. members (slice_index blocks) rest j) (drop_all (length order) order (omega arith))))
        (ap (λ xs. slice_index xs j) are ∙ get_or-replicate none j end 0 low);
  }

  -- a gate stands nowhere behind its place
  apart : (place : ℕ) → place < length order → All (λ x. x ≡ slice_index order place → ⊥) (drop (place + 1) order)
  apart place within k d low is =
      let count : length (drop (place + 1) order) ≡ length order - (place + 1) = length-drop (place + 1) order in
      let there : place + 1 + k < length order = omega arith in
      let at : slice_index_or (drop (place + 1) order) k d ≡ slice_index_or order (place + 1 + k) d = get_or-drop (place + 1) order k d in
      let at' : slice_index_or order (place + 1 + k) d ≡ slice_index order (place + 1 + k) = same_read order (place + 1 + k) d there in
      let e : slice_index order (place + 1 + k) ≡ slice_index order place = sym at' ∙ sym at ∙ is in
      let a : place_in order (slice_index order (place + 1 + k)) ≡ place + 1 + k = whole.once (place + 1 + k) there in
      let b : place_in order (slice_index order place) ≡ place = whole.once place within in
      let c : place_in order (slice_index order (place + 1 + k)) ≡ place_in order (slice_index order place) = ap (place_in order) e in
      omega arith
    where
      same_read : (xs : List ℕ) (i d : ℕ) → i < length xs → slice_index_or xs i d ≡ slice_index xs i
      same_read xs i d h = grind (arith, common_steps)

  -- one gate is linked
  pub chains_step : (place : ℕ) (heads next heads' next' : List ℕ) → place < length order → slice_index order place < end
      → next' ≡ (if nat_lt (slice_index blocks (slice_index order place)) none then slice_set next (slice_index order place) (slice_index heads (slice_index blocks (slice_index order place))) else next)
      → heads' ≡ (if nat_lt (slice_index blocks (slice_index order place)) none then slice_set heads (slice_index blocks (slice_index order place)) (slice_index order place) else heads)
      → AreChainsFrom order none end blocks (place + 1) heads next → AreChainsFrom order none end blocks place heads' next'
  chains_step place heads next heads' next' within there next_is heads_is so_far = elim (cases_lt (slice_index blocks (slice_index order place)) none) [
    | inl low ↦ linked low
        (let e : next' ≡ slice_set next (slice_index order place) (slice_index heads (slice_index blocks (slice_index order place))) = grind (arith, common_steps) in e)
        (let e : heads' ≡ slice_set heads (slice_index blocks (slice_index order place)) (slice_index order place) = grind (arith, common_steps) in e)
    | inr high ↦ passed high (let e : next' ≡ next = grind (arith, common_steps) in e) (let e : heads' ≡ heads = grind (arith, common_steps) in e)
  ]
    where
      here : drop place order ≡ slice_index order place ∷ drop (place + 1) order
      here = drop_more order place 0 within

      own : (j : ℕ) → slice_index blocks (slice_index order place) ≡ j
          → members (slice_index blocks) (drop place order) j ≡ slice_index order place ∷ members (slice_index blocks) (drop (place + 1) order) j
      own j is = ap (λ rest. members (slice_index blocks) rest j) here ∙ by (slice_index blocks (slice_index order place) == j) (let t : (slice_index blocks (slice_index order place) == j) ≡ true = grind (arith, common_steps) in t)
        where
          by : (b : Bool) → b ≡ true → cond b (slice_index order place ∷ members (slice_index blocks) (drop (place + 1) order) j) (members (slice_index blocks) (drop (place + 1) order) j)
              ≡ slice_index order place ∷ members (slice_index blocks) (drop (place + 1) order) j
          by true e = refl
          by false e = cc

      foreign : (j : ℕ) → (slice_index blocks (slice_index order place) ≡ j → ⊥)
          → members (slice_index blocks) (drop place order) j ≡ members (slice_index blocks) (drop (place + 1) order) j
      foreign j isnt = ap (λ rest. members (slice_index blocks) rest j) here ∙ by (slice_index blocks (slice_index order place) == j) (let t : (slice_index blocks (slice_index order place) == j) ≡ false = grind (arith, common_steps) in t)
        where
          by : (b : Bool) → b ≡ false → cond b (slice_index order place ∷ members (slice_index blocks) (drop (place + 1) order) j) (members (slice_index blocks) (drop (place + 1) order) j)
              ≡ members (slice_index blocks) (drop (place + 1) order) j
          by true e = cc
          by false e = refl

      passed : none ≤ slice_index blocks (slice_index order place) → next' ≡ next → heads' ≡ heads → AreChainsFrom order none end blocks place heads' next'
      passed high next_same heads_same = record {
        headed = ap length heads_same ∙ so_far.headed;
        sized = ap length next_same ∙ so_far.sized;
        chains = λ j low. subst (λ nx. IsChain nx end (slice_index heads' j) (members (slice_index blocks) (drop place order) j)) (sym next_same)
            (subst (λ hs. IsChain next end (slice_index hs j) (members (slice_index blocks) (drop place order) j)) (sym heads_same)
            (subst (IsChain next end (slice_index heads j)) (sym (foreign j (λ e. omega arith))) (so_far.chains j low)));
      }

      linked : slice_index blocks (slice_index order place) < none → next' ≡ slice_set next (slice_index order place) (slice_index heads (slice_index blocks (slice_index order place)))
          → heads' ≡ slice_set heads (slice_index blocks (slice_index order place)) (slice_index order place) → AreChainsFrom order none end blocks place heads' next'
      linked blow next_set heads_set = record {
        headed = ap length heads_set ∙ length-set heads (slice_index blocks (slice_index order place)) (slice_index order place) ∙ so_far.headed;
        sized = ap length next_set ∙ length-set next (slice_index order place) (slice_index heads (slice_index blocks (slice_index order place))) ∙ so_far.sized;
        chains = λ j low. elim (cases_eq (slice_index blocks (slice_index order place)) j) [
          | inl same ↦
              let head : slice_index heads' j ≡ slice_index order place = ap (slice_index heads') (sym same) ∙ ap (λ hs. slice_index hs (slice_index blocks (slice_index order place))) heads_set
              ∙ written heads (slice_index blocks (slice_index order place)) (slice_index order place) (let h = so_far.headed in omega arith) in
              let behind : slice_index next' (slice_index order place) ≡ slice_index heads j = ap (λ nx. slice_index nx (slice_index order place)) next_set
              ∙ written next (slice_index order place) (slice_index heads (slice_index blocks (slice_index order place))) (let s = so_far.sized in omega arith) ∙ ap (slice_index heads) same in
              subst (IsChain next' end (slice_index heads' j)) (sym (own j same))
              (head, there, subst (λ g. IsChain next' end g (members (slice_index blocks) (drop (place + 1) order) j)) (sym behind) (stays j low))
          | inr other ↦
              let head : slice_index heads' j ≡ slice_index heads j = ap (λ hs. slice_index hs j) heads_set
              ∙ kept heads (slice_index blocks (slice_index order place)) (slice_index order place) j (λ e. other (sym e)) in
              subst (λ g. IsChain next' end g (members (slice_index blocks) (drop place order) j)) (sym head)
              (subst (IsChain next' end (slice_index heads j)) (sym (foreign j other)) (stays j low))
        ];
      }
        where
          stays : (j : ℕ) → j < none → IsChain next' end (slice_index heads j) (members (slice_index blocks) (drop (place + 1) order) j)
          stays j low = subst (λ nx. IsChain nx end (slice_index heads j) (members (slice_index blocks) (drop (place + 1) order) j)) (sym next_set)
              (chain_kept next end (slice_index order place) (slice_index heads (slice_index blocks (slice_index order place))) (slice_index heads j) (members (slice_index blocks) (drop (place + 1) order) j)
              (All-filter (λ g. slice_index blocks g == j) (λ x. x ≡ slice_index order place → ⊥) (drop (place + 1) order) (apart place within)) (so_far.chains j low))

  -- all gates are linked
  pub chains_end : (place : ℕ) (heads next : List ℕ) → place ≡ 0 → AreChainsFrom order none end blocks place heads next → AreChains order none end blocks heads next
  chains_end place heads next start so_far = record {
    headed = so_far.headed;
    sized = so_far.sized;
    chains = λ j low. subst (λ rest. IsChain next end (slice_index heads j) (members (slice_index blocks) rest j)) (ap (λ n. drop n order) start) (so_far.chains j low);
  }

-- ---- a walk along a chain

-- the gates that were walked over, and those that the chain has from `gate` on, are all
pub record IsWalk (next : List ℕ) (end : ℕ) (all gates : List ℕ) (gate : ℕ) : Type 0 where
  pub rest : List ℕ
  pub are : all ≡ gates ++ rest
  pub chain : IsChain next end gate rest

-- one gate on: it is one of the chain
pub walk_step : (next : List ℕ) (end : ℕ) (all gates : List ℕ) (gate : ℕ) → gate < end → IsWalk next end all gates gate
    → IsWalk next end all (gates ++ gate ∷ []) (slice_index next gate) × (length gates < length all)
walk_step next end all gates gate low walk = by walk.rest walk.are walk.chain
  where
    by : (rest : List ℕ) → all ≡ gates ++ rest → IsChain next end gate rest
        → IsWalk next end all (gates ++ gate ∷ []) (slice_index next gate) × (length gates < length all)
    by [] are chain = absurd (omega arith)
    by (g ∷ rest) are (is, there, chain) =
        let count : length all ≡ length gates + length (g ∷ rest) = ap length are ∙ length-append gates (g ∷ rest) in (
          record {
            rest = rest;
            are = are ∙ ap (λ x. gates ++ x ∷ rest) (sym is) ∙ sym (append_assoc gates (gate ∷ []) rest);
            chain = subst (λ x. IsChain next end (slice_index next x) rest) (sym is) chain;
          },
          omega arith,
        )

-- at the end all were walked over
pub walk_end : (next : List ℕ) (end : ℕ) (all gates : List ℕ) (gate : ℕ) → end ≤ gate → IsWalk next end all gates gate → gates ≡ all
walk_end next end all gates gate past walk = by walk.rest walk.are walk.chain
  where
    by : (rest : List ℕ) → all ≡ gates ++ rest → IsChain next end gate rest → gates ≡ all
    by [] are chain = sym (are ∙ append-nil gates)
    by (g ∷ rest) are (is, there, chain) = absurd (omega arith)
