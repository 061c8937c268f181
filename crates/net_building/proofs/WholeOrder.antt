-- Where each node reads only nodes of lower rank, the evaluation order is whole.
use Rattle.std.proofs.Common.{◌≡◌, ℕ, zero, suc, ◌+◌, ◌<◌, ◌≤◌, ◌⊎◌, Bool, true, false, not, List, [], ◌∷◌, ◌++◌, length, Contains, slice_index, Option, Some, None, refl, sym, ap, ◌∙◌, arith, eqb, inl, inr, length-append, true≢false}
use Rattle.std.specs.List.{list_any, list_all}
use Rattle.std.proofs.lemmas.Bool.{and_from}
use Rattle.std.proofs.lemmas.Bool.Decides.{nat_tests}
use Rattle.std.proofs.lemmas.List.Elements.{Contains-get_or}
use Rattle.std.proofs.lemmas.Map.Steps.{le-length_from_below}
use Rattle.tsc_net.specs.Order.{has_place, next_node, order_from, evaluation_order, has_whole_order}
use Rattle.tsc_bits.specs.Lists.{list_at}
use Rattle.tsc_net.proofs.OrderSteps.{is_next, list_all-by, none_may}
use Rattle.tsc_net.proofs.RingWithin.{has_place-eqb, order_most}

-- an order ends since no node is next, or it has all the nodes that it may have
order_ends : (most : ℕ) (fans : List (List ℕ)) (listed : List ℕ) → (next_node fans (order_from most fans listed) ≡ None) ⊎ (length (order_from most fans listed) ≡ length listed + most)
order_ends zero fans listed = inr (omega arith)
order_ends (suc most) fans listed = by (next_node fans listed) refl (λ more. order_ends most fans more)
  where
    by : (r : Option ℕ) → next_node fans listed ≡ r → ((more : List ℕ) → (next_node fans (order_from most fans more) ≡ None) ⊎ (length (order_from most fans more) ≡ length more + most))
        → (next_node fans (elim r [ None ↦ listed | Some j ↦ order_from most fans (listed ++ j ∷ []) ]) ≡ None)
        ⊎ (length {A = ℕ} (elim r [ None ↦ listed | Some j ↦ order_from most fans (listed ++ j ∷ []) ]) ≡ length listed + suc most)
    by None e go = inl e
    by (Some j) e go = elim (go (listed ++ j ∷ [])) [
      | inl none ↦ inl none
      | inr many ↦ inr (omega (arith, many, length-append listed (j ∷ [])))
    ]

module _ (fans : List (List ℕ)) (rank : ℕ → ℕ) (lower : (j k : ℕ) → j < length fans → Contains (list_at fans j) k → (k < length fans) × (rank k < rank j)) where
  -- where no node is next, those of each rank are listed
  all_listed : (listed : List ℕ) → next_node fans listed ≡ None → (r j : ℕ) → rank j < r → j < length fans → has_place listed j ≡ true
  all_listed listed none zero j low h = absurd (omega arith)
  all_listed listed none (suc r) j low h =
      by (has_place listed j) refl
      (list_all-by (has_place listed) (list_at fans j)
      (λ pin hp. let is = lower j (slice_index (list_at fans j) pin) h (Contains-get_or (list_at fans j) pin 0 hp) in
      all_listed listed none r (slice_index (list_at fans j) pin) (omega (arith, is.1, low)) is.0))
    where
      by : (b : Bool) → has_place listed j ≡ b → list_all (has_place listed) (list_at fans j) ≡ true → has_place listed j ≡ true
      by true e reads_listed = e
      by false e reads_listed =
          let may : is_next listed j (list_at fans j) ≡ true = and_from (not (has_place listed j)) (list_all (has_place listed) (list_at fans j)) (ap not e) reads_listed in
          let not_ : is_next listed (0 + j) (list_at fans j) ≡ false = none_may listed fans 0 none j h in
          let same : is_next listed (0 + j) (list_at fans j) ≡ is_next listed j (list_at fans j) = ap (λ n. is_next listed n (list_at fans j)) (omega arith) in
          absurd (true≢false (sym may ∙ sym same ∙ not_))

  -- so the order is whole
  pub whole_by_rank : has_whole_order fans ≡ true
  whole_by_rank =
      let few : length (evaluation_order fans) ≤ length {A = ℕ} [] + length fans = order_most (length fans) fans [] in
      elim (order_ends (length fans) fans []) [
        | inr many ↦ let all : length (evaluation_order fans) ≡ length {A = ℕ} [] + length fans = many in grind (arith, nat_tests)
        | inl none ↦
            let order = evaluation_order fans in
            let stands : (q : ℕ) → q < length fans → list_any (eqb q) order ≡ true =
            λ q h. has_place-eqb q order ∙ all_listed order none (rank q + 1) q (omega arith) h in
            let many : length fans ≤ length order = le-length_from_below order (length fans) stands in
            grind (arith, nat_tests)
      ]
