-- Groups of places: one changed place of a group flips its parity, and each place of the word stands in a group.
use Rattle.std.proofs.Common.{◌≡◌, ℕ, zero, suc, ◌+◌, ◌-◌, ◌<◌, ◌≤◌, ◌==◌, ◌⊎◌, inl, inr, Bool, true, false, not, List, [], ◌∷◌, ◌++◌, length, count_by, slice_index, slice_index_or, refl, ap, ap₂, sym, ◌∙◌, subst, arith, eqb-true, length-append}
use Rattle.std.proofs.lemmas.Bool.{cases_lt}
use Rattle.std.proofs.lemmas.List.{get_or_at, get_or_append_left, get_or-append_right, length_push}
use Rattle.fault_secure.specs.Circuit.{bit}
use Rattle.fault_secure.specs.CodePlan.{CodePlan, bits_at, members_from, members, concat_places, HasGroups}
use Rattle.tsc_bits.specs.Counting.{odd, differ}

-- ---- one changed place flips the parity

pub differ_not : (a b o : Bool) → (a ≡ b → ⊥) → differ a o ≡ not (differ b o)
differ_not true true o n = absurd (n refl)
differ_not false false o n = absurd (n refl)
differ_not true false o n = refl
differ_not false true true n = refl
differ_not false true false n = refl

differ_right : (a o : Bool) → differ a (not o) ≡ not (differ a o)
differ_right true o = refl
differ_right false o = refl

module _ (w u : List Bool) (Touched : ℕ → Type 0) (rest : (place : ℕ) → (Touched place → ⊥) → bit w place ≡ bit u place) where
  -- no two places of the group are touched
  abbrev AtMostOne : List ℕ → Type 0
  AtMostOne group = (a b : ℕ) → a < b → b < length group → Touched (slice_index group a) → Touched (slice_index group b) → ⊥

  others_same : (group : List ℕ) → ((i : ℕ) → i < length group → Touched (slice_index group i) → ⊥) → bits_at w group ≡ bits_at u group
  others_same [] free = refl
  others_same (place ∷ group) free =
      ap₂ ◌∷◌ (rest place (free zero (omega arith))) (others_same group (λ i l. free (suc i) (omega arith)))

  pub parity_flips : (group : List ℕ) → AtMostOne group → (i : ℕ) → i < length group
      → (bit w (slice_index group i) ≡ bit u (slice_index group i) → ⊥) → odd (bits_at w group) ≡ not (odd (bits_at u group))
  parity_flips [] one i l n = absurd (omega arith)
  parity_flips (place ∷ group) one zero l n =
      let same = others_same group (λ i k t. n (rest place (λ h. one zero (suc i) (omega arith) (omega arith) h t))) in
      ap (λ bits. differ (bit w place) (odd bits)) same ∙ differ_not (bit w place) (bit u place) (odd (bits_at u group)) n
  parity_flips (place ∷ group) one (suc i) l n =
      let here = rest place (λ h. n (rest (slice_index group i) (one zero (suc i) (omega arith) (omega arith) h))) in
      let flips = parity_flips group (λ a b k m. one (suc a) (suc b) (omega arith) (omega arith)) i (omega arith) n in
      ap₂ differ here flips ∙ differ_right (bit u place) (odd (bits_at u group))

-- ---- each place stands in a group

pub record InGroup (groups : List (List ℕ)) (place : ℕ) : Type 0 where
  pub group : ℕ
  pub index : ℕ
  pub there : group < length groups
  pub within : index < length (slice_index_or groups group [])
  pub is : slice_index (slice_index_or groups group []) index ≡ place

in_later : (first : List ℕ) (groups : List (List ℕ)) (place : ℕ) → InGroup groups place → InGroup (first ∷ groups) place
in_later first groups place h = record { group = suc h.group; index = h.index; there = let l = h.there in omega arith; within = h.within; is = h.is }

pub record At (places : List ℕ) (place : ℕ) : Type 0 where
  pub index : ℕ
  pub within : index < length places
  pub is : slice_index places index ≡ place

counted_head : (place first : ℕ) (places : List ℕ) (b : Bool) → (place == first) ≡ b → (0 < count_by (λ other. place == other) places → At places place)
    → 0 < count_by (λ other. place == other) (first ∷ places) → At (first ∷ places) place
counted_head place first places true e later h = record { index = zero; within = omega arith; is = sym (eqb-true place first e) }
counted_head place first places false e later h =
    let there = later (rw e at h) in
    record { index = suc there.index; within = (let l = there.within in omega arith); is = there.is }

pub counted_at : (place : ℕ) (places : List ℕ) → 0 < count_by (λ other. place == other) places → At places place
counted_at place [] h = absurd (omega arith)
counted_at place (first ∷ places) h = counted_head place first places (place == first) refl (counted_at place places) h

at_left : (xs ys : List ℕ) (place : ℕ) → At xs place → At (xs ++ ys) place
at_left xs ys place h = record {
  index = h.index;
  within = (let l = h.within in let e = length-append xs ys in omega arith);
  is = get_or_append_left xs ys 0 h.index h.within ∙ h.is;
}

at_split : (xs ys : List ℕ) (place : ℕ) (h : At (xs ++ ys) place) → (h.index < length xs) ⊎ (length xs ≤ h.index) → At xs place ⊎ At ys place
at_split xs ys place h (inl l) = inl (record { index = h.index; within = l; is = sym (get_or_append_left xs ys 0 h.index l) ∙ h.is })
at_split xs ys place h (inr l) = inr (record {
  index = h.index - length xs;
  within = (let k = h.within in let e = length-append xs ys in omega arith);
  is = sym (get_or-append_right xs ys (length xs) h.index 0 refl l) ∙ h.is;
})

in_first : (group : List ℕ) (check : ℕ) (groups : List (List ℕ)) (place : ℕ) → At group place → InGroup ((group ++ check ∷ []) ∷ groups) place
in_first group check groups place h =
    let longer = at_left group (check ∷ []) place h in
    record { group = zero; index = longer.index; there = omega arith; within = longer.within; is = longer.is }

pub output_in_group : (check place : ℕ) (groups : List (List ℕ)) → At (concat_places groups) place → InGroup (members_from check groups) place
output_in_group check place [] h = absurd (let l = h.within in omega arith)
output_in_group check place (group ∷ groups) h =
    elim (at_split group (concat_places groups) place h (cases_lt h.index (length group))) [
      | inl k ↦ in_first group check (members_from (suc check) groups) place k
      | inr k ↦ in_later (group ++ check ∷ []) (members_from (suc check) groups) place (output_in_group (suc check) place groups k)
    ]

pub check_in_group : (check i : ℕ) (groups : List (List ℕ)) → i < length groups → InGroup (members_from check groups) (check + i)
check_in_group check i [] h = absurd (omega arith)
check_in_group check zero (group ∷ groups) h = record {
  group = zero;
  index = length group;
  there = omega arith;
  within = (let e = length_push group check in omega arith);
  is = get_or_at group check [] 0 (length group) refl ∙ omega arith;
}
check_in_group check (suc i) (group ∷ groups) h =
    in_later (group ++ check ∷ []) (members_from (suc check) groups) (check + suc i)
    (subst (InGroup (members_from (suc check) groups)) (omega arith) (check_in_group (suc check) i groups (omega arith)))

-- each place of the word stands in a group
pub place_in_group : (P : CodePlan) → HasGroups P → (place : ℕ) → place < P.outputs + length P.checks → InGroup (members P) place
place_in_group P groups place h = at_place (cases_lt place P.outputs)
  where
    at_place : (place < P.outputs) ⊎ (P.outputs ≤ place) → InGroup (members P) place
    at_place (inl l) = output_in_group P.outputs place P.groups (counted_at place (concat_places P.groups) (let e = groups.once place l in omega arith))
    at_place (inr l) =
        subst (InGroup (members P)) (omega arith)
        (check_in_group P.outputs (place - P.outputs) P.groups (let e = groups.paired in omega arith))
