-- The groups of a twin with that of its watch, as places of the outputs and of the registers that are shown after them.
use Rattle.std.specs.List.{range_with_len}
use Rattle.std.proofs.Common.{◌≡◌, ℕ, zero, suc, ◌+◌, ◌<◌, ◌≤◌, ◌==◌, inl, inr, cond, List, [], ◌∷◌, ◌++◌, map, length, slice_index, slice_index_or, All, count_by, refl, sym, ap, ◌∙◌, subst, arith, length-append}
use Rattle.std.proofs.lemmas.Bool.{cases_lt, ne_eqb, eq-eqb}
use Rattle.std.proofs.lemmas.List.{append-nil, append_assoc, get_or_append_left, get_or-append-add, ext_get_or}
use Rattle.std.proofs.lemmas.List.FromFn.{length-range_with_len, get_or-range_with_len, get_or-map-range_with_len, length-map-range_with_len}
use Rattle.std.proofs.lemmas.List.Sums.{sum_by-append, sum_by-cons}
use Rattle.std.proofs.lemmas.List.Elements.{All-append, All-push, All-head, All-tail, All-weaker, All-from_get_or}
use Rattle.fault_secure.specs.Circuit.{Circuit, nets}
use Rattle.fault_secure.specs.Closed.{IsClosed}
use Rattle.fault_secure.specs.CodePlan.{concat_places}
use Rattle.parity_code.proofs.PlacesWithin.{places_within}
use Rattle.register_synth.specs.TwinCircuit.{showing, with_watch, watched_groups}
use Rattle.register_synth.proofs.TwinMade.{IsGrouping}

-- ---- counts

-- a number that is above all of a list is none of it
none_below : (place n : ℕ) (places : List ℕ) → n ≤ place → All (λ p. p < n) places → count_by (λ other. place == other) places ≡ 0
none_below place n [] h all = refl
none_below place n (p ∷ places) h all =
    let low : p < n = All-head (λ p. p < n) p places all in
    let step : ◌≡◌ {A = ℕ} (cond (place == p) 1 0) 0 = ap (λ b. cond b 1 0) (ne_eqb place p (λ e. omega arith)) in
    let rest = none_below place n places h (All-tail (λ p. p < n) p places all) in
    omega (arith, sum_by-cons (λ other. cond (place == other) 1 0) p places, step, rest)

none_above : (place a n : ℕ) → place < a → count_by (λ other. place == other) (range_with_len a n) ≡ 0
none_above place a zero h = refl
none_above place a (suc n) h =
    let step : ◌≡◌ {A = ℕ} (cond (place == a) 1 0) 0 = ap (λ b. cond b 1 0) (ne_eqb place a (λ e. omega arith)) in
    let rest = none_above place (a + 1) n (omega arith) in
    omega (arith, sum_by-cons (λ other. cond (place == other) 1 0) a (range_with_len (a + 1) n), step, rest)

-- a number of a stretch stands in it once
pub once_in : (place a n : ℕ) → a ≤ place → place < a + n → count_by (λ other. place == other) (range_with_len a n) ≡ 1
once_in place a zero low high = absurd (omega arith)
once_in place a (suc n) low high = elim (cases_lt a place) [
  | inl later ↦ (
      let step : ◌≡◌ {A = ℕ} (cond (place == a) 1 0) 0 = ap (λ b. cond b 1 0) (ne_eqb place a (λ e. omega arith)) in
      let rest = once_in place (a + 1) n (omega arith) (omega arith) in
      omega (arith, sum_by-cons (λ other. cond (place == other) 1 0) a (range_with_len (a + 1) n), step, rest))
  | inr here ↦ (
      let step : ◌≡◌ {A = ℕ} (cond (place == a) 1 0) 1 = ap (λ b. cond b 1 0) (eq-eqb place a (omega arith)) in
      let rest = none_above place (a + 1) n (omega arith) in
      omega (arith, sum_by-cons (λ other. cond (place == other) 1 0) a (range_with_len (a + 1) n), step, rest))
]

-- the numbers of a stretch are below its end
pub stretch_below : (a n most : ℕ) → a + n ≤ most → All (λ p. p < most) (range_with_len a n)
stretch_below a n most h =
    All-from_get_or (λ p. p < most) (range_with_len a n) 0
    (λ i low. let at = get_or-range_with_len a n i 0 (omega (arith, low, length-range_with_len a n)) in omega (arith, at, low, length-range_with_len a n))

-- ---- one group more

-- the places of one more group
pub concat_push : (groups : List (List ℕ)) (group : List ℕ) → concat_places (groups ++ group ∷ []) ≡ concat_places groups ++ group
concat_push [] group = append-nil group
concat_push (first ∷ groups) group = ap (λ l. first ++ l) (concat_push groups group) ∙ sym (append_assoc first (concat_places groups) group)

-- a grouping with a group of the places after it
grouping_push : (outputs more : ℕ) (groups : List (List ℕ)) → IsGrouping outputs groups → IsGrouping (outputs + suc more) (groups ++ range_with_len outputs (suc more) ∷ [])
grouping_push outputs more groups g = record {
  filled = All-push (λ group. 0 < length group) groups (range_with_len outputs (suc more)) g.filled (omega arith);
  within = within;
  once = once;
  each_within = places_within (λ place. place < outputs + suc more) (groups ++ range_with_len outputs (suc more) ∷ []) within;
}
  where
    within : All (λ place. place < outputs + suc more) (concat_places (groups ++ range_with_len outputs (suc more) ∷ []))
    within =
        subst (All (λ place. place < outputs + suc more)) (sym (concat_push groups (range_with_len outputs (suc more))))
        (All-append (λ place. place < outputs + suc more) (concat_places groups) (range_with_len outputs (suc more))
        (All-weaker (λ place. place < outputs) (λ place. place < outputs + suc more) (λ place h. omega arith) (concat_places groups) g.within)
        (stretch_below outputs (suc more) (outputs + suc more) (omega arith)))

    once : (place : ℕ) → place < outputs + suc more → count_by (λ other. place == other) (concat_places (groups ++ range_with_len outputs (suc more) ∷ [])) ≡ 1
    once place h =
        let joined = ap (count_by (λ other. place == other)) (concat_push groups (range_with_len outputs (suc more))) in
        let both = sum_by-append (λ other. cond (place == other) 1 0) (concat_places groups) (range_with_len outputs (suc more)) in
        elim (cases_lt place outputs) [
          | inl old ↦ omega (arith, joined, both, g.once place old, none_above place outputs (suc more) old)
          | inr new ↦ omega (arith, joined, both, none_below place outputs (concat_places groups) new g.within, once_in place outputs (suc more) new h)
        ]

-- the groups with that of the watch group the outputs with the registers after them
pub watched_grouping : (watched : ℕ) (T : Circuit) (groups : List (List ℕ)) → IsGrouping (length T.outputs) groups → IsGrouping (length (showing watched T).outputs) (watched_groups watched T groups)
watched_grouping zero T groups g = subst (λ n. IsGrouping n groups) (let e : length T.outputs ≡ length (T.outputs ++ []) = omega (arith, length-append T.outputs []) in e) g
watched_grouping (suc more) T groups g =
    subst (λ n. IsGrouping n (groups ++ range_with_len (length T.outputs) (suc more) ∷ []))
    (let e : length T.outputs + suc more ≡ length (T.outputs ++ range_with_len T.inputs (suc more)) = omega (arith, length-append T.outputs (range_with_len T.inputs (suc more)), length-range_with_len T.inputs (suc more)) in e)
    (grouping_push (length T.outputs) more groups g)

-- the first groups are those of the outputs
pub first_groups : (outputs watched : ℕ) (groups : List (List ℕ)) (i : ℕ) → i < length groups → slice_index_or (with_watch outputs watched groups) i [] ≡ slice_index_or groups i []
first_groups outputs zero groups i h = refl
first_groups outputs (suc more) groups i h = get_or_append_left groups (range_with_len outputs (suc more) ∷ []) [] i h

-- the group of the watch stands after them
pub watch_last : (outputs watched : ℕ) (groups : List (List ℕ)) → with_watch outputs watched groups ≡ groups ++ with_watch outputs watched []
watch_last outputs zero groups = sym (append-nil groups)
watch_last outputs (suc more) groups = refl

-- ---- the outputs, and the registers after them

module _ (T : Circuit) (watched : ℕ) where
  -- an output is one of the first
  pub shown_output : (place : ℕ) → place < length T.outputs → slice_index (showing watched T).outputs place ≡ slice_index T.outputs place
  shown_output place h = get_or_append_left T.outputs (range_with_len T.inputs watched) 0 place h

  -- the registers are shown after the outputs
  pub shown_registers : map (slice_index (showing watched T).outputs) (range_with_len (length T.outputs) watched) ≡ range_with_len T.inputs watched
  shown_registers =
      ext_get_or 0 (map (slice_index (showing watched T).outputs) (range_with_len (length T.outputs) watched)) (range_with_len T.inputs watched)
      (length-map-range_with_len (slice_index (showing watched T).outputs) (length T.outputs) watched ∙ sym (length-range_with_len T.inputs watched))
      (λ i h. at i (omega (arith, h, length-map-range_with_len (slice_index (showing watched T).outputs) (length T.outputs) watched)))
    where
      at : (i : ℕ) → i < watched → slice_index (map (slice_index (showing watched T).outputs) (range_with_len (length T.outputs) watched)) i ≡ slice_index (range_with_len T.inputs watched) i
      at i h =
          get_or-map-range_with_len (slice_index (showing watched T).outputs) (length T.outputs) watched i (length T.outputs + i) 0 h refl
          ∙ get_or-append-add T.outputs (range_with_len T.inputs watched) i 0

  -- with them it is closed
  pub closed_showing : watched ≤ length T.latches → IsClosed T → IsClosed (showing watched T)
  closed_showing fits closed = record {
    pins = closed.pins;
    latches = closed.latches;
    outputs = All-append (λ n. n < nets T) T.outputs (range_with_len T.inputs watched) closed.outputs (stretch_below T.inputs watched (nets T) (omega arith));
    some_output = omega (arith, closed.some_output, length-append T.outputs (range_with_len T.inputs watched));
    widths = closed.widths;
  }
