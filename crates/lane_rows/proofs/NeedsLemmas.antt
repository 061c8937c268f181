-- From which place on nets aren't needed: one node more of the order, and the watched nets.
use Rattle.std.proofs.Common.{◌≡◌, ℕ, ◌+◌, ◌<◌, ◌≤◌, ◌||◌, Bool, true, false, if◌then◌else◌, nat_lt, List, [], ◌∷◌, ◌++◌, length, take, drop, slice_index, refl, sym, ap, ◌∙◌, inl, inr, arith}
use Rattle.std.specs.List.{list_any, slice_range}
use Rattle.std.proofs.lemmas.Bool.{cases_lt, lt-ltb, le-ltb, ltb-false, or_right}
use Rattle.std.proofs.lemmas.List.{take_more, take_all, drop_all, drop-append-le, length-take-le}
use Rattle.std.proofs.lemmas.List.Folds.{list_any-append, drop_split}
use Rattle.fault_secure.specs.Circuit.{Circuit, node, nets}
use Rattle.tsc_net.specs.Order.{has_place}
use Rattle.lane_rows.specs.Alive.{reads_net, is_needed}
use Rattle.lane_rows.specs.Needs.{AreReadUntil, AreNeededUntil}

-- before the first node nothing is read
pub none_read : (C : Circuit) (order ends : List ℕ) → ((net : ℕ) → slice_index ends net ≡ 0) → AreReadUntil C order 0 ends
none_read C order ends zeros place net h most =
    ap (λ n. nat_lt place n) (zeros net) ∙ le-ltb place 0 (omega arith)
    ∙ sym (ap (list_any (reads_net C net)) (drop_all place (take 0 order) (omega arith)))

or_none : (a : Bool) → a ≡ (a || (false || false))
or_none true = refl
or_none false = refl

or_some : (a : Bool) → true ≡ (a || (true || false))
or_some true = refl
or_some false = refl

-- one node more
module _ (C : Circuit) (order : List ℕ) (many : ℕ) (ends : List ℕ) (within : many < length order) (until : AreReadUntil C order many ends) where
  longer : take (many + 1) order ≡ take many order ++ slice_index order many ∷ []
  longer = take_more order many 0 within

  sized : length (take many order) ≡ many
  sized = length-take-le many order (omega arith)

  before : (place net : ℕ) (b : Bool) → net < nets C → place ≤ many → reads_net C net (slice_index order many) ≡ b
      → nat_lt place (if b then many + 1 else slice_index ends net) ≡ (list_any (reads_net C net) (drop place (take many order)) || (b || false))
  before place net true h le e = lt-ltb place (many + 1) (omega arith) ∙ or_some (list_any (reads_net C net) (drop place (take many order)))
  before place net false h le e = until place net h le ∙ or_none (list_any (reads_net C net) (drop place (take many order)))

  split : (place net : ℕ) → place ≤ many → list_any (reads_net C net) (drop place (take (many + 1) order))
      ≡ (list_any (reads_net C net) (drop place (take many order)) || (reads_net C net (slice_index order many) || false))
  split place net le =
      ap (λ l. list_any (reads_net C net) (drop place l)) longer
      ∙ ap (list_any (reads_net C net)) (drop-append-le place (take many order) (slice_index order many ∷ []) (omega (arith, sized)))
      ∙ list_any-append (reads_net C net) (drop place (take many order)) (slice_index order many ∷ [])

  past : (place net : ℕ) (b : Bool) → net < nets C → many < place → nat_lt place (if b then many + 1 else slice_index ends net) ≡ false
  past place net true h le = le-ltb place (many + 1) (omega arith)
  past place net false h le =
      let none : nat_lt many (slice_index ends net) ≡ false =
      until many net h (omega arith) ∙ ap (list_any (reads_net C net)) (drop_all many (take many order) (omega (arith, sized))) in
      let low : slice_index ends net ≤ many = ltb-false many (slice_index ends net) none in
      le-ltb place (slice_index ends net) (omega arith)

  pub read_more : (more : List ℕ)
      → ((net : ℕ) → net < nets C → slice_index more net ≡ (if has_place (node C (slice_index order many)).reads net then many + 1 else slice_index ends net))
      → AreReadUntil C order (many + 1) more
  read_more more each place net h most =
      ap (λ n. nat_lt place n) (each net h)
      ∙ elim (cases_lt many place) [
        | inr le ↦ before place net (reads_net C net (slice_index order many)) h le refl ∙ sym (split place net le)
        | inl lt ↦
            let longer_sized : length (take (many + 1) order) ≡ many + 1 = length-take-le (many + 1) order (omega arith) in
            past place net (reads_net C net (slice_index order many)) h lt
            ∙ sym (ap (list_any (reads_net C net)) (drop_all place (take (many + 1) order) (omega (arith, longer_sized))))
      ]

-- the watched nets are needed at every place
pub all_needed : (C : Circuit) (order watched ends more : List ℕ) → AreReadUntil C order (length order) ends
    → ((net : ℕ) → net < nets C → slice_index more net ≡ (if has_place watched net then length order + 1 else slice_index ends net))
    → AreNeededUntil C order watched more
all_needed C order watched ends more until each place net h most =
    ap (λ n. nat_lt place n) (each net h)
    ∙ by (has_place watched net)
  where
    by : (b : Bool) → nat_lt place (if b then length order + 1 else slice_index ends net) ≡ (b || list_any (reads_net C net) (drop place order))
    by true = lt-ltb place (length order + 1) (omega arith)
    by false = until place net h most ∙ ap (λ l. list_any (reads_net C net) (drop place l)) (take_all (length order) order (omega arith))

-- what is needed from a place on is needed from every earlier place on
pub needed_before : (C : Circuit) (order watched : List ℕ) (place later net : ℕ) → place ≤ later
    → is_needed C order watched later net ≡ true → is_needed C order watched place net ≡ true
needed_before C order watched place later net le e = by (has_place watched net) e
  where
    split : drop place order ≡ slice_range order place later ++ drop later order
    split = drop_split order place later le

    by : (w : Bool) → (w || list_any (reads_net C net) (drop later order)) ≡ true → (w || list_any (reads_net C net) (drop place order)) ≡ true
    by true d = refl
    by false d =
        ap (list_any (reads_net C net)) split ∙ list_any-append (reads_net C net) (slice_range order place later) (drop later order)
        ∙ or_right (list_any (reads_net C net) (slice_range order place later)) (list_any (reads_net C net) (drop later order)) d
