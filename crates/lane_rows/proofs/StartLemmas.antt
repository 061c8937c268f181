-- Rows for the watched inputs and latch outputs.
use Rattle.std.proofs.Common.{◌≡◌, ℕ, ◌+◌, ◌<◌, ◌==◌, ◌&&◌, ◌||◌, Bool, true, false, if◌then◌else◌, nat_lt, List, [], length, set, drop, count_by, slice_index, Option, Some, None, is_some, refl, sym, ap, ◌∙◌, inl, inr, arith, true≢false}
use Rattle.std.specs.List.{list_any}
use Rattle.std.proofs.lemmas.Bool.{cases_lt, cases_eq, lt-ltb, le-ltb, or_right}
use Rattle.std.proofs.lemmas.List.{length-set, length_push, get_or_past, get_or-set_same, get_or-set_other, drop_all}
use Rattle.fault_secure.specs.Circuit.{Circuit, node_net, nets}
use Rattle.tsc_net.specs.Order.{has_place, place_in}
use Rattle.lane_rows.specs.Alive.{source_count, reads_net, is_needed, watched_sources}
use Rattle.lane_rows.specs.Rows.{row_of}
use Rattle.lane_rows.specs.Needs.{AreNeededUntil}
use Rattle.lane_rows.specs.Holding.{IsNext, Freed, New}
use Rattle.lane_rows.specs.Along.{IsAlong, IsStarted}
use Rattle.lane_rows.proofs.HoldingLemmas.{holding_as, holding_of, next_is_fresh, given_is_holding}
use Rattle.lane_rows.proofs.AlongLemmas.{none_from}
use Rattle.lane_rows.proofs.PeakLemmas.{held_start}

module _ (C : Circuit) (watched : List ℕ) (source : ℕ) (rows held : List (Option ℕ)) (free : List ℕ) (count : ℕ)
    (within : source < nets C) (started : IsStarted C watched source rows held free count) where
  source_without : row_of rows source ≡ None
  source_without = none_from (row_of rows source) (started.some source within ∙ ap (λ b. b && has_place watched source) (le-ltb source source (omega arith)))

  others_same : (net : ℕ) → (net ≡ source → ⊥) → nat_lt net source ≡ nat_lt net (source + 1)
  others_same net apart = elim (cases_lt net source) [
    | inl lt ↦ lt-ltb net source lt ∙ sym (lt-ltb net (source + 1) (omega arith))
    | inr le ↦ le-ltb net source le ∙ sym (le-ltb net (source + 1) (omega arith))
  ]

  -- an input or latch output that isn't watched gets no row
  pub started_without : has_place watched source ≡ false → IsStarted C watched (source + 1) rows held free count
  started_without e = record {
    sized = started.sized;
    holding = started.holding;
    some = λ net h. elim (cases_eq net source) [
      | inl same ↦
          ap (λ n. is_some (row_of rows n)) same ∙ ap is_some source_without
          ∙ sym (ap (λ n. nat_lt n (source + 1) && has_place watched n) same ∙ ap (λ b. nat_lt source (source + 1) && b) e
          ∙ ap (λ b. b && false) (lt-ltb source (source + 1) (omega arith)))
      | inr apart ↦ started.some net h ∙ ap (λ b. b && has_place watched net) (others_same net apart)
    ];
    apart = started.apart;
  }

  -- a watched one gets the next
  pub started_given : (left : List ℕ) (grown row : ℕ) → has_place watched source ≡ true → IsNext free count left grown row
      → IsStarted C watched (source + 1) (set rows source (Some row)) (set held source (Some row)) left grown
  started_given left grown row e next = record {
    sized = length-set rows source (Some row) ∙ started.sized;
    holding = holding_of (set rows source (Some row)) (set held source (Some row)) left grown (λ net. source == net || true) (λ net. true)
        (λ net. or_right (source == net) true refl)
        (given_is_holding rows held free left count grown row source (λ net. true) started.holding inside (started.holding.holds source ∙ source_without) next);
    some = λ net h. elim (cases_eq net source) [
      | inl same ↦
          ap (λ n. is_some (row_of (set rows source (Some row)) n)) same ∙ ap is_some own_row
          ∙ sym (ap (λ n. nat_lt n (source + 1) && has_place watched n) same ∙ ap (λ b. nat_lt source (source + 1) && b) e
          ∙ ap (λ b. b && true) (lt-ltb source (source + 1) (omega arith)))
      | inr apart ↦ ap is_some (other_row net apart) ∙ started.some net h ∙ ap (λ b. b && has_place watched net) (others_same net apart)
    ];
    apart = λ net other r is its. elim (cases_eq net source) [
      | inl same ↦ elim (cases_eq other source) [
        | inl same' ↦ same ∙ sym same'
        | inr apart ↦ absurd (fresh other (sym (other_row other apart) ∙ its ∙ sym (is_new net r same is)))
      ]
      | inr apart ↦ elim (cases_eq other source) [
        | inl same' ↦ absurd (fresh net (sym (other_row net apart) ∙ is ∙ sym (is_new other r same' its)))
        | inr apart' ↦ started.apart net other r (sym (other_row net apart) ∙ is) (sym (other_row other apart') ∙ its)
      ]
    ];
  }
    where
      inside : source < length rows
      inside = omega (arith, started.sized)

      own_row : row_of (set rows source (Some row)) source ≡ Some row
      own_row = get_or-set_same rows source (Some row) None inside

      other_row : (net : ℕ) → (net ≡ source → ⊥) → row_of (set rows source (Some row)) net ≡ row_of rows net
      other_row net apart = get_or-set_other rows source net (Some row) None apart

      is_new : (net r : ℕ) → net ≡ source → row_of (set rows source (Some row)) net ≡ Some r → Some row ≡ Some r
      is_new net r same e = sym own_row ∙ sym (ap (row_of (set rows source (Some row))) same) ∙ e

      fresh : (net : ℕ) → row_of rows net ≡ Some row → ⊥
      fresh net e = next_is_fresh rows held free left count grown row (λ n. true) started.holding next net (started.holding.holds net ∙ e)

-- where none is free the next row is a new one
pub next_is_new : (free left : List ℕ) (count grown row : ℕ) → free ≡ [] → IsNext free count left grown row → (left ≡ []) × (grown ≡ count + 1)
next_is_new free left count grown row none (Freed split same) = absurd (omega (arith, ap length none, ap length split, length_push left row))
next_is_new free left count grown row none (New empty empty' is more) = (empty', more)

-- the net is watched where it is needed past the last node
pub watched_is : (C : Circuit) (order watched ends : List ℕ) → AreNeededUntil C order watched ends → (net : ℕ) → net < nets C
    → nat_lt (length order) (slice_index ends net) ≡ has_place watched net
watched_is C order watched ends until net h =
    until (length order) net h (omega arith)
    ∙ ap (λ l. has_place watched net || list_any (reads_net C net) l) (drop_all (length order) order (omega arith))
    ∙ none (has_place watched net)
  where
    none : (b : Bool) → (b || false) ≡ b
    none true = refl
    none false = refl

-- with all inputs and latch outputs the start is made
pub along_start : (C : Circuit) (order watched : List ℕ) (rows held : List (Option ℕ)) (free : List ℕ) (count : ℕ)
    → free ≡ [] → IsStarted C watched (source_count C) rows held free count → IsAlong C order watched 0 rows held free count
along_start C order watched rows held free count none_free started = record {
  sized = started.sized;
  holding = holding_as rows held free count (λ net. true) (is_needed C order watched 0) needed started.holding;
  of_nodes = λ j h.
      started.some (node_net C j) (omega arith) ∙ ap (λ b. b && has_place watched (node_net C j)) (le-ltb (node_net C j) (source_count C) (omega arith))
      ∙ sym (le-ltb (place_in order j) 0 (omega arith));
  of_sources = λ source h. started.some source (omega arith) ∙ ap (λ b. b && has_place watched source) (lt-ltb source (source_count C) h);
  reused = λ place later lt none e. absurd (omega arith);
  kept = λ source net h watch net_h e.
      same source net e (row_of rows source) refl
      (started.some source (omega arith) ∙ ap (λ b. b && has_place watched source) (lt-ltb source (source_count C) h) ∙ watch);
  peaked =
      let held_some : count_by is_some held ≡ watched_sources C watched =
      held_start C watched held (started.holding.sized ∙ started.sized) (λ net h. ap is_some (started.holding.holds net) ∙ started.some net h) in
      omega (arith, held_some, started.holding.counted, ap length none_free);
}
  where
    same : (source net : ℕ) → row_of rows net ≡ row_of rows source → (o : Option ℕ) → row_of rows source ≡ o → is_some o ≡ true → net ≡ source
    same source net e None is some = absurd (true≢false (sym some))
    same source net e (Some row) is some = started.apart net source row (e ∙ is) is

    -- a net that isn't watched has no row
    unwatched : (net : ℕ) → has_place watched net ≡ false → row_of rows net ≡ None
    unwatched net e = elim (cases_lt net (nets C)) [
      | inl h ↦ none_from (row_of rows net) (started.some net h ∙ ap (λ b. nat_lt net (source_count C) && b) e ∙ gone (nat_lt net (source_count C)))
      | inr h ↦ get_or_past rows net None (omega (arith, h, started.sized))
    ]
      where
        gone : (b : Bool) → (b && false) ≡ false
        gone true = refl
        gone false = refl

    held_or_none : (o : Option ℕ) (w l : Bool) → (w ≡ false → o ≡ None) → o ≡ (if (w || l) then o else None)
    held_or_none o true l none = refl
    held_or_none o false true none = refl
    held_or_none o false false none = none refl

    needed : (net : ℕ) → row_of rows net ≡ (if is_needed C order watched 0 net then row_of rows net else None)
    needed net = held_or_none (row_of rows net) (has_place watched net) (list_any (reads_net C net) (drop 0 order)) (unwatched net)
