-- Rows along the evaluation order: the node at one place more.
use Rattle.std.proofs.Common.{◌≡◌, ℕ, ◌+◌, ◌<◌, ◌==◌, ◌&&◌, ◌||◌, not, Bool, true, false, if◌then◌else◌, nat_lt, List, [], ◌∷◌, length, set, drop, count_by, slice_index, Option, Some, None, is_some, refl, sym, ap, ◌∙◌, subst, inl, inr, arith, true≢false}
use Rattle.std.specs.List.{list_any}
use Rattle.std.proofs.lemmas.Bool.{cases_lt, cases_eq, cases_Bool, lt-ltb, le-ltb, or_left}
use Rattle.std.proofs.lemmas.List.{length-set, get_or-set_same, get_or-set_other, drop_more}
use Rattle.fault_secure.specs.Circuit.{Circuit, node, node_net, nets}
use Rattle.tsc_net.specs.Order.{fan_ins, has_place, place_in, IsOrder}
use Rattle.lane_rows.specs.Alive.{source_count, net_at, reads_net, is_needed, alive_count, most_alive, watched_sources}
use Rattle.lane_rows.specs.Rows.{row_of}
use Rattle.lane_rows.specs.Needs.{AreNeededUntil}
use Rattle.lane_rows.specs.Holding.{IsNext, IsHolding}
use Rattle.lane_rows.specs.Along.{IsAlong}
use Rattle.lane_rows.proofs.HoldingLemmas.{holding_within, next_is_fresh, given_is_holding}
use Rattle.lane_rows.proofs.ReleasedLemmas.{left_of}
use Rattle.lane_rows.proofs.PeakLemmas.{peak_more, held_alive, most_alive_more}
use Rattle.lane_rows.proofs.OrderFacts.{node_within, net_within, place_of_node, node_at_place, same_place}

pub none_from : (o : Option ℕ) → is_some o ≡ false → o ≡ None
none_from None e = refl
none_from (Some row) e = absurd (true≢false e)

-- a net is needed from a place on where it is watched, the node there reads it, or it is needed from the next place on
needed_split : (C : Circuit) (order watched : List ℕ) (place net : ℕ) → place < length order
    → is_needed C order watched place net ≡ (has_place watched net || (reads_net C net (slice_index order place) || list_any (reads_net C net) (drop (place + 1) order)))
needed_split C order watched place net h = ap (λ l. has_place watched net || list_any (reads_net C net) l) (drop_more order place 0 h)

-- own: it is the node's own net; w: watched; r: the node reads it; l: a later node does
what_lives : (own w r l : Bool) → (((own || (w || (r || l))) && (not r || (w || l))) && (not (own || false) || (w || l))) ≡ (w || l)
what_lives true true true l = refl
what_lives true true false l = refl
what_lives false true true l = refl
what_lives false true false l = refl
what_lives true false true true = refl
what_lives true false true false = refl
what_lives true false false true = refl
what_lives true false false false = refl
what_lives false false true true = refl
what_lives false false true false = refl
what_lives false false false true = refl
what_lives false false false false = refl

module _ (C : Circuit) (order watched : List ℕ) (many : ℕ) (rows held : List (Option ℕ)) (free : List ℕ) (count : ℕ)
    (whole : IsOrder (fan_ins C) order) (within : many < length order) (along : IsAlong C order watched many rows held free count) where
  abbrev own : ℕ
  own = net_at C order many

  own_within : own < length rows
  own_within = let h = net_within C order whole many within in omega (arith, h, along.sized)

  -- the net of the node at the place has no row before
  pub own_without : row_of held own ≡ None
  own_without =
      let j = slice_index order many in
      let none : is_some (row_of rows own) ≡ false =
      along.of_nodes j (node_within C order whole many within)
      ∙ ap (λ n. nat_lt n many) (place_of_node C order whole many within) ∙ le-ltb many many (omega arith) in
      along.holding.holds own ∙ by (is_needed C order watched many own) (none_from (row_of rows own) none)
    where
      by : (b : Bool) → row_of rows own ≡ None → (if b then row_of rows own else None) ≡ None
      by true e = e
      by false e = refl

  -- which nets live when the node has its row
  abbrev pub lives : ℕ → Bool
  lives net = own == net || is_needed C order watched many net

  module _ (left : List ℕ) (grown row : ℕ) (next : IsNext free count left grown row) where
    abbrev new_rows : List (Option ℕ)
    new_rows = set rows own (Some row)

    abbrev new_held : List (Option ℕ)
    new_held = set held own (Some row)

    given : IsHolding new_rows new_held left grown lives
    given = given_is_holding rows held free left count grown row own (is_needed C order watched many) along.holding own_within own_without next

    own_row : row_of new_rows own ≡ Some row
    own_row = get_or-set_same rows own (Some row) None own_within

    other_row : (net : ℕ) → (net ≡ own → ⊥) → row_of new_rows net ≡ row_of rows net
    other_row net apart = get_or-set_other rows own net (Some row) None apart

    -- a net that is needed doesn't have the new row
    fresh : (net : ℕ) → is_needed C order watched many net ≡ true → row_of rows net ≡ Some row → ⊥
    fresh net needed e =
        next_is_fresh rows held free left count grown row (is_needed C order watched many) along.holding next net
        (along.holding.holds net ∙ ap (λ (b : Bool). if b then row_of rows net else None) needed ∙ e)

    of_nodes : (j : ℕ) → j < length C.nodes → is_some (row_of new_rows (node_net C j)) ≡ nat_lt (place_in order j) (many + 1)
    of_nodes j h = elim (cases_eq (place_in order j) many) [
      | inl e ↦
          let same : node_net C j ≡ own = ap (node_net C) (sym (node_at_place C order whole j h) ∙ ap (slice_index order) e) in
          ap (λ net. is_some (row_of new_rows net)) same ∙ ap is_some own_row ∙ sym (lt-ltb (place_in order j) (many + 1) (omega arith))
      | inr apart ↦
          ap is_some (other_row (node_net C j) (λ same.
          let is_j : j ≡ slice_index order many = omega (arith, same) in
          apart (ap (place_in order) is_j ∙ place_of_node C order whole many within)))
          ∙ along.of_nodes j h ∙ one_more (place_in order j) apart
    ]
      where
        one_more : (place : ℕ) → (place ≡ many → ⊥) → nat_lt place many ≡ nat_lt place (many + 1)
        one_more place apart = elim (cases_lt place many) [
          | inl lt ↦ lt-ltb place many lt ∙ sym (lt-ltb place (many + 1) (omega arith))
          | inr le ↦ le-ltb place many le ∙ sym (le-ltb place (many + 1) (omega arith))
        ]

    source_apart : (source : ℕ) → source < source_count C → source ≡ own → ⊥
    source_apart source h e = omega arith

    of_sources : (source : ℕ) → source < source_count C → is_some (row_of new_rows source) ≡ has_place watched source
    of_sources source h = ap is_some (other_row source (source_apart source h)) ∙ along.of_sources source h

    earlier_apart : (place : ℕ) → place < many → net_at C order place ≡ own → ⊥
    earlier_apart place h e =
        let same : place ≡ many = same_place C order whole place many (omega arith) within e in omega arith

    reused : (place later : ℕ) → place < later → later < many + 1
        → row_of new_rows (net_at C order place) ≡ row_of new_rows (net_at C order later) → is_needed C order watched later (net_at C order place) ≡ false
    reused place later lt le e = elim (cases_lt later many) [
      | inl early ↦
          along.reused place later lt early
          (sym (other_row (net_at C order place) (earlier_apart place (omega arith))) ∙ e ∙ other_row (net_at C order later) (earlier_apart later early))
      | inr here ↦
          let is : later ≡ many = omega arith in
          let its : row_of rows (net_at C order place) ≡ Some row =
          sym (other_row (net_at C order place) (earlier_apart place (omega arith))) ∙ e ∙ ap (λ n. row_of new_rows (net_at C order n)) is ∙ own_row in
          elim (cases_Bool (is_needed C order watched many (net_at C order place))) [
            | inl needed ↦ absurd (fresh (net_at C order place) needed its)
            | inr done ↦ ap (λ n. is_needed C order watched n (net_at C order place)) is ∙ done
          ]
    ]

    kept : (source net : ℕ) → source < source_count C → has_place watched source ≡ true → net < nets C
        → row_of new_rows net ≡ row_of new_rows source → net ≡ source
    kept source net h watch net_h e = elim (cases_eq net own) [
      | inl same ↦
          let its : row_of rows source ≡ Some row =
          sym (other_row source (source_apart source h)) ∙ sym e ∙ ap (row_of new_rows) same ∙ own_row in
          absurd (fresh source (or_left (has_place watched source) (list_any (reads_net C source) (drop many order)) watch) its)
      | inr apart ↦ along.kept source net h watch net_h (sym (other_row net apart) ∙ e ∙ other_row source (source_apart source h))
    ]

    -- the rows when those are freed that aren't needed from the next place on
    pub along_more : (ends : List ℕ) (held_after : List (Option ℕ)) (free_after reads : List ℕ)
        → AreNeededUntil C order watched ends → reads ≡ (node C (slice_index order many)).reads
        → IsHolding new_rows held_after free_after grown (left_of (left_of lives reads ends (many + 1)) (own ∷ []) ends (many + 1))
        → IsAlong C order watched (many + 1) new_rows held_after free_after grown
    along_more ends held_after free_after reads until is_reads holding = record {
      sized = length-set rows own (Some row) ∙ along.sized;
      holding = holding_within new_rows held_after free_after grown (left_of (left_of lives reads ends (many + 1)) (own ∷ []) ends (many + 1))
          (is_needed C order watched (many + 1)) same holding;
      of_nodes = of_nodes;
      of_sources = of_sources;
      reused = reused;
      kept = kept;
      peaked = peak_more free left count grown row (most_alive C order watched many) (alive_count C order watched many) (count_by is_some new_held)
          (watched_sources C watched) next along.peaked
          (held_alive C order watched many new_rows new_held left grown whole within (length-set rows own (Some row) ∙ along.sized) given of_nodes of_sources)
          given.counted ∙ ap (λ n. n + watched_sources C watched) (sym (most_alive_more C order watched many));
    }
      where
        same : (net : ℕ) → net < length new_rows
            → left_of (left_of lives reads ends (many + 1)) (own ∷ []) ends (many + 1) net ≡ is_needed C order watched (many + 1) net
        same net h =
            let net_h : net < nets C = omega (arith, h, length-set rows own (Some row), along.sized) in
            let later : nat_lt (many + 1) (slice_index ends net) ≡ is_needed C order watched (many + 1) net = until (many + 1) net net_h (omega arith) in
            let now = needed_split C order watched many net within in
            ap (λ l. (((own == net || is_needed C order watched many net) && (not (has_place l net) || nat_lt (many + 1) (slice_index ends net))) && (not (own == net || false) || nat_lt (many + 1) (slice_index ends net)))) is_reads
            ∙ ap (λ b. (((own == net || is_needed C order watched many net) && (not (reads_net C net (slice_index order many)) || b)) && (not (own == net || false) || b))) later
            ∙ ap (λ b. (((own == net || b) && (not (reads_net C net (slice_index order many)) || is_needed C order watched (many + 1) net)) && (not (own == net || false) || is_needed C order watched (many + 1) net))) now
            ∙ what_lives (own == net) (has_place watched net) (reads_net C net (slice_index order many)) (list_any (reads_net C net) (drop (many + 1) order))

-- the same for the net under its number, and for the rows as calls leave them
module _ (C : Circuit) (order watched : List ℕ) (many : ℕ) (rows held : List (Option ℕ)) (free : List ℕ) (count : ℕ)
    (whole : IsOrder (fan_ins C) order) (within : many < length order) (along : IsAlong C order watched many rows held free count)
    (left : List ℕ) (grown row : ℕ) (next : IsNext free count left grown row) (net : ℕ) (is_own : net ≡ net_at C order many) where
  pub given_own : (rows_given held_given : List (Option ℕ)) → rows_given ≡ set rows net (Some row) → held_given ≡ set held net (Some row)
      → IsHolding rows_given held_given left grown (λ other. net == other || is_needed C order watched many other)
  given_own rows_given held_given e d =
      let inside : net < length rows = let h = net_within C order whole many within in omega (arith, h, along.sized, is_own) in
      let none : row_of held net ≡ None = ap (row_of held) is_own ∙ own_without C order watched many rows held free count whole within along in
      subst (λ r. IsHolding r held_given left grown (λ other. net == other || is_needed C order watched many other)) (sym e)
      (subst (λ h. IsHolding (set rows net (Some row)) h left grown (λ other. net == other || is_needed C order watched many other)) (sym d)
      (given_is_holding rows held free left count grown row net (is_needed C order watched many) along.holding inside none next))

  pub along_own : (rows_after held_after : List (Option ℕ)) (free_after : List ℕ) (count_after : ℕ) (reads ends : List ℕ)
      → rows_after ≡ set rows net (Some row) → count_after ≡ grown → AreNeededUntil C order watched ends → reads ≡ (node C (slice_index order many)).reads
      → IsHolding rows_after held_after free_after count_after (left_of (left_of (λ other. net == other || is_needed C order watched many other) reads ends (many + 1)) (net ∷ []) ends (many + 1))
      → IsAlong C order watched (many + 1) rows_after held_after free_after count_after
  along_own rows_after held_after free_after count_after reads ends e same until is_reads holding =
      let on_own : IsHolding rows_after held_after free_after count_after (left_of (left_of (lives C order watched many rows held free count whole within along) reads ends (many + 1)) (net_at C order many ∷ []) ends (many + 1)) =
      subst (λ n. IsHolding rows_after held_after free_after count_after (left_of (left_of (λ other. n == other || is_needed C order watched many other) reads ends (many + 1)) (n ∷ []) ends (many + 1))) is_own holding in
      let is_rows : rows_after ≡ set rows (net_at C order many) (Some row) = e ∙ ap (λ n. set rows n (Some row)) is_own in
      subst (λ r. IsAlong C order watched (many + 1) r held_after free_after count_after) (sym is_rows)
      (subst (λ n. IsAlong C order watched (many + 1) (set rows (net_at C order many) (Some row)) held_after free_after n) (sym same)
      (along_more C order watched many rows held free count whole within along left grown row next ends held_after free_after reads until is_reads
      (subst (λ r. IsHolding r held_after free_after grown (left_of (left_of (lives C order watched many rows held free count whole within along) reads ends (many + 1)) (net_at C order many ∷ []) ends (many + 1))) is_rows
      (subst (λ n. IsHolding rows_after held_after free_after n (left_of (left_of (lives C order watched many rows held free count whole within along) reads ends (many + 1)) (net_at C order many ∷ []) ends (many + 1))) same on_own))))
