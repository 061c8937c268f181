-- As many rows are held as nets are alive, so a new row is made only where a place has more nets alive than those before.
use Rattle.std.proofs.Common.{◌≡◌, ℕ, zero, suc, ◌+◌, ◌<◌, ◌==◌, ◌&&◌, ◌||◌, Bool, true, false, cond, if◌then◌else◌, nat_lt, nat_le, max, List, [], ◌∷◌, length, take, drop, count_by, get_or, Option, None, is_some, refl, sym, ap, ◌∙◌, subst, inl, inr, arith}
use Rattle.std.specs.List.{list_any, range_with_len, fold}
use Rattle.std.specs.Prelude.{map, slice_index}
use Rattle.std.proofs.lemmas.Bool.{cases_lt, cases_eq, lt-ltb, le-ltb, le-leb, lt-leb, eq-eqb, ne_eqb}
use Rattle.std.proofs.lemmas.List.{length-take-le, length-drop, get_or-take, get_or-drop}
use Rattle.std.proofs.lemmas.List.Sums.{sum_by-cons, sum_by-take-drop, fold_push}
use Rattle.std.proofs.lemmas.List.FromFn.{map-range_with_len_more}
use Rattle.fault_secure.specs.Circuit.{Circuit, node_net, nets}
use Rattle.tsc_net.specs.Order.{fan_ins, has_place, place_in, IsOrder}
use Rattle.lane_rows.specs.Alive.{source_count, net_at, reads_net, is_needed, is_alive, alive_count, watched_sources, most_alive}
use Rattle.lane_rows.specs.Rows.{row_of}
use Rattle.lane_rows.specs.Holding.{IsNext, Freed, New, IsHolding}
use Rattle.lane_rows.proofs.OrderFacts.{place_of_node, node_at_place}
use Rattle.tsc_bits.proofs.Lists.{none_counted}

-- a count over a list, as a count over numbers
counted_range : {X : Type 0} (g : ℕ → Bool) (p : X → Bool) (d : X) (a : ℕ) (xs : List X)
    → ((i k : ℕ) → i ≡ a + k → k < length xs → g i ≡ p (get_or xs k d)) → count_by g (range_with_len a (length xs)) ≡ count_by p xs
counted_range g p d a [] same = refl
counted_range g p d a (x ∷ xs) same =
    let rest : count_by g (range_with_len (a + 1) (length xs)) ≡ count_by p xs =
    counted_range g p d (a + 1) xs (λ i k e h. same i (suc k) (omega arith) (omega arith)) in
    let one : cond {A = ℕ} (g a) 1 0 ≡ cond {A = ℕ} (p x) 1 0 = ap (λ (b : Bool). cond {A = ℕ} b 1 0) (same a zero (omega arith) (omega arith)) in
    let left : count_by g (a ∷ range_with_len (a + 1) (length xs)) ≡ cond {A = ℕ} (g a) 1 0 + count_by g (range_with_len (a + 1) (length xs)) =
    sum_by-cons (λ i. cond {A = ℕ} (g i) 1 0) a (range_with_len (a + 1) (length xs)) in
    let right : count_by p (x ∷ xs) ≡ cond {A = ℕ} (p x) 1 0 + count_by p xs = sum_by-cons (λ y. cond {A = ℕ} (p y) 1 0) x xs in
    omega (arith, rest, one, left, right)

-- a count of the held rows, as one over inputs and latch outputs and one over nodes
counted_parts : (sources nodes : ℕ) (held : List (Option ℕ)) (of_source of_node : ℕ → Bool) → length held ≡ sources + nodes
    → ((source : ℕ) → source < sources → is_some (row_of held source) ≡ of_source source)
    → ((j : ℕ) → j < nodes → is_some (row_of held (sources + j)) ≡ of_node j)
    → count_by is_some held ≡ count_by of_node (range_with_len 0 nodes) + count_by of_source (range_with_len 0 sources)
counted_parts sources nodes held of_source of_node sized is_source is_node =
    let first : length (take sources held) ≡ sources = length-take-le sources held (omega arith) in
    let last : length (drop sources held) ≡ nodes = length-drop sources held ∙ omega arith in
    let by_source : count_by of_source (range_with_len 0 (length (take sources held))) ≡ count_by is_some (take sources held) =
    counted_range of_source is_some None 0 (take sources held) (λ i k e h.
    let is : i ≡ k = omega arith in
    let lt : k < sources = omega (arith, h, first) in
    ap of_source is ∙ sym (is_source k lt) ∙ sym (ap is_some (get_or-take sources held k None lt))) in
    let by_node : count_by of_node (range_with_len 0 (length (drop sources held))) ≡ count_by is_some (drop sources held) =
    counted_range of_node is_some None 0 (drop sources held) (λ i k e h.
    let is : i ≡ k = omega arith in
    let lt : k < nodes = omega (arith, h, last) in
    ap of_node is ∙ sym (is_node k lt) ∙ sym (ap is_some (get_or-drop sources held k None))) in
    let both : count_by is_some (take sources held) + count_by is_some (drop sources held) ≡ count_by is_some held =
    sum_by-take-drop (λ (o : Option ℕ). cond {A = ℕ} (is_some o) 1 0) held sources in
    let by_source' : count_by of_source (range_with_len 0 sources) ≡ count_by is_some (take sources held) =
    subst (λ n. count_by of_source (range_with_len 0 n) ≡ count_by is_some (take sources held)) first by_source in
    let by_node' : count_by of_node (range_with_len 0 nodes) ≡ count_by is_some (drop sources held) =
    subst (λ n. count_by of_node (range_with_len 0 n) ≡ count_by is_some (drop sources held)) last by_node in
    omega (arith, both, by_source', by_node')

-- one place more
pub most_alive_more : (C : Circuit) (order watched : List ℕ) (many : ℕ)
    → most_alive C order watched (many + 1) ≡ max (most_alive C order watched many) (alive_count C order watched many)
most_alive_more C order watched many =
    ap (fold max 0) (map-range_with_len_more (alive_count C order watched) 0 many many (omega arith))
    ∙ fold_push max 0 (map (alive_count C order watched) (range_with_len 0 many)) (alive_count C order watched many)

-- the number of rows after a net was given the next one: as many as were needed so far, or as many as are held now
pub peak_more : (free left : List ℕ) (count grown row most alive held watched : ℕ) → IsNext free count left grown row
    → count ≡ most + watched → held ≡ alive + watched → length left + held ≡ grown → grown ≡ max most alive + watched
peak_more free left count grown row most alive held watched (Freed split same) was now total = omega arith
peak_more free left count grown row most alive held watched (New empty empty' is more) was now total =
    let none : length left ≡ 0 = ap length empty' in
    omega arith

some_if : (o : Option ℕ) (b s : Bool) → is_some o ≡ s → is_some (if b then o else None) ≡ (s && b)
some_if o true s e = e ∙ sym (all s)
  where
    all : (b : Bool) → (b && true) ≡ b
    all true = refl
    all false = refl
some_if o false s e = sym (no s)
  where
    no : (b : Bool) → (b && false) ≡ false
    no true = refl
    no false = refl

absorbed : (w l : Bool) → (w && (w || l)) ≡ w
absorbed true l = refl
absorbed false l = refl

module _ (C : Circuit) (order watched : List ℕ) (many : ℕ) (rows held : List (Option ℕ)) (free : List ℕ) (count : ℕ)
    (whole : IsOrder (fan_ins C) order) (within : many < length order) (sized : length rows ≡ nets C)
    (holding : IsHolding rows held free count (λ net. net_at C order many == net || is_needed C order watched many net))
    (of_nodes : (j : ℕ) → j < length C.nodes → is_some (row_of rows (node_net C j)) ≡ nat_lt (place_in order j) (many + 1))
    (of_sources : (source : ℕ) → source < source_count C → is_some (row_of rows source) ≡ has_place watched source) where
  own_place : (j : ℕ) → j < length C.nodes → (net_at C order many == node_net C j) ≡ (place_in order j == many)
  own_place j h = elim (cases_eq (place_in order j) many) [
    | inl e ↦
        let same : net_at C order many ≡ node_net C j = ap (node_net C) (ap (slice_index order) (sym e) ∙ node_at_place C order whole j h) in
        eq-eqb (net_at C order many) (node_net C j) same ∙ sym (eq-eqb (place_in order j) many e)
    | inr apart ↦
        ne_eqb (net_at C order many) (node_net C j) (λ e.
        let is_j : j ≡ slice_index order many = omega (arith, e) in
        apart (ap (place_in order) is_j ∙ place_of_node C order whole many within))
        ∙ sym (ne_eqb (place_in order j) many apart)
  ]

  up_to : (place : ℕ) → nat_lt place (many + 1) ≡ nat_le place many
  up_to place = elim (cases_lt place (many + 1)) [
    | inl lt ↦ lt-ltb place (many + 1) lt ∙ sym (le-leb place many (omega arith))
    | inr le ↦ le-ltb place (many + 1) le ∙ sym (lt-leb place many (omega arith))
  ]

  node_held : (j : ℕ) → j < length C.nodes → is_some (row_of held (node_net C j)) ≡ is_alive C order watched many j
  node_held j h =
      ap is_some (holding.holds (node_net C j))
      ∙ some_if (row_of rows (node_net C j)) (net_at C order many == node_net C j || is_needed C order watched many (node_net C j)) (nat_le (place_in order j) many)
      (of_nodes j h ∙ up_to (place_in order j))
      ∙ ap (λ b. nat_le (place_in order j) many && (b || is_needed C order watched many (node_net C j))) (own_place j h)

  source_held : (source : ℕ) → source < source_count C → is_some (row_of held source) ≡ has_place watched source
  source_held source h =
      ap is_some (holding.holds source)
      ∙ some_if (row_of rows source) (net_at C order many == source || is_needed C order watched many source) (has_place watched source) (of_sources source h)
      ∙ ap (λ b. has_place watched source && (b || is_needed C order watched many source)) (ne_eqb (net_at C order many) source (λ e. omega arith))
      ∙ absorbed (has_place watched source) (list_any (reads_net C source) (drop many order))

  -- the held rows are those of the nets alive at the place and of the watched inputs and latch outputs
  pub held_alive : count_by is_some held ≡ alive_count C order watched many + watched_sources C watched
  held_alive = counted_parts (source_count C) (length C.nodes) held (has_place watched) (is_alive C order watched many)
      (omega (arith, sized, holding.sized)) source_held node_held

-- at the start the watched inputs and latch outputs alone hold rows
pub held_start : (C : Circuit) (watched : List ℕ) (held : List (Option ℕ)) → length held ≡ nets C
    → ((net : ℕ) → net < nets C → is_some (row_of held net) ≡ (nat_lt net (source_count C) && has_place watched net))
    → count_by is_some held ≡ watched_sources C watched
held_start C watched held sized some =
    counted_parts (source_count C) (length C.nodes) held (has_place watched) (λ j. false) sized
    (λ source h. some source (omega arith) ∙ ap (λ b. b && has_place watched source) (lt-ltb source (source_count C) h))
    (λ j h. some (node_net C j) (omega arith) ∙ ap (λ b. b && has_place watched (node_net C j)) (le-ltb (node_net C j) (source_count C) (omega arith)))
    ∙ omega (arith, none_counted 0 (length C.nodes))
