-- The states of a made text: the 48 that its rows name.
use Rattle.std.proofs.Common.{◌≡◌, refl, arith, ℕ, zero, suc, ◌+◌, ◌*◌, ◌/◌, ◌%◌, ◌<◌, ◌≤◌, Bool, true, false, ◌||◌, eqb, if◌then◌else◌, List, [], ◌∷◌, ◌++◌, drop, length, map, ap, ap₂, sym, ◌∙◌, ne_eqb, inl, inr, fold}
use Rattle.std.specs.List.{list_any, range_with_len, IsDistinct, AllByRecursion as Each}
use Rattle.std.specs.Str.{bytes_eq}
use Rattle.std.proofs.lemmas.Bool.{false≢true, true≢false, eq-eqb, eqb-true, cases_eq, or_parts}
use Rattle.std.proofs.lemmas.Fmt.{decimal_injective}
use Rattle.std.proofs.lemmas.List.{length-map, map-append}
use Rattle.std.proofs.lemmas.List.FromFn.{length-map-range_with_len}
use Rattle.std.proofs.lemmas.Map.Steps.{length-le_from_distinct_below}
use Rattle.rand_pcg.specs.Lcg.{Lcg}
use Rattle.tsc_net.specs.Names.{has_text, place_of_text, text_at, with_text}
use Rattle.tsc_net.proofs.NameLemmas.{bytes_eq_refl, bytes_eq_same, place_within, text_at_place}
use Rattle.kiss_read.specs.Selections.{with_states}
use Rattle.machine_maker.specs.Drawn.{DrawnRow, drawn_row, drawn_rows}
use Rattle.machine_maker.specs.MadeText.{state_name}
use Rattle.machine_maker.proofs.RowFacts.{IsRowOf, rows_count}
use Rattle.machine_maker.proofs.MadeRows.{known, lines_at}

-- the rows stand at these places, four a state
unfoldable pub Placed : ℕ → List DrawnRow → Type 0
Placed place [] = Unit {0}
Placed place (row ∷ rows) = (row.state ≡ place / 4) × (row.number ≡ place % 4) × Placed (place + 1) rows

placed_more : (place : ℕ) (rows : List DrawnRow) (row : DrawnRow) → Placed place rows → row.state ≡ (place + length rows) / 4
    → row.number ≡ (place + length rows) % 4 → Placed place (rows ++ row ∷ [])
unfolding Placed
placed_more place [] row placed q r =
    let e : place + 0 ≡ place = omega arith in
    (q ∙ ap (λ n. n / 4) e, r ∙ ap (λ n. n % 4) e, tt)
placed_more place (x ∷ rows) row placed q r =
    let e : place + suc (length rows) ≡ place + 1 + length rows = omega arith in
    (placed.0, placed.1, placed_more (place + 1) rows row placed.2 (q ∙ ap (λ n. n / 4) e) (r ∙ ap (λ n. n % 4) e))

pub are_placed : (count : ℕ) (g : Lcg) → Placed 0 (drawn_rows count g).0
unfolding drawn_rows drawn_row Placed
are_placed zero g = tt
are_placed (suc count) g =
    let row = (drawn_row count (drawn_rows count g).1).0 in
    let e : 0 + length (drawn_rows count g).0 ≡ count = (let same = rows_count count g in omega (arith, same)) in
    placed_more 0 (drawn_rows count g).0 row (are_placed count g) (sym (ap (λ n. n / 4) e)) (sym (ap (λ n. n % 4) e))

-- two states that are found at one place are the same
pub same_state : (states : List (List ℕ)) (q r : ℕ) → q < 48 → r < 48 → has_text states (state_name q) ≡ true → has_text states (state_name r) ≡ true
    → place_of_text states (state_name q) ≡ place_of_text states (state_name r) → q ≡ r
same_state states q r few less a b e =
    let same : state_name q ≡ state_name r = sym (text_at_place states (state_name q) a) ∙ (ap (text_at states) e ∙ text_at_place states (state_name r) b) in
    decimal_injective q r (omega arith) (omega arith) (ap (drop 1) same)

-- ---- the states are the names of different numbers below 48

with_number : List ℕ → ℕ → List ℕ
with_number ns n = if list_any (eqb n) ns then ns else ns ++ n ∷ []

numbers : List ℕ → List DrawnRow → List ℕ
numbers ns [] = ns
numbers ns (row ∷ rows) = numbers (with_number (with_number ns row.state) row.next) rows

Below : List ℕ → Type 0
Below ns = Each (λ n. n < 48) ns

same_name : (n m : ℕ) → n < 48 → m < 48 → bytes_eq (state_name n) (state_name m) ≡ eqb n m
same_name n m few less = by (bytes_eq (state_name n) (state_name m)) refl
  where
    by : (b : Bool) → bytes_eq (state_name n) (state_name m) ≡ b → b ≡ eqb n m
    by true e = sym (eq-eqb n m (decimal_injective n m (omega arith) (omega arith) (ap (drop 1) (bytes_eq_same (state_name n) (state_name m) e))))
    by false e = sym (ne_eqb n m (λ is. true≢false (sym (bytes_eq_refl (state_name n)) ∙ (ap (λ k. bytes_eq (state_name n) (state_name k)) is ∙ e))))

has_same : (ns : List ℕ) (n : ℕ) → n < 48 → Below ns → has_text (map state_name ns) (state_name n) ≡ list_any (eqb n) ns
unfolding Below
has_same [] n few below = refl
has_same (m ∷ ns) n few below = ap₂ (λ a b. a || b) (same_name n m few below.0) (has_same ns n few below.1)

with_same : (ns : List ℕ) (n : ℕ) → n < 48 → Below ns → with_text (map state_name ns) (state_name n) ≡ map state_name (with_number ns n)
unfolding with_number
with_same ns n few below = ap (λ b. if b then map state_name ns else map state_name ns ++ state_name n ∷ []) (has_same ns n few below) ∙ by (list_any (eqb n) ns)
  where
    by : (b : Bool) → (if b then map state_name ns else map state_name ns ++ state_name n ∷ []) ≡ map state_name (if b then ns else ns ++ n ∷ [])
    by true = refl
    by false = sym (map-append state_name ns (n ∷ []))

below_push : (ns : List ℕ) (n : ℕ) → n < 48 → Below ns → Below (ns ++ n ∷ [])
unfolding Below
below_push [] n few below = (few, tt)
below_push (m ∷ ns) n few below = (below.0, below_push ns n few below.1)

below_with : (ns : List ℕ) (n : ℕ) → n < 48 → Below ns → Below (with_number ns n)
unfolding with_number
below_with ns n few below = by (list_any (eqb n) ns)
  where
    by : (b : Bool) → Below (if b then ns else ns ++ n ∷ [])
    by true = below
    by false = below_push ns n few below

eqb_turned : (n m : ℕ) → eqb n m ≡ false → eqb m n ≡ false
eqb_turned n m e = ne_eqb m n (λ is. true≢false (sym (eq-eqb n m (sym is)) ∙ e))

other_push : (m n : ℕ) (ns : List ℕ) → Each (λ y. eqb m y ≡ false) ns → eqb m n ≡ false → Each (λ y. eqb m y ≡ false) (ns ++ n ∷ [])
other_push m n [] each e = (e, tt)
other_push m n (k ∷ ns) each e = (each.0, other_push m n ns each.1 e)

distinct_push : (ns : List ℕ) (n : ℕ) → list_any (eqb n) ns ≡ false → IsDistinct eqb ns → IsDistinct eqb (ns ++ n ∷ [])
unfolding IsDistinct
distinct_push [] n none distinct = (tt, tt)
distinct_push (m ∷ ns) n none distinct =
    let parts = or_parts (eqb n m) (list_any (eqb n) ns) none in
    (other_push m n ns distinct.0 (eqb_turned n m parts.0), distinct_push ns n parts.1 distinct.1)

distinct_with : (ns : List ℕ) (n : ℕ) → IsDistinct eqb ns → IsDistinct eqb (with_number ns n)
unfolding with_number
distinct_with ns n distinct = by (list_any (eqb n) ns) refl
  where
    by : (b : Bool) → list_any (eqb n) ns ≡ b → IsDistinct eqb (if b then ns else ns ++ n ∷ [])
    by true e = distinct
    by false e = distinct_push ns n e distinct

named_so : (number : ℕ) (ns : List ℕ) (rows : List DrawnRow) → Each IsRowOf rows → Below ns
    → fold with_states (map state_name ns) (lines_at number rows) ≡ map state_name (numbers ns rows)
unfolding numbers
named_so number ns [] each below = refl
named_so number ns (row ∷ rows) each below =
    let one = below_with ns row.state each.0.state below in
    ap (λ states. fold with_states states (lines_at (number + 1) rows))
    (ap (λ states. with_text states (state_name row.next)) (with_same ns row.state each.0.state below) ∙ with_same (with_number ns row.state) row.next each.0.next one)
    ∙ named_so (number + 1) (with_number (with_number ns row.state) row.next) rows each.1 (below_with (with_number ns row.state) row.next each.0.next one)

numbers_below : (ns : List ℕ) (rows : List DrawnRow) → Each IsRowOf rows → Below ns → Below (numbers ns rows)
unfolding numbers
numbers_below ns [] each below = below
numbers_below ns (row ∷ rows) each below =
    numbers_below (with_number (with_number ns row.state) row.next) rows each.1
    (below_with (with_number ns row.state) row.next each.0.next (below_with ns row.state each.0.state below))

numbers_distinct : (ns : List ℕ) (rows : List DrawnRow) → IsDistinct eqb ns → IsDistinct eqb (numbers ns rows)
unfolding numbers
numbers_distinct ns [] distinct = distinct
numbers_distinct ns (row ∷ rows) distinct =
    numbers_distinct (with_number (with_number ns row.state) row.next) rows (distinct_with (with_number ns row.state) row.next (distinct_with ns row.state distinct))

below_all : (ns : List ℕ) → Below ns → (q : ℕ) → list_any (eqb q) ns ≡ true → q < 48
unfolding Below
below_all [] below q e = absurd (false≢true e)
below_all (n ∷ ns) below q e = by (eqb q n) refl (below_all ns below.1 q)
  where
    by : (b : Bool) → eqb q n ≡ b → (list_any (eqb q) ns ≡ true → q < 48) → q < 48
    by true is rest = let same = eqb-true q n is in let few = below.0 in omega (arith, same, few)
    by false is rest = rest (ap (λ b. b || list_any (eqb q) ns) (sym is) ∙ e)

few_states : (rows : List DrawnRow) → Each IsRowOf rows → length (numbers [] rows) ≤ 48
unfolding Below IsDistinct
few_states rows each = length-le_from_distinct_below (numbers [] rows) 48 (numbers_distinct [] rows tt) (below_all (numbers [] rows) (numbers_below [] rows each tt))

-- ---- each of the 48 is named

known_at : (states : List (List ℕ)) (place : ℕ) (rows : List DrawnRow) → Placed place rows → Each (λ row. has_text states (state_name row.state) ≡ true) rows
    → (q : ℕ) → place ≤ 4 * q → 4 * q < place + length rows → has_text states (state_name q) ≡ true
unfolding Placed
known_at states place [] placed there q low high = absurd (let none : ⊥ = omega arith in none)
known_at states place (row ∷ rows) placed there q low high = elim (cases_eq place (4 * q)) [
  | inl is ↦ (
      let state = placed.0 in
      let same : row.state ≡ q = omega (arith, is, state) in
      ap (λ n. has_text states (state_name n)) (sym same) ∙ there.0)
  | inr other ↦ known_at states (place + 1) rows placed.2 there.1 q (omega (arith, low, other)) (omega (arith, high))
]

module _ (states : List (List ℕ)) (there : (q : ℕ) → q < 48 → has_text states (state_name q) ≡ true) where
  place : ℕ → ℕ
  place q = place_of_text states (state_name q)

  apart_from : (a n q : ℕ) → q < a → a + n ≤ 48 → Each (λ y. eqb (place q) y ≡ false) (map place (range_with_len a n))
  unfolding place
  apart_from a zero q lower few = tt
  apart_from a (suc n) q lower few = (
    ne_eqb (place q) (place a) (λ e. let is = same_state states q a (omega arith) (omega arith) (there q (omega arith)) (there a (omega arith)) e in omega (arith, is, lower)),
    apart_from (a + 1) n q (omega arith) (omega arith),
  )

  places_distinct : (a n : ℕ) → a + n ≤ 48 → IsDistinct eqb (map place (range_with_len a n))
  unfolding IsDistinct
  places_distinct a zero few = tt
  places_distinct a (suc n) few = (apart_from (a + 1) n a (omega arith) (omega arith), places_distinct (a + 1) n (omega arith))

  places_within : (a n : ℕ) → a + n ≤ 48 → (k : ℕ) → list_any (eqb k) (map place (range_with_len a n)) ≡ true → k < length states
  unfolding place
  places_within a zero few k e = absurd (false≢true e)
  places_within a (suc n) few k e = by (eqb k (place a)) refl (places_within (a + 1) n (omega arith) k)
    where
      by : (b : Bool) → eqb k (place a) ≡ b → (list_any (eqb k) (map place (range_with_len (a + 1) n)) ≡ true → k < length states) → k < length states
      by true is rest = let same = eqb-true k (place a) is in let within = place_within states (state_name a) (there a (omega arith)) in omega (arith, same, within)
      by false is rest = rest (ap (λ b. b || list_any (eqb k) (map place (range_with_len (a + 1) n))) (sym is) ∙ e)

  many_states : 48 ≤ length states
  many_states =
      let most = length-le_from_distinct_below (map place (range_with_len 0 48)) (length states) (places_distinct 0 48 (omega arith)) (places_within 0 48 (omega arith)) in
      let sized = length-map-range_with_len place 0 48 in
      omega (arith, most, sized)

pub count_states : (number : ℕ) (rows : List DrawnRow) → Each IsRowOf rows → length rows ≡ 192 → Placed 0 rows
    → length (fold with_states [] (lines_at number rows)) ≡ 48
unfolding Below
count_states number rows each count placed =
    let states = fold with_states [] (lines_at number rows) in
    let there : (q : ℕ) → q < 48 → has_text states (state_name q) ≡ true =
    λ q few. known_at states 0 rows placed (known number [] rows) q (omega arith) (omega (arith, count)) in
    let many = many_states states there in
    let few = few_states rows each in
    let same = ap (λ (l : List (List ℕ)). length l) (named_so number [] rows each tt) in
    let sized = length-map (numbers [] rows) state_name in
    omega (arith, many, few, same, sized)
