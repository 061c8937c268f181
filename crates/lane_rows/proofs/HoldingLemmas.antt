-- Rows that are given and freed: each stays free or held, once.
use Rattle.std.proofs.Common.{◌≡◌, ℕ, ◌+◌, ◌<◌, ◌≤◌, ◌==◌, ◌&&◌, ◌||◌, not, Bool, true, false, cond, if◌then◌else◌, nat_lt, List, [], ◌∷◌, ◌++◌, length, set, count_by, Option, Some, None, is_some, refl, sym, ap, ◌∙◌, subst, inl, inr, arith}
use Rattle.std.proofs.lemmas.Bool.{cases_lt, cases_eq, eq-eqb, ne_eqb, le-ltb}
use Rattle.std.proofs.lemmas.Bool.Decides.{nat_tests}
use Rattle.std.proofs.lemmas.List.{length-set, length_push, get_or-set_same, get_or-set_other, get_or_past}
use Rattle.std.proofs.lemmas.List.Sums.{sum_by-set, sum_by_push, get_or-le-sum_by}
use Rattle.lane_rows.specs.Rows.{row_of, AreBelow}
use Rattle.lane_rows.specs.Holding.{IsNext, Freed, New, is_row, IsHolding}

-- a net that has a row is one of the list
pub within_some : (rows : List (Option ℕ)) (net row : ℕ) → row_of rows net ≡ Some row → net < length rows
within_some rows net row e = elim (cases_lt net (length rows)) [
  | inl h ↦ h
  | inr h ↦ absurd (some_none (sym e ∙ get_or_past rows net None h))
]
  where
    some_none : Some row ≡ None → ⊥
    some_none e = cc

-- how often a row is free or held
abbrev uses : List ℕ → List (Option ℕ) → ℕ → ℕ
uses free held row = count_by (λ f. f == row) free + count_by (is_row row) held

-- a row that a net holds is counted
held_once : (held : List (Option ℕ)) (net row : ℕ) → row_of held net ≡ Some row → 1 ≤ count_by (is_row row) held
held_once held net row e =
    let most : cond (is_row row (row_of held net)) 1 0 ≤ count_by (is_row row) held =
    get_or-le-sum_by (λ (o : Option ℕ). cond {A = ℕ} (is_row row o) 1 0) held net None (within_some held net row e) in
    let one : cond {A = ℕ} (is_row row (row_of held net)) 1 0 ≡ 1 =
    ap (λ (o : Option ℕ). cond {A = ℕ} (is_row row o) 1 0) e ∙ ap (λ (b : Bool). cond {A = ℕ} b 1 0) (eq-eqb row row refl) in
    omega (arith, most, one)

one_at_most : (b : Bool) → (if b then 1 else 0) ≤ 1
one_at_most true = omega arith
one_at_most false = omega arith

counted_push : (free : List ℕ) (row other : ℕ) → count_by (λ f. f == other) (free ++ row ∷ []) ≡ count_by (λ f. f == other) free + cond (row == other) 1 0
counted_push free row other = sum_by_push (λ f. cond {A = ℕ} (f == other) 1 0) free row

hit : (row : ℕ) → cond {A = ℕ} (row == row) 1 0 ≡ 1
hit row = ap (λ (b : Bool). cond {A = ℕ} b 1 0) (eq-eqb row row refl)

-- the next row is held by no net
pub next_is_fresh : (rows held : List (Option ℕ)) (free left : List ℕ) (count grown row : ℕ) (live : ℕ → Bool)
    → IsHolding rows held free count live → IsNext free count left grown row → (net : ℕ) → row_of held net ≡ Some row → ⊥
next_is_fresh rows held free left count grown row live holding (Freed split same) net e =
    let once = holding.once row in
    let most = one_at_most (nat_lt row count) in
    let there = held_once held net row e in
    let split' : count_by (λ f. f == row) free ≡ count_by (λ f. f == row) left + 1 =
    ap (count_by (λ f. f == row)) split ∙ counted_push left row row ∙ ap (λ n. count_by (λ f. f == row) left + n) (hit row) in
    omega (arith, once, most, there, split')
next_is_fresh rows held free left count grown row live holding (New none none' is more) net e =
    let once = holding.once row in
    let zero : cond {A = ℕ} (nat_lt row count) 1 0 ≡ 0 = ap (λ (b : Bool). cond {A = ℕ} b 1 0) (le-ltb row count (omega arith)) in
    let there = held_once held net row e in
    omega (arith, once, zero, there)

-- the next row is one of the rows
next_is_below : (rows held : List (Option ℕ)) (free left : List ℕ) (count grown row : ℕ) (live : ℕ → Bool)
    → IsHolding rows held free count live → IsNext free count left grown row → (row < grown) × (count ≤ grown)
next_is_below rows held free left count grown row live holding (Freed split same) = (below, omega arith)
  where
    once : uses free held row ≡ (if nat_lt row count then 1 else 0)
    once = holding.once row

    split' : count_by (λ f. f == row) free ≡ count_by (λ f. f == row) left + 1
    split' = ap (count_by (λ f. f == row)) split ∙ counted_push left row row ∙ ap (λ n. count_by (λ f. f == row) left + n) (hit row)

    below : row < grown
    below = elim (cases_lt row count) [
      | inl h ↦ omega (arith, h, same)
      | inr h ↦
          let zero : cond {A = ℕ} (nat_lt row count) 1 0 ≡ 0 = ap (λ (b : Bool). cond {A = ℕ} b 1 0) (le-ltb row count h) in
          absurd (omega (arith, once, zero, split'))
    ]
next_is_below rows held free left count grown row live holding (New none none' is more) = (omega arith, omega arith)

one_more : (row count : ℕ) → cond {A = ℕ} (nat_lt row count) 1 0 + cond {A = ℕ} (count == row) 1 0 ≡ cond {A = ℕ} (nat_lt row (count + 1)) 1 0
one_more row count = grind (arith, nat_tests)

-- the rows after a net without a row was given the next one
module _ (rows held : List (Option ℕ)) (free left : List ℕ) (count grown row net : ℕ) (live : ℕ → Bool)
    (holding : IsHolding rows held free count live) (within : net < length rows) (none : row_of held net ≡ None) where
  given : (other : ℕ) (o : Option ℕ) → count_by (is_row other) (set held net o) + 0 ≡ count_by (is_row other) held + cond (is_row other o) 1 0
  given other o =
      let inside : net < length held = omega (arith, holding.sized) in
      let s : count_by (is_row other) (set held net o) + cond (is_row other (row_of held net)) 1 0 ≡ count_by (is_row other) held + cond (is_row other o) 1 0 =
      sum_by-set (λ (x : Option ℕ). cond {A = ℕ} (is_row other x) 1 0) held net o None inside in
      let was : cond {A = ℕ} (is_row other (row_of held net)) 1 0 ≡ 0 = ap (λ (x : Option ℕ). cond {A = ℕ} (is_row other x) 1 0) none in
      omega (arith, s, was)

  given_some : count_by is_some (set held net (Some row)) ≡ count_by is_some held + 1
  given_some =
      let inside : net < length held = omega (arith, holding.sized) in
      let s : count_by is_some (set held net (Some row)) + cond (is_some (row_of held net)) 1 0 ≡ count_by is_some held + 1 =
      sum_by-set (λ (x : Option ℕ). cond {A = ℕ} (is_some x) 1 0) held net (Some row) None inside in
      let was : cond {A = ℕ} (is_some (row_of held net)) 1 0 ≡ 0 = ap (λ (x : Option ℕ). cond {A = ℕ} (is_some x) 1 0) none in
      omega (arith, s, was)

  given_once : IsNext free count left grown row → (other : ℕ) → uses left (set held net (Some row)) other ≡ (if nat_lt other grown then 1 else 0)
  given_once (Freed split same) other =
      let once = holding.once other in
      let now = given other (Some row) in
      let free' : count_by (λ f. f == other) free ≡ count_by (λ f. f == other) left + cond (row == other) 1 0 =
      ap (count_by (λ f. f == other)) split ∙ counted_push left row other in
      let grown' : cond {A = ℕ} (nat_lt other grown) 1 0 ≡ cond {A = ℕ} (nat_lt other count) 1 0 = ap (λ n. cond {A = ℕ} (nat_lt other n) 1 0) same in
      omega (arith, once, now, free', grown')
  given_once (New empty empty' is more) other =
      let once = holding.once other in
      let now = given other (Some row) in
      let free' : count_by (λ f. f == other) free ≡ 0 = ap (count_by (λ f. f == other)) empty in
      let left' : count_by (λ f. f == other) left ≡ 0 = ap (count_by (λ f. f == other)) empty' in
      let row' : cond {A = ℕ} (row == other) 1 0 ≡ cond {A = ℕ} (count == other) 1 0 = ap (λ n. cond {A = ℕ} (n == other) 1 0) is in
      let grown' : cond {A = ℕ} (nat_lt other grown) 1 0 ≡ cond {A = ℕ} (nat_lt other (count + 1)) 1 0 = ap (λ n. cond {A = ℕ} (nat_lt other n) 1 0) more in
      let step = one_more other count in
      omega (arith, once, now, free', left', row', grown', step)

  given_counted : IsNext free count left grown row → length left + count_by is_some (set held net (Some row)) ≡ grown
  given_counted (Freed split same) =
      let was = holding.counted in
      let split' : length free ≡ length left + 1 = ap length split ∙ length_push left row in
      omega (arith, was, given_some, split')
  given_counted (New empty empty' is more) =
      let was = holding.counted in
      let free' : length free ≡ 0 = ap length empty in
      let left' : length left ≡ 0 = ap length empty' in
      omega (arith, was, given_some, free', left')

  given_holds : (other : ℕ) → row_of (set held net (Some row)) other ≡ (if (net == other || live other) then row_of (set rows net (Some row)) other else None)
  given_holds other = elim (cases_eq net other) [
    | inl e ↦ subst (λ n. row_of (set held net (Some row)) n ≡ (if (net == n || live n) then row_of (set rows net (Some row)) n else None)) e
        (rw (eq-eqb net net refl, get_or-set_same rows net (Some row) None within)
        (get_or-set_same held net (Some row) None (omega (arith, holding.sized))))
    | inr apart ↦
        rw (ne_eqb net other apart, get_or-set_other rows net other (Some row) None (λ e. apart (sym e)), get_or-set_other held net other (Some row) None (λ e. apart (sym e)))
        (holding.holds other)
  ]

  given_below : IsNext free count left grown row → AreBelow grown (set rows net (Some row))
  given_below next other r e =
      let bounds = next_is_below rows held free left count grown row live holding next in
      elim (cases_eq net other) [
        | inl same ↦
            let is : Some row ≡ Some r = sym (get_or-set_same rows net (Some row) None within) ∙ ap (row_of (set rows net (Some row))) same ∙ e in
            let equal : row ≡ r = cc in
            omega (arith, bounds.0, equal)
        | inr apart ↦
            let was : r < count = holding.below other r (sym (get_or-set_other rows net other (Some row) None (λ e. apart (sym e))) ∙ e) in
            omega (arith, was, bounds.1)
      ]

  pub given_is_holding : IsNext free count left grown row
      → IsHolding (set rows net (Some row)) (set held net (Some row)) left grown (λ other. net == other || live other)
  given_is_holding next = record {
    sized = length-set held net (Some row) ∙ holding.sized ∙ sym (length-set rows net (Some row));
    holds = given_holds;
    once = given_once next;
    below = given_below next;
    counted = given_counted next;
  }

-- the rows when others are said to live, where this changes nothing of what is held
pub holding_as : (rows held : List (Option ℕ)) (free : List ℕ) (count : ℕ) (live others : ℕ → Bool)
    → ((net : ℕ) → (if live net then row_of rows net else None) ≡ (if others net then row_of rows net else None))
    → IsHolding rows held free count live → IsHolding rows held free count others
holding_as rows held free count live others same holding = record {
  sized = holding.sized;
  holds = λ net. holding.holds net ∙ same net;
  once = holding.once;
  below = holding.below;
  counted = holding.counted;
}

pub holding_of : (rows held : List (Option ℕ)) (free : List ℕ) (count : ℕ) (live others : ℕ → Bool)
    → ((net : ℕ) → live net ≡ others net) → IsHolding rows held free count live → IsHolding rows held free count others
holding_of rows held free count live others same =
    holding_as rows held free count live others (λ net. ap (λ (b : Bool). if b then row_of rows net else None) (same net))

none_either : (o : Option ℕ) (a b : Bool) → o ≡ None → (if a then o else None) ≡ (if b then o else None)
none_either o true true e = refl
none_either o true false e = e
none_either o false true e = sym e
none_either o false false e = refl

-- the rows when others of the nets are said to live
pub holding_within : (rows held : List (Option ℕ)) (free : List ℕ) (count : ℕ) (live others : ℕ → Bool)
    → ((net : ℕ) → net < length rows → live net ≡ others net) → IsHolding rows held free count live → IsHolding rows held free count others
holding_within rows held free count live others same =
    holding_as rows held free count live others (λ net. elim (cases_lt net (length rows)) [
      | inl h ↦ ap (λ (b : Bool). if b then row_of rows net else None) (same net h)
      | inr h ↦ none_either (row_of rows net) (live net) (others net) (get_or_past rows net None h)
    ])

-- which nets live after one was released
abbrev pub less : (ℕ → Bool) → ℕ → Bool → ℕ → Bool
less live net needed other = live other && (not (net == other) || needed)
