-- Of n different numbers below m there are at most m.
use Rattle.std.specs.Prelude.{◌≡◌, ℕ, ◌+◌, ◌<◌, ◌≤◌, Bool, true, false, List, map, length, get_or, eqb}
use Rattle.std.proofs.Common.{sym, ◌∙◌, ap, subst, arith}
use Rattle.std.specs.List.{IsDistinct, list_any, range_with_len}
use Rattle.std.proofs.lemmas.Bool.{eqb-true, ne_eqb}
use Rattle.std.proofs.lemmas.List.FromFn.{length-map-range_with_len, get_or-map-range_with_len}
use Rattle.std.proofs.lemmas.Map.Keys.{IsDistinct-from_apart}
use Rattle.std.proofs.lemmas.Map.Steps.{length-le_from_distinct_below}
use Rattle.std.proofs.lemmas.Map.Views.{Contains-from_any}

-- the first n numbers that f gives are different ones
abbrev pub OneToOne : (ℕ → ℕ) → ℕ → Type 0
OneToOne f n = (i j : ℕ) → i < n → j < n → f i ≡ f j → i ≡ j

-- n different numbers below m are at most m
pub pigeonhole : (n m : ℕ) (f : ℕ → ℕ) → ((i : ℕ) → i < n → f i < m) → OneToOne f n → n ≤ m
pigeonhole n m f into once = omega (arith, length-le_from_distinct_below given m apart below, counted)
  where
    given : List ℕ
    given = map f (range_with_len 0 n)

    counted : length given ≡ n
    counted = length-map-range_with_len f 0 n

    at : (i d : ℕ) → i < n → get_or given i d ≡ f i
    at i d h = get_or-map-range_with_len f 0 n i i d h (omega arith)

    apart : IsDistinct eqb given
    apart = IsDistinct-from_apart eqb given (λ i j d before within.
        ne_eqb (get_or given i d) (get_or given j d) (λ same.
        let i_in : i < n = omega (arith, counted) in
        let j_in : j < n = omega (arith, counted) in
        let one : i ≡ j = once i j i_in j_in (sym (at i d i_in) ∙ same ∙ at j d j_in) in
        omega arith))

    below : (q : ℕ) → list_any (eqb q) given ≡ true → q < m
    below q e =
        let there = Contains-from_any (λ x y h. eqb-true x y h) q given e in
        let within : there.0 < n = omega (arith, there.1, counted) in
        subst (λ k. k < m) (sym (at there.0 q within) ∙ there.2) (into there.0 within)
