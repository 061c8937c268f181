-- The running ANDs of a row: one literal more.
use Rattle.std.proofs.Common.{◌≡◌, ℕ, zero, suc, ◌+◌, ◌-◌, ◌<◌, ◌≤◌, Bool, true, false, ◌&&◌, List, [], ◌∷◌, take, length, refl, sym, ap, ◌∙◌, subst, arith}
use Rattle.tsc_bits.specs.Bits.{bit_worth}
use Rattle.tsc_cover.specs.Cover.{Literal, accepts, literal_at, row_matches}
use Rattle.tsc_cover.specs.Row.{literal, literals_of}
use Rattle.tsc_cover.specs.declared.rows.Row01.{Row01}
use Rattle.tsc_cover.proofs.Row.{length-literals, literal_at-literals}
use Rattle.diagrams.specs.Cofactors.{Function, Same}
use Rattle.diagrams.specs.Building.{DiagramState, StandsFor}
use Rattle.diagrams.proofs.CofactorLemmas.{of_one-same}
use Rattle.diagrams.proofs.Waits.{stands_same}
use Rattle.cover_diagrams.specs.Covering.{Grows, with_literal, values, and_so_far, pin_function, IsLiteralKept, IsRowKept}

and-true : (a : Bool) → a ≡ (a && true)
and-true true = refl
and-true false = refl

and-assoc : (a b c : Bool) → (a && (b && c)) ≡ ((a && b) && c)
and-assoc true b c = refl
and-assoc false b c = refl

and_next : (row : List Literal) (ps : List Function) (x : List Bool) (i : ℕ) → i < length row → i < length ps →
    row_matches (take (suc i) row) (values ps x) ≡ (row_matches (take i row) (values ps x) && accepts (literal_at row i) (pin_function ps i x))
and_next [] ps x i inside in_ps = absurd (omega arith)
and_next (l ∷ row) [] x i inside in_ps = absurd (omega arith)
and_next (l ∷ row) (p ∷ ps) x zero inside in_ps = sym (and-true (accepts l (p x)))
and_next (l ∷ row) (p ∷ ps) x (suc i) inside in_ps =
    ap (λ b. accepts l (p x) && b) (and_next row ps x i (omega arith) (omega arith)) ∙ and-assoc (accepts l (p x)) (row_matches (take i row) (values ps x)) (accepts (literal_at row i) (pin_function ps i x))

-- the AND so far with the next literal is the next AND
next_same : (inputs : ℕ) (row : List Literal) (ps : List Function) (i : ℕ) → i < length row → i < length ps →
    Same inputs (with_literal (and_so_far row ps i) (literal_at row i) (pin_function ps i)) (and_so_far row ps (i + 1))
next_same inputs row ps i inside in_ps = record {
  at = λ x sized.
      let e : suc i ≡ i + 1 = omega arith in
      sym (and_next row ps x i inside in_ps) ∙ ap (λ (k : ℕ). row_matches (take k row) (values ps x)) e;
}

pub literal_read : (n i : ℕ) (row : Row01) (care wanted : Bool) → i < n → care ≡ bit_worth (n - 1 - i) row.care → wanted ≡ bit_worth (n - 1 - i) row.value →
    literal_at (literals_of n row) i ≡ literal care wanted
literal_read n i row care wanted inside cares wants =
    literal_at-literals n row.care row.value i inside ∙ (ap (λ t. literal t (bit_worth (n - 1 - i) row.value)) (sym cares) ∙ ap (λ t. literal care t) (sym wants))

pub step_kept : (old mid : DiagramState) (fs ps : List Function) (n i : ℕ) (row : Row01) (care wanted : Bool) → i < n → length ps ≡ n → Grows old mid →
    care ≡ bit_worth (n - 1 - i) row.care → wanted ≡ bit_worth (n - 1 - i) row.value → IsRowKept old.inputs fs (literals_of n row) ps →
    IsLiteralKept mid.inputs fs (and_so_far (literals_of n row) ps i) (literal care wanted) (pin_function ps i)
step_kept old mid fs ps n i row care wanted inside sized grown cares wants kept =
    let long : length (literals_of n row) ≡ n = length-literals n row.care row.value in
    let in_row : i < length (literals_of n row) = omega (arith, long, inside) in
    let in_ps : i < length ps = omega (arith, sized, inside) in
    let next_in : i + 1 ≤ length (literals_of n row) = omega (arith, long, inside) in
    let same = next_same old.inputs (literals_of n row) ps i in_row in_ps in
    let here : IsLiteralKept old.inputs fs (and_so_far (literals_of n row) ps i) (literal_at (literals_of n row) i) (pin_function ps i) = record {
      negated = kept.negated i in_row;
      joined = of_one-same old.inputs fs _ _ (kept.joined (i + 1) next_in) same;
    } in
    subst (λ (k : ℕ). IsLiteralKept k fs (and_so_far (literals_of n row) ps i) (literal care wanted) (pin_function ps i)) (sym grown.inputs)
    (subst (λ (l : Literal). IsLiteralKept old.inputs fs (and_so_far (literals_of n row) ps i) l (pin_function ps i)) (literal_read n i row care wanted inside cares wants) here)

pub step_stands : (state : DiagramState) (ps : List Function) (n i k : ℕ) (row : Row01) (care wanted : Bool) → i < n → length ps ≡ n →
    care ≡ bit_worth (n - 1 - i) row.care → wanted ≡ bit_worth (n - 1 - i) row.value →
    StandsFor state (with_literal (and_so_far (literals_of n row) ps i) (literal care wanted) (pin_function ps i)) k → StandsFor state (and_so_far (literals_of n row) ps (i + 1)) k
step_stands state ps n i k row care wanted inside sized cares wants stands =
    let long : length (literals_of n row) ≡ n = length-literals n row.care row.value in
    let in_row : i < length (literals_of n row) = omega (arith, long, inside) in
    let in_ps : i < length ps = omega (arith, sized, inside) in
    stands_same state _ _ state.inputs k refl (next_same state.inputs (literals_of n row) ps i in_row in_ps)
    (subst (λ (l : Literal). StandsFor state (with_literal (and_so_far (literals_of n row) ps i) l (pin_function ps i)) k) (sym (literal_read n i row care wanted inside cares wants)) stands)
