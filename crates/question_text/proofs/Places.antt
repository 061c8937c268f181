-- Where variables stand in spread lists.
use Rattle.std.proofs.Common.{◌≡◌, ℕ, zero, suc, ◌+◌, ◌<◌, ◌≤◌, Bool, true, false, cond, List, [], ◌∷◌, ◌++◌, length, take, nat_le, slice_index_or, refl, sym, ap, ap₂, ◌∙◌, subst, arith, length-append}
use Rattle.std.proofs.lemmas.List.{get_or_append_left, get_or-append-add}
use Rattle.refutations.specs.declared.literal.Literal.{Literal}
use Rattle.exact_question.specs.Variables.{Copy, Variable, Input, Row, Unheard, spread}
use Rattle.exact_question.specs.Question.{row_variables, input_variables}
use Rattle.question_text.specs.Covers.{next_row, wide}
use Rattle.question_text.proofs.Same.{two_long}

-- a variable stands at a place of a list
pub record At (vs : List Variable) (k : ℕ) (v : Variable) : Type 0 where
  pub inside : k < length vs
  pub here : slice_index_or vs k Unheard ≡ v

pub at_same : (vs : List Variable) (k p : ℕ) (v : Variable) → At vs k v → k ≡ p → At vs p v
at_same vs k p v at is = subst (λ q. At vs q v) is at

pub at_left : (as_ bs : List Variable) (k : ℕ) (v : Variable) → At as_ k v → At (as_ ++ bs) k v
at_left as_ bs k v at = record {
  inside = omega (arith, length-append as_ bs, at.inside);
  here = get_or_append_left as_ bs Unheard k at.inside ∙ at.here;
}

pub at_right : (as_ bs : List Variable) (n k p : ℕ) (v : Variable) → length as_ ≡ n → At bs k v → p ≡ n + k → At (as_ ++ bs) p v
at_right as_ bs n k p v long at is =
    at_same (as_ ++ bs) (length as_ + k) p v (record {
      inside = omega (arith, length-append as_ bs, at.inside);
      here = get_or-append-add as_ bs k Unheard ∙ at.here;
    }) (omega (arith, long, is))

-- ---- rows

next_zero : (w : ℕ) (row : List Literal) → next_row 0 row + w ≡ next_row w row
next_zero w row = by (nat_le 2 (length row))
  where
    by : (b : Bool) → cond b (0 + 1) 0 + w ≡ cond b (w + 1) w
    by true = omega arith
    by false = omega arith

row_long : (copy : Copy) (j r : ℕ) (row : List Literal) → length (row_variables copy j r row) ≡ next_row 0 row
row_long copy j r [] = refl
row_long copy j r (l ∷ []) = refl
row_long copy j r (l ∷ m ∷ ls) = ap (λ b. cond b 1 0) (sym (two_long l m ls))

rows_long : (f : ℕ → List Literal → List Variable) (rows : List (List Literal)) → ((k : ℕ) (row : List Literal) → length (f k row) ≡ next_row 0 row) → length (spread f rows) ≡ wide rows
rows_long f [] each = refl
rows_long f (row ∷ rows) each =
    length-append (f 0 row) (spread (λ k. f (suc k)) rows) ∙ ap₂ (λ a b. a + b) (each 0 row) (rows_long (λ k. f (suc k)) rows (λ k. each (suc k))) ∙ next_zero (wide rows) row

-- a row of two or more literals
at_row : (f : ℕ → List Literal → List Variable) (g : ℕ → Variable) (rows : List (List Literal))
    → ((k : ℕ) (row : List Literal) → length (f k row) ≡ next_row 0 row)
    → ((k : ℕ) (row : List Literal) → nat_le 2 (length row) ≡ true → At (f k row) 0 (g k))
    → (r : ℕ) → r < length rows → nat_le 2 (length (slice_index_or rows r [])) ≡ true → At (spread f rows) (wide (take r rows)) (g r)
at_row f g [] long each r inside is = absurd (omega arith)
at_row f g (row ∷ rows) long each zero inside is = at_left (f 0 row) (spread (λ k. f (suc k)) rows) 0 (g 0) (each 0 row is)
at_row f g (row ∷ rows) long each (suc r) inside is =
    at_right (f 0 row) (spread (λ k. f (suc k)) rows) (next_row 0 row) (wide (take r rows)) (next_row (wide (take r rows)) row) (g (suc r)) (long 0 row)
    (at_row (λ k. f (suc k)) (λ k. g (suc k)) rows (λ k. long (suc k)) (λ k. each (suc k)) r (omega arith) is) (sym (next_zero (wide (take r rows)) row))

wide_row : (copy : Copy) (j k : ℕ) (row : List Literal) → nat_le 2 (length row) ≡ true → At (row_variables copy j k row) 0 (Row copy j k)
wide_row copy j k [] is = absurd (let e : 2 ≤ 0 = grind arith in omega arith)
wide_row copy j k (l ∷ []) is = absurd (let e : 2 ≤ 1 = grind arith in omega arith)
wide_row copy j k (l ∷ m ∷ ls) is = record { inside = omega arith; here = refl }

pub rows_count : (copy : Copy) (j : ℕ) (rows : List (List Literal)) → length (spread (row_variables copy j) rows) ≡ wide rows
rows_count copy j rows = rows_long (row_variables copy j) rows (row_long copy j)

pub at_rows : (copy : Copy) (j : ℕ) (rows : List (List Literal)) (r : ℕ) → r < length rows → nat_le 2 (length (slice_index_or rows r [])) ≡ true
    → At (spread (row_variables copy j) rows) (wide (take r rows)) (Row copy j r)
at_rows copy j rows r inside is = at_row (row_variables copy j) (Row copy j) rows (row_long copy j) (wide_row copy j) r inside is

-- ---- inputs

pub inputs_long : (n : ℕ) → length (input_variables n) ≡ n
inputs_long zero = refl
inputs_long (suc n) = length-append (input_variables n) (Input n ∷ []) ∙ (let e = inputs_long n in omega (arith, e))
