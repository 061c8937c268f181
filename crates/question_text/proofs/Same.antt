-- The clauses of gates and covers, with their variables numbered, are those over numbers.
use Rattle.std.proofs.Common.{◌≡◌, ℕ, suc, ◌+◌, ◌<◌, Bool, true, false, cond, List, [], ◌∷◌, ◌++◌, map, length, take, nat_le, nat_eq, slice_index, slice_index_or, All, refl, sym, ap, ap₂, ◌∙◌, arith}
use Rattle.std.specs.List.{list_any}
use Rattle.std.proofs.lemmas.List.{map-append}
use Rattle.std.proofs.lemmas.List.Elements.{All-head, All-tail}
use Rattle.std.proofs.lemmas.Bool.{or_parts}
use Rattle.fault_secure.specs.Circuit.{NodeOf}
use Rattle.refutations.specs.declared.literal.Literal.{Literal}
use Rattle.exact_question.specs.Variables.{Copy, Variable, Row, spread}
use Rattle.exact_question.specs.Rows.{literal, rows_of}
use Rattle.exact_question.specs.Gates.{Claim, yes, no, negated, and_clauses, or_clauses, xor_clauses}
use Rattle.exact_question.specs.Question.{of_net, claim_of, row_claim, row_clauses, some_row_clauses, cover_clauses}
use Rattle.question_text.specs.Gates.{is_one, is_zero, turned, and_of, or_of, xor_of}
use Rattle.question_text.specs.Covers.{at_net, first_of, next_row, wide, row_gates, rows_gates, row_literal, row_literals, some_row, cover_gates}

pub two_long : (l m : Literal) (ls : List Literal) → nat_le 2 (length (l ∷ m ∷ ls)) ≡ true
two_long l m ls = grind arith

not_one : (l m : Literal) (ls : List Literal) → nat_eq (length (l ∷ m ∷ ls)) 1 ≡ false
not_one l m ls = grind arith

pub next_swap : (at w : ℕ) (row : List Literal) → at + next_row w row ≡ next_row at row + w
next_swap at w row = by (nat_le 2 (length row))
  where
    by : (b : Bool) → at + cond b (w + 1) w ≡ cond b (at + 1) at + w
    by true = omega arith
    by false = omega arith

module _ (num : Variable → ℕ) where
  abbrev pub lit : Claim → Literal
  lit c = literal (num c.variable) c.wants

  abbrev pub lits : List Claim → List Literal
  lits clause = map lit clause

  -- ---- gates

  pairs_below : (v : Variable) (claims : List Claim) → map lits (map (λ c. no v ∷ c ∷ []) claims) ≡ map (λ l. is_zero (num v) ∷ l ∷ []) (map lit claims)
  pairs_below v [] = refl
  pairs_below v (c ∷ claims) = ap (λ rest. (is_zero (num v) ∷ lit c ∷ []) ∷ rest) (pairs_below v claims)

  all_turned : (claims : List Claim) → map lit (map negated claims) ≡ map turned (map lit claims)
  all_turned [] = refl
  all_turned (c ∷ claims) = ap (λ rest. turned (lit c) ∷ rest) (all_turned claims)

  pub and_is : (v : Variable) (claims : List Claim) → map lits (and_clauses v claims) ≡ and_of (num v) (map lit claims)
  and_is v claims =
      map-append lits (map (λ c. no v ∷ c ∷ []) claims) ((yes v ∷ map negated claims) ∷ [])
      ∙ ap₂ (λ pairs last. pairs ++ (is_one (num v) ∷ last) ∷ []) (pairs_below v claims) (all_turned claims)

  pairs_above : (out : Claim) (claims : List Claim) → map lits (map (λ c. out ∷ negated c ∷ []) claims) ≡ map (λ l. lit out ∷ turned l ∷ []) (map lit claims)
  pairs_above out [] = refl
  pairs_above out (c ∷ claims) = ap (λ rest. (lit out ∷ turned (lit c) ∷ []) ∷ rest) (pairs_above out claims)

  pub or_is : (out : Claim) (claims : List Claim) → map lits (or_clauses out claims) ≡ or_of (lit out) (map lit claims)
  or_is out claims =
      map-append lits (map (λ c. out ∷ negated c ∷ []) claims) ((negated out ∷ claims) ∷ [])
      ∙ ap (λ pairs. pairs ++ (turned (lit out) ∷ map lit claims) ∷ []) (pairs_above out claims)

  pub xor_is : (v : Variable) (a b : Claim) → map lits (xor_clauses v a b) ≡ xor_of (num v) (lit a) (lit b)
  xor_is v a b = refl

  -- ---- covers

  module _ (copy : Copy) (inputs j top : ℕ) (numbers : List ℕ) (net_is : (net : ℕ) → net < top → num (of_net copy inputs net) ≡ slice_index numbers net) where
    abbrev Within : List Literal → Type 0
    Within row = All (λ l. l.variable < top) row

    net_at : (l : Literal) → l.variable < top → lit (claim_of copy inputs l) ≡ at_net numbers l
    net_at l inside = ap (λ n. literal n l.wants) (net_is l.variable inside)

    nets_at : (row : List Literal) → Within row → map lit (map (claim_of copy inputs) row) ≡ map (at_net numbers) row
    nets_at [] within = refl
    nets_at (l ∷ row) within = ap₂ (λ a as_. a ∷ as_) (net_at l (All-head (λ l. l.variable < top) l row within)) (nets_at row (All-tail (λ l. l.variable < top) l row within))

    row_is : (r : ℕ) (row : List Literal) → Within row → map lits (row_clauses copy inputs j r row) ≡ row_gates numbers (num (Row copy j r)) row
    row_is r [] within = refl
    row_is r (l ∷ []) within = refl
    row_is r (l ∷ m ∷ ls) within =
        and_is (Row copy j r) (map (claim_of copy inputs) (l ∷ m ∷ ls)) ∙ ap (and_of (num (Row copy j r))) (nets_at (l ∷ m ∷ ls) within)
        ∙ ap (λ b. cond b (and_of (num (Row copy j r)) (map (at_net numbers) (l ∷ m ∷ ls))) []) (sym (two_long l m ls))

    claim_is : (r : ℕ) (row : List Literal) → Within row → lit (row_claim copy inputs j r row) ≡ row_literal numbers (num (Row copy j r)) row
    claim_is r [] within = refl
    claim_is r (l ∷ []) within = net_at l (All-head (λ l. l.variable < top) l [] within)
    claim_is r (l ∷ m ∷ ls) within = ap (λ b. cond b (at_net numbers l) (is_one (num (Row copy j r)))) (sym (not_one l m ls))

    same_row : (at h : ℕ) (row : List Literal) → (nat_le 2 (length row) ≡ true → h ≡ at) → row_gates numbers h row ≡ row_gates numbers at row
    same_row at h row is = by (nat_le 2 (length row)) refl
      where
        by : (b : Bool) → nat_le 2 (length row) ≡ b → cond b (and_of h (map (at_net numbers) row)) [] ≡ cond b (and_of at (map (at_net numbers) row)) []
        by true wide = ap (λ n. and_of n (map (at_net numbers) row)) (is wide)
        by false off = refl

    same_literal : (at h : ℕ) (row : List Literal) → nat_eq (length row) 0 ≡ false → (nat_le 2 (length row) ≡ true → h ≡ at) → row_literal numbers h row ≡ row_literal numbers at row
    same_literal at h row some is = by (nat_eq (length row) 1) refl
      where
        by : (b : Bool) → nat_eq (length row) 1 ≡ b → cond b (at_net numbers (first_of row)) (is_one h) ≡ cond b (at_net numbers (first_of row)) (is_one at)
        by true one = refl
        by false off = ap is_one (is (grind arith))

    -- the numbers of the rows' variables
    abbrev pub AreRows : (ℕ → ℕ) → ℕ → List (List Literal) → Type 0
    AreRows h at rows = (r : ℕ) → r < length rows → nat_le 2 (length (slice_index_or rows r [])) ≡ true → h r ≡ at + wide (take r rows)

    first_row : (h : ℕ → ℕ) (at : ℕ) (row : List Literal) (rows : List (List Literal)) → AreRows h at (row ∷ rows) → nat_le 2 (length row) ≡ true → h 0 ≡ at
    first_row h at row rows are wide = omega (arith, are 0 (omega arith) wide)

    later_rows : (h : ℕ → ℕ) (at : ℕ) (row : List Literal) (rows : List (List Literal)) → AreRows h at (row ∷ rows) → AreRows (λ r. h (suc r)) (next_row at row) rows
    later_rows h at row rows are r inside is = are (suc r) (omega arith) is ∙ next_swap at (wide (take r rows)) row

    rows_are : (f : ℕ → List Literal → List (List Claim)) (h : ℕ → ℕ) (at : ℕ) (rows : List (List Literal))
        → ((r : ℕ) (row : List Literal) → Within row → map lits (f r row) ≡ row_gates numbers (h r) row)
        → All Within rows → AreRows h at rows → map lits (spread f rows) ≡ rows_gates numbers at rows
    rows_are f h at [] each within are = refl
    rows_are f h at (row ∷ rows) each within are =
        map-append lits (f 0 row) (spread (λ k. f (suc k)) rows)
        ∙ ap₂ (λ a b. a ++ b) (each 0 row (All-head Within row rows within) ∙ same_row at (h 0) row (first_row h at row rows are))
        (rows_are (λ k. f (suc k)) (λ k. h (suc k)) (next_row at row) rows (λ r. each (suc r)) (All-tail Within row rows within) (later_rows h at row rows are))

    claims_are : (f : ℕ → List Literal → Claim) (h : ℕ → ℕ) (at : ℕ) (rows : List (List Literal))
        → ((r : ℕ) (row : List Literal) → Within row → lit (f r row) ≡ row_literal numbers (h r) row)
        → All Within rows → list_any (λ row. nat_eq (length row) 0) rows ≡ false → AreRows h at rows
        → map lit (spread (λ r row. f r row ∷ []) rows) ≡ row_literals numbers at rows
    claims_are f h at [] each within some are = refl
    claims_are f h at (row ∷ rows) each within some are =
        let both = or_parts (nat_eq (length row) 0) (list_any (λ row. nat_eq (length row) 0) rows) some in
        ap₂ (λ a as_. a ∷ as_) (each 0 row (All-head Within row rows within) ∙ same_literal at (h 0) row both.0 (first_row h at row rows are))
        (claims_are (λ k. f (suc k)) (λ k. h (suc k)) (next_row at row) rows (λ r. each (suc r)) (All-tail Within row rows within) both.1 (later_rows h at row rows are))

    some_row_is : (at : ℕ) (matched : Claim) (rows : List (List Literal)) → All Within rows → AreRows (λ r. num (Row copy j r)) at rows
        → map lits (some_row_clauses copy inputs j matched rows) ≡ some_row numbers at (lit matched) rows
    some_row_is at matched rows within are = by (list_any (λ row. nat_eq (length row) 0) rows) refl
      where
        by : (b : Bool) → list_any (λ row. nat_eq (length row) 0) rows ≡ b
            → map lits (cond b ((matched ∷ []) ∷ []) (or_clauses matched (spread (λ r row. row_claim copy inputs j r row ∷ []) rows)))
            ≡ cond b ((lit matched ∷ []) ∷ []) (or_of (lit matched) (row_literals numbers at rows))
        by true nothing = refl
        by false some =
            or_is matched (spread (λ r row. row_claim copy inputs j r row ∷ []) rows)
            ∙ ap (or_of (lit matched)) (claims_are (row_claim copy inputs j) (λ r. num (Row copy j r)) at rows claim_is within some are)

    pub cover_is : (at : ℕ) (out : Variable) (n : NodeOf) → All Within (rows_of n) → AreRows (λ r. num (Row copy j r)) at (rows_of n)
        → map lits (cover_clauses copy inputs out j n) ≡ cover_gates numbers at (literal (num out) n.cover.on) (rows_of n)
    cover_is at out n within are =
        map-append lits (spread (row_clauses copy inputs j) (rows_of n)) (some_row_clauses copy inputs j (record { variable = out; wants = n.cover.on }) (rows_of n))
        ∙ ap₂ (λ a b. a ++ b) (rows_are (row_clauses copy inputs j) (λ r. num (Row copy j r)) at (rows_of n) row_is within are)
        (some_row_is at (record { variable = out; wants = n.cover.on }) (rows_of n) within are)
