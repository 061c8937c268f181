-- The clauses of a cover in a copy hold where its variables have the bits of the nets, and each row's variable tells whether the row matches.
use Rattle.std.proofs.Common.{◌≡◌, ℕ, suc, ◌<◌, Bool, true, false, ◌&&◌, ◌||◌, if◌then◌else◌, List, [], ◌∷◌, map, length, nat_eq, slice_index_or, All, Contains, refl, sym, ap, ap₂, ◌∙◌, arith}
use Rattle.std.specs.List.{list_any, list_all}
use Rattle.std.proofs.lemmas.Bool.{ne_eqb, or_right, or_left, false≢true}
use Rattle.std.proofs.lemmas.List.Elements.{All-nil, All-cons, All-head, All-tail, All-get_or}
use Rattle.std.proofs.lemmas.List.Folds.{list_any_at}
use Rattle.tsc_bits.proofs.Bools.{and-true}
use Rattle.tsc_cover.specs.Cover.{truth}
use Rattle.fault_secure.specs.Circuit.{NodeOf}
use Rattle.refutations.specs.declared.literal.Literal.{Literal}
use Rattle.refutations.specs.Clauses.{same, literal_true}
use Rattle.exact_question.specs.Variables.{Copy, Variable, Row, spread}
use Rattle.exact_question.specs.Rows.{rows_of}
use Rattle.exact_question.specs.Gates.{Claim, holds, some_holds, or_clauses}
use Rattle.exact_question.specs.Question.{of_net, claim_of, row_claim, row_variables, row_clauses, some_row_clauses, cover_clauses}
use Rattle.exact_question.proofs.Numbers.{All-spread}
use Rattle.exact_question.proofs.Gates.{Knows, Good, good_nil, good_cons, good_append, know_one, and_good, or_good, same_true}
use Rattle.exact_question.proofs.Written.{IsGood}
use Rattle.exact_question.proofs.Rows.{cover_rows, rows_within}

abbrev pub row_at : List (List Literal) → ℕ → List Literal
row_at rows r = slice_index_or rows r []

abbrev pub is_empty : List Literal → Bool
is_empty row = nat_eq (length row) 0

not_empty : (l : Literal) (ls : List Literal) → is_empty (l ∷ ls) ≡ false
not_empty l ls = ne_eqb (length (l ∷ ls)) 0 (λ e. omega arith)

-- where a row asks for nothing, some row has all that it asks for
pub some_empty : (v : ℕ → Bool) (rows : List (List Literal)) → list_any is_empty rows ≡ true → list_any (list_all (literal_true v)) rows ≡ true
some_empty v [] e = absurd (false≢true e)
some_empty v ([] ∷ rows) e = refl
some_empty v ((l ∷ ls) ∷ rows) e =
    or_right (list_all (literal_true v) (l ∷ ls)) (list_any (list_all (literal_true v)) rows)
    (some_empty v rows (sym (ap (λ b. b || list_any is_empty rows) (not_empty l ls)) ∙ e))

-- where no row is empty, the row at a place isn't
pub none_empty : (rows : List (List Literal)) (r : ℕ) → list_any is_empty rows ≡ false → r < length rows → is_empty (row_at rows r) ≡ false
none_empty rows r none inside = by (is_empty (row_at rows r)) refl
  where
    by : (b : Bool) → is_empty (row_at rows r) ≡ b → is_empty (row_at rows r) ≡ false
    by true is = absurd (false≢true (sym none ∙ list_any_at is_empty rows r [] inside is))
    by false is = is

module _ (m : Variable → Bool) (copy : Copy) (inputs count : ℕ) (v : ℕ → Bool) (means : (net : ℕ) → net < count → m (of_net copy inputs net) ≡ v net) where
  abbrev pub Within : Literal → Type 0
  Within l = l.variable < count

  pub claim_holds : (l : Literal) → Within l → holds m (claim_of copy inputs l) ≡ literal_true v l
  claim_holds l inside = ap (λ b. same b l.wants) (means l.variable inside)

  pub all_hold : (ls : List Literal) → All Within ls → list_all (holds m) (map (claim_of copy inputs) ls) ≡ list_all (literal_true v) ls
  all_hold [] inside = refl
  all_hold (l ∷ ls) inside = ap₂ (λ a b. a && b) (claim_holds l (All-head Within l ls inside)) (all_hold ls (All-tail Within l ls inside))

  pub row_holds : (j r : ℕ) (row : List Literal) → All Within row → m (Row copy j r) ≡ list_all (literal_true v) row
      → holds m (row_claim copy inputs j r row) ≡ list_all (literal_true v) row
  row_holds j r [] inside is = same_true (m (Row copy j r)) ∙ is
  row_holds j r (l ∷ []) inside is = claim_holds l (All-head Within l [] inside) ∙ sym (and-true (literal_true v l))
  row_holds j r (l ∷ k ∷ ls) inside is = same_true (m (Row copy j r)) ∙ is

  pub some_row : (f : ℕ → List Literal → Claim) (rows : List (List Literal))
      → ((r : ℕ) → r < length rows → holds m (f r (row_at rows r)) ≡ list_all (literal_true v) (row_at rows r))
      → some_holds m (spread (λ r row. f r row ∷ []) rows) ≡ list_any (list_all (literal_true v)) rows
  some_row f [] each = refl
  some_row f (row ∷ rows) each = ap₂ (λ a b. a || b) (each 0 (omega arith)) (some_row (λ r. f (suc r)) rows (λ r inside. each (suc r) (omega arith)))

module _ (vs : List Variable) (m : Variable → Bool) (copy : Copy) (inputs count : ℕ) (v : ℕ → Bool)
    (known : (net : ℕ) → net < count → Contains vs (of_net copy inputs net)) (means : (net : ℕ) → net < count → m (of_net copy inputs net) ≡ v net) where
  abbrev Inside : Literal → Type 0
  Inside l = l.variable < count

  all_known : (ls : List Literal) → All Inside ls → All (Knows vs m) (map (claim_of copy inputs) ls)
  all_known [] inside = All-nil (Knows vs m)
  all_known (l ∷ ls) inside =
      All-cons (Knows vs m) (claim_of copy inputs l) (map (claim_of copy inputs) ls) (known l.variable (All-head Inside l ls inside)) (all_known ls (All-tail Inside l ls inside))

  -- ---- one row

  row_good : (j r : ℕ) (row : List Literal) → All Inside row → All (Contains vs) (row_variables copy j r row) → m (Row copy j r) ≡ list_all (literal_true v) row
      → Good vs m (row_clauses copy inputs j r row)
  row_good j r [] inside own is = good_nil vs m
  row_good j r (l ∷ []) inside own is = good_nil vs m
  row_good j r (l ∷ k ∷ ls) inside own is =
      and_good vs m (Row copy j r) (map (claim_of copy inputs) (l ∷ k ∷ ls)) (All-head (Contains vs) (Row copy j r) [] own)
      (all_known (l ∷ k ∷ ls) inside) (is ∙ sym (all_hold m copy inputs count v means (l ∷ k ∷ ls) inside))

  row_known : (j r : ℕ) (row : List Literal) → All Inside row → All (Contains vs) (row_variables copy j r row) → is_empty row ≡ false
      → Knows vs m (row_claim copy inputs j r row)
  row_known j r [] inside own some = absurd (false≢true (sym some))
  row_known j r (l ∷ []) inside own some = known l.variable (All-head Inside l [] inside)
  row_known j r (l ∷ k ∷ ls) inside own some = All-head (Contains vs) (Row copy j r) [] own

  -- ---- all rows

  module _ (j : ℕ) (rows : List (List Literal)) (inside : All (All Inside) rows)
      (own : (r : ℕ) → r < length rows → All (Contains vs) (row_variables copy j r (row_at rows r)))
      (is : (r : ℕ) → r < length rows → m (Row copy j r) ≡ list_all (literal_true v) (row_at rows r)) where
    at : (r : ℕ) → r < length rows → All Inside (row_at rows r)
    at r below = All-get_or (All Inside) rows r [] below inside

    some_row_good : (matched : Claim) → Knows vs m matched → holds m matched ≡ list_any (list_all (literal_true v)) rows
        → Good vs m (some_row_clauses copy inputs j matched rows)
    some_row_good matched in_vs holds_so = by (list_any is_empty rows) refl
      where
        by : (b : Bool) → list_any is_empty rows ≡ b
            → Good vs m (if b then (matched ∷ []) ∷ [] else or_clauses matched (spread (λ r row. row_claim copy inputs j r row ∷ []) rows))
        by true e =
            good_cons vs m (matched ∷ []) [] (know_one vs m matched in_vs) (or_left (holds m matched) false (holds_so ∙ some_empty v rows e)) (good_nil vs m)
        by false e =
            or_good vs m matched (spread (λ r row. row_claim copy inputs j r row ∷ []) rows) in_vs
            (All-spread (Knows vs m) (λ r row. row_claim copy inputs j r row ∷ []) rows [] (λ r below.
            know_one vs m (row_claim copy inputs j r (row_at rows r)) (row_known j r (row_at rows r) (at r below) (own r below) (none_empty rows r e below))))
            (holds_so ∙ sym (some_row m copy inputs count v means (λ r row. row_claim copy inputs j r row) rows (λ r below. row_holds m copy inputs count v means j r (row_at rows r) (at r below) (is r below))))

    rows_good : Good vs m (spread (row_clauses copy inputs j) rows)
    rows_good = All-spread (IsGood vs m) (row_clauses copy inputs j) rows [] (λ r below. row_good j r (row_at rows r) (at r below) (own r below) (is r below))

  -- the clauses of a cover hold where its variable is the cover's truth
  pub cover_good : (out : Variable) (j : ℕ) (n : NodeOf) → Contains vs out → All (λ net. net < count) n.reads
      → ((r : ℕ) → r < length (rows_of n) → All (Contains vs) (row_variables copy j r (slice_index_or (rows_of n) r [])))
      → ((r : ℕ) → r < length (rows_of n) → m (Row copy j r) ≡ list_all (literal_true v) (slice_index_or (rows_of n) r []))
      → m out ≡ truth n.cover (map v n.reads) → Good vs m (cover_clauses copy inputs out j n)
  cover_good out j n in_vs reads own is gives =
      let inside : All (All Inside) (rows_of n) = rows_within (λ net. net < count) n reads in
      let matched : Claim = record { variable = out; wants = n.cover.on } in
      good_append vs m (spread (row_clauses copy inputs j) (rows_of n)) (some_row_clauses copy inputs j matched (rows_of n))
      (rows_good j (rows_of n) inside own is)
      (some_row_good j (rows_of n) inside own is matched in_vs (cover_rows v n (m out) gives))
