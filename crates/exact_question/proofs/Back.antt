-- What a model of clauses says of gates: each variable has the gate's bit.
use Rattle.std.proofs.Common.{◌≡◌, ℕ, zero, suc, ◌<◌, Bool, true, false, not, cond, ◌&&◌, ◌||◌, if◌then◌else◌, List, [], ◌∷◌, map, filter, length, slice_index_or, All, refl, sym, ap, ap₂, ◌∙◌, arith}
use Rattle.std.specs.List.{list_any, list_all}
use Rattle.std.proofs.lemmas.Bool.{and_from, or_from, false≢true}
use Rattle.std.proofs.lemmas.List.Elements.{All-nil, All-cons, All-head, All-tail, All-get_or}
use Rattle.tsc_bits.specs.Counting.{differ}
use Rattle.tsc_bits.proofs.Lists.{all_left, all_right}
use Rattle.tsc_bits.proofs.Bools.{and-true, or-false}
use Rattle.tsc_cover.specs.Cover.{truth, some_row_matches}
use Rattle.fault_secure.specs.Circuit.{NodeOf}
use Rattle.refutations.specs.declared.literal.Literal.{Literal}
use Rattle.refutations.specs.Clauses.{same, literal_true, clause_true, IsModel}
use Rattle.exact_question.specs.Variables.{Copy, Variable, Row, number_of, spread}
use Rattle.exact_question.specs.Rows.{once, clashes, written, rows_of}
use Rattle.exact_question.specs.Gates.{Claim, yes, no, negated, holds, some_holds, and_clauses, or_clauses, xor_clauses, numbered}
use Rattle.exact_question.specs.Question.{of_net, claim_of, row_claim, row_clauses, some_row_clauses, cover_clauses}
use Rattle.exact_question.proofs.Written.{once_true, clash_true}
use Rattle.exact_question.proofs.Gates.{negated_holds, same_true}
use Rattle.exact_question.proofs.Rows.{any_row, rows_within}
use Rattle.exact_question.proofs.Covers.{row_at, is_empty, some_empty, none_empty, claim_holds, all_hold, some_row}

-- ---- from models to meanings

-- a model of clauses as they are written is one of them all
pub model_back : (v : ℕ → Bool) (cs : List (List Literal)) → IsModel v (written cs) → IsModel v cs
model_back v [] model = All-nil (λ c. clause_true v c ≡ true)
model_back v (c ∷ cs) model = by (λ rest. model_back v cs rest) (clashes c) refl model
  where
    by : (IsModel v (written cs) → IsModel v cs) → (b : Bool) → clashes c ≡ b
        → IsModel v (map once (cond (not b) (c ∷ filter (λ ls. not (clashes ls)) cs) (filter (λ ls. not (clashes ls)) cs))) → IsModel v (c ∷ cs)
    by back true e all = All-cons (λ c. clause_true v c ≡ true) c cs (clash_true v c e) (back all)
    by back false e all =
        All-cons (λ c. clause_true v c ≡ true) c cs (sym (once_true v c) ∙ All-head (λ c. clause_true v c ≡ true) (once c) (written cs) all)
        (back (All-tail (λ c. clause_true v c ≡ true) (once c) (written cs) all))

module _ (v : ℕ → Bool) (vs : List Variable) where
  -- the meaning that a model gives a variable
  abbrev pub given : Variable → Bool
  given x = v (number_of x vs)

  as_given : (c : List Claim) → clause_true v (numbered vs c) ≡ some_holds given c
  as_given [] = refl
  as_given (k ∷ c) = ap (λ b. holds given k || b) (as_given c)

  all_given : (cs : List (List Claim)) → IsModel v (map (numbered vs) cs) → All (λ c. some_holds given c ≡ true) cs
  all_given [] model = All-nil (λ c. some_holds given c ≡ true)
  all_given (c ∷ cs) model =
      All-cons (λ c. some_holds given c ≡ true) c cs
      (sym (as_given c) ∙ All-head (λ c. clause_true v c ≡ true) (numbered vs c) (map (numbered vs) cs) model)
      (all_given cs (All-tail (λ c. clause_true v c ≡ true) (numbered vs c) (map (numbered vs) cs) model))

  pub model_given : (cs : List (List Claim)) → IsModel v (written (map (numbered vs) cs)) → All (λ c. some_holds given c ≡ true) cs
  model_given cs model = all_given cs (model_back v (map (numbered vs) cs) model)

-- what holds of a spread list holds at each item
pub All-at_spread : {A B : Type 0} (P : B → Type 0) (f : ℕ → A → List B) (items : List A) (d : A) (k : ℕ) → k < length items → All P (spread f items)
    → All P (f k (slice_index_or items k d))
All-at_spread P f [] d k inside all = absurd (omega arith)
All-at_spread P f (a ∷ as_) d zero inside all = all_left P (f 0 a) (spread (λ i. f (suc i)) as_) all
All-at_spread P f (a ∷ as_) d (suc k) inside all = All-at_spread P (λ i. f (suc i)) as_ d k (omega arith) (all_right P (f 0 a) (spread (λ i. f (suc i)) as_) all)

-- ---- gates

xor_from : (n a b : Bool) → (same n false || (a || (b || false))) ≡ true → (same n false || (not a || (not b || false))) ≡ true
    → (same n true || (not a || (b || false))) ≡ true → (same n true || (a || (not b || false))) ≡ true → n ≡ differ a b
xor_from true true true e1 e2 e3 e4 = absurd (false≢true e2)
xor_from true true false e1 e2 e3 e4 = refl
xor_from true false true e1 e2 e3 e4 = refl
xor_from true false false e1 e2 e3 e4 = absurd (false≢true e1)
xor_from false true true e1 e2 e3 e4 = refl
xor_from false true false e1 e2 e3 e4 = absurd (false≢true e3)
xor_from false false true e1 e2 e3 e4 = absurd (false≢true e4)
xor_from false false false e1 e2 e3 e4 = refl

module _ (m : Variable → Bool) where
  abbrev pub AreTrue : List (List Claim) → Type 0
  AreTrue clauses = All (λ c. some_holds m c ≡ true) clauses

  not_holds : (c : Claim) → holds m (negated c) ≡ not (holds m c)
  not_holds c = negated_holds [] m c

  pub xor_back : (v : Variable) (a b : Claim) → AreTrue (xor_clauses v a b) → m v ≡ differ (holds m a) (holds m b)
  xor_back v a b all =
      xor_from (m v) (holds m a) (holds m b) (all 0 [] (omega arith))
      (sym (ap₂ (λ p q. same (m v) false || (p || (q || false))) (not_holds a) (not_holds b)) ∙ all 1 [] (omega arith))
      (sym (ap (λ p. same (m v) true || (p || (holds m b || false))) (not_holds a)) ∙ all 2 [] (omega arith))
      (sym (ap (λ q. same (m v) true || (holds m a || (q || false))) (not_holds b)) ∙ all 3 [] (omega arith))

  if_so : (n c : Bool) → n ≡ true → (same n false || (c || false)) ≡ true → c ≡ true
  if_so true c is e = sym (or-false c) ∙ e
  if_so false c is e = absurd (false≢true is)

  and_each : (v : Variable) (cs : List Claim) → m v ≡ true → AreTrue (map (λ c. no v ∷ c ∷ []) cs) → list_all (holds m) cs ≡ true
  and_each v [] is all = refl
  and_each v (c ∷ cs) is all =
      and_from (holds m c) (list_all (holds m) cs) (if_so (m v) (holds m c) is (all 0 [] (omega arith)))
      (and_each v cs is (All-tail (λ d. some_holds m d ≡ true) (no v ∷ c ∷ []) (map (λ c. no v ∷ c ∷ []) cs) all))

  some_not : (cs : List Claim) → some_holds m (map negated cs) ≡ true → list_all (holds m) cs ≡ false
  some_not [] e = absurd (false≢true e)
  some_not (c ∷ cs) e = by (λ k. some_not cs k) (holds m c) (holds m (negated c)) (not_holds c) e
    where
      by : (some_holds m (map negated cs) ≡ true → list_all (holds m) cs ≡ false) → (h n : Bool) → n ≡ not h
          → (n || some_holds m (map negated cs)) ≡ true → (h && list_all (holds m) cs) ≡ false
      by rest true n is k = rest (sym (ap (λ b. b || some_holds m (map negated cs)) is) ∙ k)
      by rest false n is k = refl

  pub and_back : (v : Variable) (cs : List Claim) → AreTrue (and_clauses v cs) → m v ≡ list_all (holds m) cs
  and_back v cs all = by (m v) refl
    where
      first : AreTrue (map (λ c. no v ∷ c ∷ []) cs)
      first = all_left (λ d. some_holds m d ≡ true) (map (λ c. no v ∷ c ∷ []) cs) ((yes v ∷ map negated cs) ∷ []) all

      last : (same (m v) true || some_holds m (map negated cs)) ≡ true
      last = (all_right (λ d. some_holds m d ≡ true) (map (λ c. no v ∷ c ∷ []) cs) ((yes v ∷ map negated cs) ∷ []) all) 0 [] (omega arith)

      by : (b : Bool) → m v ≡ b → b ≡ list_all (holds m) cs
      by true is = sym (and_each v cs is first)
      by false is = sym (some_not cs (sym (ap (λ b. same b true || some_holds m (map negated cs)) is) ∙ last))

  or_each : (out : Claim) (cs : List Claim) → holds m out ≡ false → AreTrue (map (λ c. out ∷ negated c ∷ []) cs) → some_holds m cs ≡ false
  or_each out [] is all = refl
  or_each out (c ∷ cs) is all =
      or_from (holds m c) (some_holds m cs) (by (holds m out) (holds m c) (holds m (negated c)) (not_holds c) is (all 0 [] (omega arith)))
      (or_each out cs is (All-tail (λ d. some_holds m d ≡ true) (out ∷ negated c ∷ []) (map (λ c. out ∷ negated c ∷ []) cs) all))
    where
      by : (o h n : Bool) → n ≡ not h → o ≡ false → (o || (n || false)) ≡ true → h ≡ false
      by true h n is off e = absurd (false≢true (sym off))
      by false true n is off e = absurd (false≢true (sym (ap (λ b. b || false) is) ∙ e))
      by false false n is off e = refl

  pub or_back : (out : Claim) (cs : List Claim) → AreTrue (or_clauses out cs) → holds m out ≡ some_holds m cs
  or_back out cs all = by (holds m out) refl
    where
      first : AreTrue (map (λ c. out ∷ negated c ∷ []) cs)
      first = all_left (λ d. some_holds m d ≡ true) (map (λ c. out ∷ negated c ∷ []) cs) ((negated out ∷ cs) ∷ []) all

      last : (holds m (negated out) || some_holds m cs) ≡ true
      last = (all_right (λ d. some_holds m d ≡ true) (map (λ c. out ∷ negated c ∷ []) cs) ((negated out ∷ cs) ∷ []) all) 0 [] (omega arith)

      by : (b : Bool) → holds m out ≡ b → b ≡ some_holds m cs
      by true is = sym (sym (ap (λ b. b || some_holds m cs) (not_holds out ∙ ap not is)) ∙ last)
      by false is = sym (or_each out cs is first)

-- ---- covers

back_to_truth : (out on some : Bool) → same out on ≡ some → out ≡ (if on then some else not some)
back_to_truth true true some e = e
back_to_truth false true some e = e
back_to_truth true false true e = absurd (false≢true e)
back_to_truth true false false e = refl
back_to_truth false false true e = refl
back_to_truth false false false e = absurd (false≢true (sym e))

module _ (m : Variable → Bool) (copy : Copy) (inputs count : ℕ) (v : ℕ → Bool) (means : (net : ℕ) → net < count → m (of_net copy inputs net) ≡ v net) where
  abbrev Within : Literal → Type 0
  Within l = l.variable < count

  row_back : (j r : ℕ) (row : List Literal) → All Within row → is_empty row ≡ false → AreTrue m (row_clauses copy inputs j r row)
      → holds m (row_claim copy inputs j r row) ≡ list_all (literal_true v) row
  row_back j r [] inside some all = absurd (false≢true (sym some))
  row_back j r (l ∷ []) inside some all = claim_holds m copy inputs count v means l (All-head Within l [] inside) ∙ sym (and-true (literal_true v l))
  row_back j r (l ∷ k ∷ ls) inside some all =
      same_true (m (Row copy j r)) ∙ and_back m (Row copy j r) (map (claim_of copy inputs) (l ∷ k ∷ ls)) all ∙ all_hold m copy inputs count v means (l ∷ k ∷ ls) inside

  some_row_back : (j : ℕ) (matched : Claim) (rows : List (List Literal)) → All (All Within) rows → AreTrue m (spread (row_clauses copy inputs j) rows)
      → AreTrue m (some_row_clauses copy inputs j matched rows) → holds m matched ≡ list_any (list_all (literal_true v)) rows
  some_row_back j matched rows inside each all = by (list_any is_empty rows) refl all
    where
      by : (b : Bool) → list_any is_empty rows ≡ b
          → AreTrue m (if b then (matched ∷ []) ∷ [] else or_clauses matched (spread (λ r row. row_claim copy inputs j r row ∷ []) rows))
          → holds m matched ≡ list_any (list_all (literal_true v)) rows
      by true e clauses = sym (or-false (holds m matched)) ∙ clauses 0 [] (omega arith) ∙ sym (some_empty v rows e)
      by false e clauses =
          or_back m matched (spread (λ r row. row_claim copy inputs j r row ∷ []) rows) clauses
          ∙ some_row m copy inputs count v means (λ r row. row_claim copy inputs j r row) rows
          (λ r below. row_back j r (row_at rows r) (All-get_or (All Within) rows r [] below inside) (none_empty rows r e below)
          (All-at_spread (λ c. some_holds m c ≡ true) (row_clauses copy inputs j) rows [] r below each))

  -- where the clauses of a cover are true, its variable is the cover's truth
  pub cover_back : (out : Variable) (j : ℕ) (n : NodeOf) → All (λ net. net < count) n.reads → AreTrue m (cover_clauses copy inputs out j n)
      → m out ≡ truth n.cover (map v n.reads)
  cover_back out j n reads all =
      let matched : Claim = record { variable = out; wants = n.cover.on } in
      back_to_truth (m out) n.cover.on (some_row_matches n.cover.rows (map v n.reads))
      (some_row_back j matched (rows_of n) (rows_within (λ net. net < count) n reads)
      (all_left (λ c. some_holds m c ≡ true) (spread (row_clauses copy inputs j) (rows_of n)) (some_row_clauses copy inputs j matched (rows_of n)) all)
      (all_right (λ c. some_holds m c ≡ true) (spread (row_clauses copy inputs j) (rows_of n)) (some_row_clauses copy inputs j matched (rows_of n)) all)
      ∙ any_row v n)
