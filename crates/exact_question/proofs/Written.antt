-- What is written of literals says the same, and a meaning of the variables is a model of the numbered clauses.
use Rattle.std.proofs.Common.{◌≡◌, ℕ, Bool, true, false, not, cond, ◌&&◌, ◌||◌, List, [], ◌∷◌, map, filter, nat_eq, slice_index_or, All, Contains, refl, sym, ap, ap₂, ◌∙◌}
use Rattle.std.specs.List.{list_any, list_all}
use Rattle.std.proofs.lemmas.Bool.{eqb-true, and_parts, or_parts, or_from, false≢true}
use Rattle.std.proofs.lemmas.List.Elements.{All-nil, All-cons, All-head, All-tail}
use Rattle.refutations.specs.declared.literal.Literal.{Literal}
use Rattle.refutations.specs.Clauses.{same, literal_true, clause_true, IsModel}
use Rattle.exact_question.specs.Variables.{Variable, Unheard}
use Rattle.exact_question.specs.Rows.{literal, is_literal, once, clashes, written}
use Rattle.exact_question.specs.Gates.{Claim, some_holds, numbered}
use Rattle.exact_question.proofs.Numbers.{at_number}

same_is : (a b : Bool) → same a b ≡ true → a ≡ b
same_is true true is = refl
same_is true false is = absurd (false≢true is)
same_is false true is = absurd (false≢true is)
same_is false false is = refl

-- ---- each literal once

module _ (v : ℕ → Bool) where
  -- the same literal is as true
  as_true : (l m : Literal) → is_literal l m ≡ true → literal_true v l ≡ literal_true v m
  as_true l m is =
      let both = and_parts (nat_eq l.variable m.variable) (same l.wants m.wants) is in
      ap₂ (λ n b. same (v n) b) (eqb-true l.variable m.variable both.0) (same_is l.wants m.wants both.1)

  -- without a literal that is false, a clause is as true
  without_false : (l : Literal) (ms : List Literal) → literal_true v l ≡ false → clause_true v (filter (λ m. not (is_literal l m)) ms) ≡ clause_true v ms
  without_false l [] is = refl
  without_false l (m ∷ ms) is = by (is_literal l m) refl (without_false l ms is)
    where
      by : (b : Bool) → is_literal l m ≡ b → clause_true v (filter (λ m. not (is_literal l m)) ms) ≡ clause_true v ms
          → clause_true v (cond (not b) (m ∷ filter (λ m. not (is_literal l m)) ms) (filter (λ m. not (is_literal l m)) ms)) ≡ (literal_true v m || clause_true v ms)
      by true e rest = rest ∙ ap (λ b. b || clause_true v ms) (sym is ∙ as_true l m e)
      by false e rest = ap (λ b. literal_true v m || b) rest

  -- a clause is as true with each literal once
  pub once_true : (ls : List Literal) → clause_true v (once ls) ≡ clause_true v ls
  once_true [] = refl
  once_true (l ∷ ls) = by (once_true ls) (literal_true v l) refl
    where
      by : clause_true v (once ls) ≡ clause_true v ls → (b : Bool) → literal_true v l ≡ b → (literal_true v l || clause_true v (filter (λ m. not (is_literal l m)) (once ls))) ≡ (literal_true v l || clause_true v ls)
      by rest true is = rw is refl
      by rest false is = ap (λ b. literal_true v l || b) (without_false l (once ls) is ∙ rest)

  -- ---- literals that clash

  not_among : (l : Literal) (ms : List Literal) → literal_true v l ≡ true → clause_true v ms ≡ false → list_any (λ m. is_literal l m) ms ≡ false
  not_among l [] is none = refl
  not_among l (m ∷ ms) is none =
      let both = or_parts (literal_true v m) (clause_true v ms) none in
      or_from (is_literal l m) (list_any (λ m. is_literal l m) ms) (by (is_literal l m) refl both.0) (not_among l ms is both.1)
    where
      by : (b : Bool) → is_literal l m ≡ b → literal_true v m ≡ false → b ≡ false
      by true e off = absurd (false≢true (sym off ∙ sym (as_true l m e) ∙ is))
      by false e off = refl

  negation : (a b : Bool) → same a b ≡ false → same a (not b) ≡ true
  negation true true off = absurd (false≢true (sym off))
  negation true false off = refl
  negation false true off = refl
  negation false false off = absurd (false≢true (sym off))

  no_clash : (all ls : List Literal) → clause_true v all ≡ false → clause_true v ls ≡ false
      → list_any (λ l. list_any (λ m. is_literal (literal l.variable (not l.wants)) m) all) ls ≡ false
  no_clash all [] none rest = refl
  no_clash all (l ∷ ls) none rest =
      let both = or_parts (literal_true v l) (clause_true v ls) rest in
      or_from (list_any (λ m. is_literal (literal l.variable (not l.wants)) m) all) _
      (not_among (literal l.variable (not l.wants)) all (negation (v l.variable) l.wants both.0) none) (no_clash all ls none both.1)

  -- a clause with a literal and its negation is true
  pub clash_true : (ls : List Literal) → clashes ls ≡ true → clause_true v ls ≡ true
  clash_true ls clash = by (clause_true v ls) refl
    where
      by : (b : Bool) → clause_true v ls ≡ b → b ≡ true
      by true is = refl
      by false is = absurd (false≢true (sym (no_clash ls ls is is) ∙ clash))

  -- what makes all clauses true makes them true as they are written
  pub model_written : (cs : List (List Literal)) → IsModel v cs → IsModel v (written cs)
  model_written [] model = All-nil (λ c. clause_true v c ≡ true)
  model_written (c ∷ cs) model = by (model_written cs (All-tail (λ c. clause_true v c ≡ true) c cs model)) (clashes c)
    where
      by : IsModel v (written cs) → (b : Bool) → IsModel v (map once (cond (not b) (c ∷ filter (λ ls. not (clashes ls)) cs) (filter (λ ls. not (clashes ls)) cs)))
      by rest true = rest
      by rest false = All-cons (λ c. clause_true v c ≡ true) (once c) (written cs) (once_true c ∙ All-head (λ c. clause_true v c ≡ true) c cs model) rest

  -- ---- literals of which all are true

  swapped : (a b : Bool) → same a b ≡ not (same (not a) b)
  swapped true true = refl
  swapped true false = refl
  swapped false true = refl
  swapped false false = refl

  both_not : (a b : Bool) → (not a && not b) ≡ not (a || b)
  both_not true b = refl
  both_not false b = refl

  -- all literals are true exactly where none is under the other bits
  all_is_none : (ls : List Literal) → list_all (literal_true v) ls ≡ not (clause_true (λ n. not (v n)) ls)
  all_is_none [] = refl
  all_is_none (l ∷ ls) =
      ap₂ (λ a b. a && b) (swapped (v l.variable) l.wants) (all_is_none ls) ∙ both_not (same (not (v l.variable)) l.wants) (clause_true (λ n. not (v n)) ls)

module _ (v : ℕ → Bool) where
  -- all are true, each literal once
  pub once_all : (ls : List Literal) → list_all (literal_true v) (once ls) ≡ list_all (literal_true v) ls
  once_all ls = all_is_none v (once ls) ∙ ap not (once_true (λ n. not (v n)) ls) ∙ sym (all_is_none v ls)

  -- and not all are, where a literal and its negation stand among them
  pub clash_not_all : (ls : List Literal) → clashes ls ≡ true → list_all (literal_true v) ls ≡ false
  clash_not_all ls clash = all_is_none v ls ∙ ap not (clash_true (λ n. not (v n)) ls clash)

-- ---- from meanings to models

-- a clause of variables in the list, one of whose claims holds
pub record IsGood (vs : List Variable) (meaning : Variable → Bool) (clause : List Claim) : Type 0 where
  pub known : All (λ c. Contains vs c.variable) clause
  pub true_ : some_holds meaning clause ≡ true

module _ (vs : List Variable) (meaning : Variable → Bool) where
  -- the assignment that gives each number the bit of its variable
  abbrev pub assignment : ℕ → Bool
  assignment n = meaning (slice_index_or vs n Unheard)

  as_numbered : (clause : List Claim) → All (λ c. Contains vs c.variable) clause → clause_true assignment (numbered vs clause) ≡ some_holds meaning clause
  as_numbered [] known = refl
  as_numbered (c ∷ cs) known =
      ap₂ (λ b rest. same (meaning b) c.wants || rest) (at_number c.variable vs Unheard (All-head (λ c. Contains vs c.variable) c cs known))
      (as_numbered cs (All-tail (λ c. Contains vs c.variable) c cs known))

  all_numbered : (cs : List (List Claim)) → All (IsGood vs meaning) cs → IsModel assignment (map (numbered vs) cs)
  all_numbered [] good = All-nil (λ c. clause_true assignment c ≡ true)
  all_numbered (c ∷ cs) good =
      let first = All-head (IsGood vs meaning) c cs good in
      All-cons (λ c. clause_true assignment c ≡ true) (numbered vs c) (map (numbered vs) cs) (as_numbered c first.known ∙ first.true_)
      (all_numbered cs (All-tail (IsGood vs meaning) c cs good))

  -- where all clauses are good, the numbered ones have a model
  pub good_is_model : (cs : List (List Claim)) → All (IsGood vs meaning) cs → IsModel assignment (written (map (numbered vs) cs))
  good_is_model cs good = model_written assignment (map (numbered vs) cs) (all_numbered cs good)
