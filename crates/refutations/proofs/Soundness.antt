-- An addition that is followed is implied, and so each clause of a checker is implied by the formula that it was given.
use Rattle.std.proofs.Common.{◌≡◌, ℕ, zero, suc, ◌<◌, Bool, true, false, not, ◌&&◌, ◌||◌, List, [], ◌∷◌, ◌++◌, length, nat_eq, if◌then◌else◌, replicate, slice_index_or, slice_set, Option, Some, None, All, OnOk, Result, Ok, Err, refl, sym, ap, ◌∙◌, subst, arith}
use Rattle.std.proofs.lemmas.Bool.{eqb-true}
use Rattle.std.proofs.lemmas.List.Elements.{All-append, All-cons, All-nil}
use Rattle.std.proofs.Math.Logic.{⊎_elim}
use Rattle.refutations.specs.declared.literal.Literal.{Literal}
use Rattle.refutations.specs.declared.reduction.Reduction.{Reduction}
use Rattle.refutations.specs.declared.reduction.Reduction.TheVariants.{False, Forces, Open, True}
use Rattle.refutations.specs.declared.answer.Answer.TheVariants.{Followed}
use Rattle.refutations.specs.Clauses.{same, literal_true, clause_true, IsModel, Implies, HaveNoModel}
use Rattle.refutations.specs.Steps.{Numbered, clause_at, worth, known_of, second, joined, reduced, with_literal, with_false, goes_on, after_hint, follows}
use Rattle.refutations.specs.Store.{without}
use Rattle.refutations.specs.Checking.{CheckerState, empty_checker, AreWithin, ForcesWithin, HoldWithin, step, with_clause, IsSound}
use Rattle.refutations.proofs.Trails.{read_after_write}

-- what is known is so in an assignment
pub record Agrees (v : ℕ → Bool) (known : List (Option Bool)) : Type 0 where
  pub at : (k : ℕ) (bit : Bool) → slice_index_or known k None ≡ Some bit → v k ≡ bit

-- what is left of a clause is true: a literal that is forced, or anything that is open
abbrev meaning : (ℕ → Bool) → Reduction → Bool
meaning v False = false
meaning v (Forces l) = literal_true v l
meaning v Open = true
meaning v True = true

-- bits that are the same are equal
same_bits : (a b : Bool) → same a b ≡ true → a ≡ b
same_bits true true is = refl
same_bits true false is = absurd (cc)
same_bits false true is = absurd (cc)
same_bits false false is = refl

-- and those that aren't differ
other_bits : (a b : Bool) → same a b ≡ false → a ≡ not b
other_bits true true is = absurd (cc)
other_bits true false is = refl
other_bits false true is = refl
other_bits false false is = absurd (cc)

-- both are true
both : (a b : Bool) → (a && b) ≡ true → (a ≡ true) × (b ≡ true)
both true true is = (refl, refl)
both true false is = absurd (cc)
both false b is = absurd (cc)

-- neither is true
neither : (a b : Bool) → (a || b) ≡ false → (a ≡ false) × (b ≡ false)
neither true b is = absurd (cc)
neither false b is = (refl, is)

-- the same literal has the same truth
same_truth : (v : ℕ → Bool) (m l : Literal) → (nat_eq m.variable l.variable && same m.wants l.wants) ≡ true → literal_true v m ≡ literal_true v l
same_truth v m l is =
    let parts = both (nat_eq m.variable l.variable) (same m.wants l.wants) is in
    let variable = eqb-true m.variable l.variable parts.0 in let wants = same_bits m.wants l.wants parts.1 in
    ap (λ (n : ℕ). same (v n) m.wants) variable ∙ ap (λ (b : Bool). same (v l.variable) b) wants

-- two literals leave one where they are the same
second_keeps : (v : ℕ → Bool) (m l : Literal) (rest : Bool) → (literal_true v m || (literal_true v l || rest)) ≡ true → (meaning v (second m l) || rest) ≡ true
second_keeps v m l rest holds = cases (nat_eq m.variable l.variable && same m.wants l.wants) (λ is. same_truth v m l is)
  where
    twice : (a b r : Bool) → a ≡ b → (a || (b || r)) ≡ true → (a || r) ≡ true
    twice true b r is h = refl
    twice false true r is h = absurd (cc)
    twice false false r is h = h

    cases : (b : Bool) → (b ≡ true → literal_true v m ≡ literal_true v l) → (meaning v (if b then Forces m else Open) || rest) ≡ true
    cases true is = twice (literal_true v m) (literal_true v l) rest (is refl) holds
    cases false is = refl

-- one more literal
joined_keeps : (v : ℕ → Bool) (found : Reduction) (is : Option Bool) (l : Literal) (rest : Bool) → ((bit : Bool) → is ≡ Some bit → literal_true v l ≡ bit) →
    (meaning v found || (literal_true v l || rest)) ≡ true → (meaning v (joined found is l) || rest) ≡ true
joined_keeps v False None l rest fits holds = holds
joined_keeps v (Forces m) None l rest fits holds = second_keeps v m l rest holds
joined_keeps v Open None l rest fits holds = refl
joined_keeps v True None l rest fits holds = refl
joined_keeps v found (Some true) l rest fits holds = refl
joined_keeps v found (Some false) l rest fits holds = passed (meaning v found) (literal_true v l) rest (fits false refl) holds
  where
    passed : (a b r : Bool) → b ≡ false → (a || (b || r)) ≡ true → (a || r) ≡ true
    passed true b r is h = refl
    passed false true r is h = absurd (cc)
    passed false false r is h = h

-- what is known of a literal is so
known_is_so : (v : ℕ → Bool) (known : List (Option Bool)) (l : Literal) → Agrees v known → (bit : Bool) → known_of known l ≡ Some bit → literal_true v l ≡ bit
known_is_so v known l agrees = cases (slice_index_or known l.variable None) (λ bit is. agrees.at l.variable bit is)
  where
    cases : (o : Option Bool) → ((bit : Bool) → o ≡ Some bit → v l.variable ≡ bit) → (bit : Bool) → worth o l.wants ≡ Some bit → literal_true v l ≡ bit
    cases None is bit e = absurd (cc)
    cases (Some b) is bit e = let value = is b refl in let answer : same b l.wants ≡ bit = cc in ap (λ (c : Bool). same c l.wants) value ∙ answer

-- what is left of a clause that is true is true
reduced_keeps : (v : ℕ → Bool) (known : List (Option Bool)) (found : Reduction) (ls : List Literal) → Agrees v known → (meaning v found || clause_true v ls) ≡ true →
    meaning v (reduced known found ls) ≡ true
reduced_keeps v known found [] agrees holds = only (meaning v found) holds
  where
    only : (a : Bool) → (a || false) ≡ true → a ≡ true
    only true h = refl
    only false h = h
reduced_keeps v known found (l ∷ ls) agrees holds =
    reduced_keeps v known (joined found (known_of known l) l) ls agrees (joined_keeps v found (known_of known l) l (clause_true v ls) (known_is_so v known l agrees) holds)

-- what is written agrees where it is so
agrees_write : (v : ℕ → Bool) (known : List (Option Bool)) (k : ℕ) (bit : Bool) → Agrees v known → v k ≡ bit → Agrees v (slice_set known k (Some bit))
agrees_write v known k bit agrees is = record {
  at = λ j b e. ⊎_elim (λ before. agrees.at j b before) (λ written. let here = written.0 in let value = written.1 in ap v here ∙ (is ∙ (let equal : bit ≡ b = cc in equal)))
      (read_after_write known k j (Some bit) b e);
}

-- an assignment where a clause is false agrees with that it is false
agrees_false : (v : ℕ → Bool) (known : List (Option Bool)) (ls : List Literal) → Agrees v known → clause_true v ls ≡ false → Agrees v (with_false known ls)
agrees_false v known [] agrees is = agrees
agrees_false v known (l ∷ ls) agrees is =
    let parts = neither (literal_true v l) (clause_true v ls) is in
    agrees_false v (slice_set known l.variable (Some (not l.wants))) ls (agrees_write v known l.variable (not l.wants) agrees (other_bits (v l.variable) l.wants parts.0)) parts.1

-- of a blank list nothing is known
never_known : (n k : ℕ) (bit : Bool) → slice_index_or (replicate n None) k None ≡ Some bit → ⊥
never_known zero k bit e = cc
never_known (suc n) zero bit e = cc
never_known (suc n) (suc k) bit e = never_known n k bit e

-- with nothing known each assignment agrees
agrees_blank : (v : ℕ → Bool) (n : ℕ) → Agrees v (replicate n None)
agrees_blank v n = record { at = λ k bit e. absurd (never_known n k bit e) }

-- what holds of each clause holds of one that is found
pub clause_at_all : (P : List Literal → Type 0) (cs : List Numbered) (number : ℕ) (ls : List Literal) → All (λ c. P c.literals) cs → clause_at cs number ≡ Some ls → P ls
clause_at_all P [] number ls all is = absurd (cc)
clause_at_all P (c ∷ cs) number ls all is =
    cases (nat_eq c.number number) is (clause_at_all P cs number ls (λ k d below. all (suc k) d (omega arith)))
  where
    first : P c.literals
    first = all 0 c (omega arith)

    cases : (b : Bool) → (if b then Some c.literals else clause_at cs number) ≡ Some ls → (clause_at cs number ≡ Some ls → P ls) → P ls
    cases true e later = subst P (let equal : c.literals ≡ ls = cc in equal) first
    cases false e later = later e

-- hints that are followed can't be where all clauses are true
follows_is_false : (v : ℕ → Bool) (cs : List Numbered) (known : List (Option Bool)) (hints : List ℕ) → All (λ c. clause_true v c.literals ≡ true) cs → Agrees v known →
    follows cs known hints ≡ Followed → ⊥
follows_is_false v cs known [] all agrees e = cc
follows_is_false v cs known (hint ∷ hints) all agrees e =
    at_hint (λ k so f. follows_is_false v cs k hints all so f) (clause_at cs hint) (λ ls is. clause_at_all (λ c. clause_true v c ≡ true) cs hint ls all is) e
  where
    left : ((k : List (Option Bool)) → Agrees v k → follows cs k hints ≡ Followed → ⊥) → (r : Reduction) → meaning v r ≡ true → goes_on (λ k. follows cs k hints) known r ≡ Followed → ⊥
    left next False holds f = cc
    left next (Forces l) holds f = next (with_literal known l) (agrees_write v known l.variable l.wants agrees (same_bits (v l.variable) l.wants holds)) f
    left next Open holds f = cc
    left next True holds f = next known agrees f

    at_hint : ((k : List (Option Bool)) → Agrees v k → follows cs k hints ≡ Followed → ⊥) → (o : Option (List Literal)) → ((ls : List Literal) → o ≡ Some ls → clause_true v ls ≡ true) →
        after_hint (λ k. follows cs k hints) known o ≡ Followed → ⊥
    at_hint next None is f = cc
    at_hint next (Some ls) is f = left next (reduced known False ls) (reduced_keeps v known False ls agrees (is ls refl)) f

-- a clause is true in a model of the formula, where its step is followed
true_in_model : (formula : List (List Literal)) (state : CheckerState) (ls : List Literal) (hints : List ℕ) → IsSound formula state → step state ls hints ≡ Followed →
    (v : ℕ → Bool) → IsModel v formula → clause_true v ls ≡ true
true_in_model formula state ls hints sound followed v model = cases (clause_true v ls) refl
  where
    cases : (b : Bool) → clause_true v ls ≡ b → clause_true v ls ≡ true
    cases true is = is
    cases false is = absurd (follows_is_false v state.clauses (with_false (replicate state.variables None) ls) hints (λ k d below. sound.implied k d below v model)
        (agrees_false v (replicate state.variables None) ls (agrees_blank v state.variables) is) followed)

-- a step that is followed adds a clause that is implied
pub followed_is_implied : (formula : List (List Literal)) (state : CheckerState) (ls : List Literal) (hints : List ℕ) → IsSound formula state → step state ls hints ≡ Followed → Implies formula ls
followed_is_implied formula state ls hints sound followed = λ v model. true_in_model formula state ls hints sound followed v model

-- the empty clause has no model
empty_has_no_model : (formula : List (List Literal)) (ls : List Literal) → Implies formula ls → nat_eq (length ls) 0 ≡ true → HaveNoModel formula
empty_has_no_model formula [] implied none = λ v model. let no : false ≡ true = implied v model in cc
empty_has_no_model formula (l ∷ ls) implied none = λ v model. let no = eqb-true (length (l ∷ ls)) 0 none in absurd (omega arith)

-- a checker stays sound with a clause that is implied
pub sound_with : (formula : List (List Literal)) (state : CheckerState) (number : ℕ) (ls : List Literal) → IsSound formula state → Implies formula ls → IsSound formula (with_clause state number ls)
sound_with formula state number ls sound implied = record {
  implied = All-append (λ (c : Numbered). Implies formula c.literals) state.clauses (record { number = number; literals = ls } ∷ []) sound.implied
      (All-cons (λ (c : Numbered). Implies formula c.literals) (record { number = number; literals = ls }) [] implied (All-nil (λ (c : Numbered). Implies formula c.literals)));
  refuted = cases state.refuted (λ is. sound.refuted is);
}
  where
    cases : (b : Bool) → (b ≡ true → HaveNoModel formula) → (b || nat_eq (length ls) 0) ≡ true → HaveNoModel formula
    cases true before is = before refl
    cases false before is = empty_has_no_model formula ls implied is

-- what holds of all clauses holds of the first ones, and of the last
models_first : (P : List Literal → Type 0) (formula : List (List Literal)) (ls : List Literal) → All P (formula ++ ls ∷ []) → All P formula
models_first P [] ls all = All-nil P
models_first P (c ∷ formula) ls all = All-cons P c formula (all 0 c (omega arith)) (models_first P formula ls (λ j e inside. all (suc j) e (omega arith)))

models_last : (P : List Literal → Type 0) (formula : List (List Literal)) (ls : List Literal) → All P (formula ++ ls ∷ []) → P ls
models_last P [] ls all = all 0 ls (omega arith)
models_last P (c ∷ formula) ls all = models_last P formula ls (λ j e inside. all (suc j) e (omega arith))

-- a checker is sound for a longer formula too
sound_longer : (formula : List (List Literal)) (ls : List Literal) (state : CheckerState) → IsSound formula state → IsSound (formula ++ ls ∷ []) state
sound_longer formula ls state sound = record {
  implied = λ k d below v model. sound.implied k d below v (models_first (λ c. clause_true v c ≡ true) formula ls model);
  refuted = λ is v model. sound.refuted is v (models_first (λ c. clause_true v c ≡ true) formula ls model);
}

-- a clause that is given belongs to the formula
pub sound_given : (formula : List (List Literal)) (state : CheckerState) (number : ℕ) (ls : List Literal) → IsSound formula state → IsSound (formula ++ ls ∷ []) (with_clause state number ls)
sound_given formula state number ls sound =
    sound_with (formula ++ ls ∷ []) state number ls (sound_longer formula ls state sound) (λ v model. models_last (λ c. clause_true v c ≡ true) formula ls model)

-- a checker without a clause is sound for each formula
pub sound_empty : (formula : List (List Literal)) (variables : ℕ) → IsSound formula (empty_checker variables)
sound_empty formula variables = record { implied = λ k d below. absurd (omega arith); refuted = λ is. absurd (cc) }

-- what holds of each clause holds of those that are left
pub All-without : (P : List Literal → Type 0) (cs : List Numbered) (number : ℕ) → All (λ c. P c.literals) cs → All (λ c. P c.literals) (without cs number)
All-without P [] number all = all
All-without P (c ∷ cs) number all = cases (nat_eq c.number number) (All-without P cs number (λ k d below. all (suc k) d (omega arith)))
  where
    first : P c.literals
    first = all 0 c (omega arith)

    cases : (b : Bool) → All (λ c. P c.literals) (without cs number) → All (λ c. P c.literals) (if b then without cs number else (c ∷ without cs number))
    cases true rest = rest
    cases false rest = All-cons (λ (d : Numbered). P d.literals) c (without cs number) first rest

-- a checker stays sound without a clause
pub sound_without : (formula : List (List Literal)) (state : CheckerState) (number : ℕ) → IsSound formula state → IsSound formula (record state { clauses = without state.clauses number })
sound_without formula state number sound = record { implied = All-without (λ c. Implies formula c) state.clauses number sound.implied; refuted = sound.refuted }

-- a literal that a clause within forces is within
pub forced_within : (n : ℕ) (known : List (Option Bool)) (found : Reduction) (ls : List Literal) → ForcesWithin n found → AreWithin n ls → ForcesWithin n (reduced known found ls)
forced_within n known found [] so within = so
forced_within n known found (l ∷ ls) so within =
    forced_within n known (joined found (known_of known l) l) ls (one found (known_of known l) so) (λ k d below. within (suc k) d (omega arith))
  where
    here : l.variable < n
    here = within 0 l (omega arith)

    two : (m : Literal) (b : Bool) → m.variable < n → ForcesWithin n (if b then Forces m else Open)
    two m true inside = inside
    two m false inside = tt

    one : (r : Reduction) (is : Option Bool) → ForcesWithin n r → ForcesWithin n (joined r is l)
    one False None inside = here
    one (Forces m) None inside = two m (nat_eq m.variable l.variable && same m.wants l.wants) inside
    one Open None inside = tt
    one True None inside = tt
    one r (Some true) inside = tt
    one r (Some false) inside = inside

-- a clause that is found is within where all are
pub found_within : (n : ℕ) (cs : List Numbered) (number : ℕ) (ls : List Literal) → HoldWithin n cs → clause_at cs number ≡ Some ls → AreWithin n ls
found_within n cs number ls all is = clause_at_all (λ c. AreWithin n c) cs number ls all is

-- a clause that was given, where there was memory for it
pub given_sound : {T E : Type 0} (r : Result T E) (old new : CheckerState) (number : ℕ) (ls : List Literal) → OnOk r (new ≡ with_clause old number ls) →
    OnOk r ((formula : List (List Literal)) → IsSound formula old → IsSound (formula ++ ls ∷ []) new)
given_sound (Ok u) old new number ls is = λ formula sound. subst (λ (s : CheckerState). IsSound (formula ++ ls ∷ []) s) (sym is) (sound_given formula old number ls sound)
given_sound (Err e) old new number ls is = tt

-- a clause that was added
pub added_sound : (formula : List (List Literal)) (old mid new : CheckerState) (number : ℕ) (ls : List Literal) (hints : List ℕ) → mid ≡ old → new ≡ with_clause mid number ls →
    step old ls hints ≡ Followed → IsSound formula old → IsSound formula new
added_sound formula old mid new number ls hints same is followed sound =
    let before : IsSound formula mid = subst (λ (s : CheckerState). IsSound formula s) (sym same) sound in
    subst (λ (s : CheckerState). IsSound formula s) (sym is) (sound_with formula mid number ls before (followed_is_implied formula old ls hints sound followed))

-- what contracts see of a checker
abbrev pub seen : ℕ → ℕ → List Numbered → Bool → CheckerState
seen variables last clauses refuted = record { variables = variables; last = last; clauses = clauses; refuted = refuted }

-- a clause that was deleted
pub deleted_sound : (formula : List (List Literal)) (old : CheckerState) (variables last last' number : ℕ) (cs cs' : List Numbered) (refuted : Bool) →
    seen variables last cs refuted ≡ old → cs' ≡ without cs number → IsSound formula old →
    IsSound formula (seen variables last' cs' refuted)
deleted_sound formula old variables last last' number cs cs' refuted view is sound =
    let before : IsSound formula (seen variables last cs refuted) = subst (λ (s : CheckerState). IsSound formula s) (sym view) sound in record {
      implied = subst (λ (xs : List Numbered). All (λ c. Implies formula c.literals) xs) (sym is) (All-without (λ c. Implies formula c) cs number before.implied);
      refuted = before.refuted;
    }
