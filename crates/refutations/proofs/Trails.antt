-- Trails: one variable less to undo, and a trail that is undone.
use Rattle.std.proofs.Common.{◌≡◌, ℕ, zero, suc, ◌+◌, ◌<◌, ◌≤◌, ◌⊎◌, Bool, List, [], ◌∷◌, length, slice_index_or, slice_set, replicate, Option, Some, None, refl, sym, ap, ◌∙◌, subst, arith, inl, inr}
use Rattle.std.proofs.lemmas.Bool.{cases_eq}
use Rattle.std.proofs.lemmas.List.{length-set}
use Rattle.std.proofs.Math.Logic.{⊎_elim}
use Rattle.refutations.specs.Known.{IsTrailed}

-- what is read after a write was there before, or was written
pub read_after_write : (known : List (Option Bool)) (k j : ℕ) (x : Option Bool) (bit : Bool) → slice_index_or (slice_set known k x) j None ≡ Some bit →
    (slice_index_or known j None ≡ Some bit) ⊎ ((j ≡ k) × (x ≡ Some bit))
read_after_write [] k j x bit e = inl e
read_after_write (y ∷ ys) zero zero x bit e = inr (refl, e)
read_after_write (y ∷ ys) zero (suc j) x bit e = inl e
read_after_write (y ∷ ys) (suc k) zero x bit e = inl e
read_after_write (y ∷ ys) (suc k) (suc j) x bit e = ⊎_elim (λ p. inl p) (λ q. inr (ap suc q.0, q.1)) (read_after_write ys k j x bit e)

-- a variable at which nothing was written is not known
read_of_none : (known : List (Option Bool)) (k : ℕ) (bit : Bool) → k < length known → slice_index_or (slice_set known k None) k None ≡ Some bit → ⊥
read_of_none [] k bit inside e = absurd (omega arith)
read_of_none (y ∷ ys) zero bit inside e = absurd (cc)
read_of_none (y ∷ ys) (suc k) bit inside e = read_of_none ys k bit (omega arith) e

-- once the next variable of the trail is forgotten, the rest is left to undo
pub undone_one : (i variable : ℕ) (values : List (Option Bool)) (trail : List ℕ) → IsTrailed i values trail → i < length trail → slice_index_or trail i 0 ≡ variable →
    IsTrailed (i + 1) (slice_set values variable None) trail
undone_one i variable values trail trailed inside is = record {
  within = λ k d below. let there = trailed.within k d below in omega (arith, length-set values variable None);
  noted = λ k bit e. ⊎_elim
      (λ before. let found = trailed.noted k bit before in
      ⊎_elim (λ (here : i ≡ found.0). absurd (gone k bit (sym (ap (λ (n : ℕ). slice_index_or trail n 0) here ∙ found.3) ∙ is) e))
      (λ (other : i ≡ found.0 → ⊥). let later = found.1 in (found.0, omega arith, found.2, found.3)) (cases_eq i found.0))
      (λ written. absurd (cc (written.1))) (read_after_write values variable k None bit e);
}
  where
    stands : variable < length values
    stands = subst (λ (v : ℕ). v < length values) is (trailed.within i 0 inside)

    gone : (k : ℕ) (bit : Bool) → k ≡ variable → slice_index_or (slice_set values variable None) k None ≡ Some bit → ⊥
    gone k bit same e = read_of_none values variable bit stands (subst (λ (j : ℕ). slice_index_or (slice_set values variable None) j None ≡ Some bit) same e)

-- so many variables of which nothing is known
abbrev pub blanks : ℕ → List (Option Bool)
blanks n = replicate n None

-- where nothing is known of any variable, the list is blank
blank : (values : List (Option Bool)) → ((k : ℕ) (bit : Bool) → slice_index_or values k None ≡ Some bit → ⊥) → values ≡ replicate (length values) None
blank [] nothing = refl
blank (None ∷ values) nothing = ap (λ (vs : List (Option Bool)). None ∷ vs) (blank values (λ k bit e. nothing (suc k) bit e))
blank (Some bit ∷ values) nothing = absurd (nothing 0 bit refl)

-- a trail that is undone leaves a blank list
pub all_undone : (i : ℕ) (values : List (Option Bool)) (trail : List ℕ) → IsTrailed i values trail → length trail ≤ i → values ≡ replicate (length values) None
all_undone i values trail trailed done = blank values (λ k bit e. let found = trailed.noted k bit e in let from = found.1 in let below = found.2 in absurd (omega arith))

-- a list of which nothing is known has an empty trail
pub trailed_blank : (i : ℕ) (values : List (Option Bool)) (trail : List ℕ) → IsTrailed i values trail → length trail ≤ i → IsTrailed 0 values []
trailed_blank i values trail trailed done = record {
  within = λ k d below. absurd (omega arith);
  noted = λ k bit e. let found = trailed.noted k bit e in let from = found.1 in let below = found.2 in absurd (omega arith);
}
