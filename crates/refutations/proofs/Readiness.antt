-- What a checker keeps between its calls, with one more clause and without one.
use Rattle.std.proofs.Common.{◌≡◌, ℕ, ◌<◌, Bool, true, false, ◌&&◌, List, [], ◌∷◌, ◌++◌, length, nat_lt, replicate, Option, None, refl, sym, ap, ◌∙◌, subst}
use Rattle.std.specs.List.{list_all}
use Rattle.std.proofs.lemmas.Bool.{ltb-true}
use Rattle.std.proofs.lemmas.List.{length-replicate}
use Rattle.std.proofs.lemmas.List.Elements.{All-append, All-cons, All-nil}
use Rattle.refutations.specs.declared.literal.Literal.{Literal}
use Rattle.refutations.specs.Steps.{Numbered}
use Rattle.refutations.specs.Store.{without}
use Rattle.refutations.specs.Checking.{AreWithin, HoldWithin, IsReady}
use Rattle.refutations.proofs.Soundness.{All-without, sound_with, followed_is_implied, sound_given, sound_empty, sound_without}

-- so many variables of which nothing is known
abbrev blanks : ℕ → List (Option Bool)
blanks n = replicate n None

-- a checker without a clause is ready
pub ready_empty : (known : List (Option Bool)) (variables : ℕ) → known ≡ replicate variables None → IsReady known []
ready_empty known variables is = record {
  blank = is ∙ ap blanks (sym (ap length is ∙ length-replicate variables None));
  within = All-nil (λ (c : Numbered). AreWithin (length known) c.literals);
}

-- with one more clause
pub ready_with : (known : List (Option Bool)) (old new : List Numbered) (number : ℕ) (literals : List Literal) → IsReady known old → AreWithin (length known) literals →
    new ≡ old ++ record { number = number; literals = literals } ∷ [] → IsReady known new
ready_with known old new number literals ready within is = record {
  blank = ready.blank;
  within = subst (λ (cs : List Numbered). HoldWithin (length known) cs) (sym is)
      (All-append (λ (c : Numbered). AreWithin (length known) c.literals) old (record { number = number; literals = literals } ∷ []) ready.within
      (All-cons (λ (c : Numbered). AreWithin (length known) c.literals) (record { number = number; literals = literals }) [] within (All-nil (λ (c : Numbered). AreWithin (length known) c.literals))));
}

-- without one
pub ready_without : (known : List (Option Bool)) (old new : List Numbered) (number : ℕ) → IsReady known old → new ≡ without old number → IsReady known new
ready_without known old new number ready is = record {
  blank = ready.blank;
  within = subst (λ (cs : List Numbered). HoldWithin (length known) cs) (sym is) (All-without (λ ls. AreWithin (length known) ls) old number ready.within);
}

-- and once all is forgotten
pub ready_again : (known mid new : List (Option Bool)) (clauses : List Numbered) → IsReady known clauses → length mid ≡ length known → new ≡ replicate (length mid) None → new ≡ known
ready_again known mid new clauses ready sized is = is ∙ (ap blanks sized ∙ sym ready.blank)

-- a test of all literals says that they are within
pub tested_within : (n : ℕ) (ls : List Literal) → list_all (λ l. nat_lt l.variable n) ls ≡ true → AreWithin n ls
tested_within n [] is = All-nil (λ (l : Literal). l.variable < n)
tested_within n (l ∷ ls) is = cases (nat_lt l.variable n) (λ h. ltb-true l.variable n h) (λ rest. tested_within n ls rest) is
  where
    cases : (b : Bool) → (b ≡ true → l.variable < n) → (list_all (λ m. nat_lt m.variable n) ls ≡ true → AreWithin n ls) → (b && list_all (λ m. nat_lt m.variable n) ls) ≡ true → AreWithin n (l ∷ ls)
    cases true here later rest = All-cons (λ (m : Literal). m.variable < n) l ls (here refl) (later rest)
    cases false here later rest = absurd (cc)

pub ruleset ready_rules = (ready_empty, ready_with, ready_without, ready_again)

pub ruleset sound_rules = (sound_with, followed_is_implied, sound_given, sound_empty, sound_without, tested_within)
