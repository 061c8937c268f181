-- Lists of indexes that differ, with one index more at the end or without it.
use Rattle.std.proofs.Common.{◌≡◌, ℕ, ◌<◌, true, false, ◌||◌, List, [], ◌∷◌, ◌++◌, length, get_or, ◌∙◌, ap, arith, length-append}
use Rattle.std.proofs.Math.Bool.{or-false}
use Rattle.std.proofs.lemmas.Grind.{common_steps}
use Rattle.std.proofs.lemmas.Bool.{eqb-true}
use Rattle.std.proofs.lemmas.Cmp.{nat_eq_equiv}
use Rattle.std.proofs.lemmas.List.Folds.{list_any-append, list_any_none}
use Rattle.std.proofs.lemmas.Map.Keys.{IsDistinct-push, IsDistinct-from_apart, apart_from_distinct}
use Rattle.std.proofs.lemmas.Map.Steps.{length-le_from_distinct_below}
use Rattle.std.specs.Prelude.{nat_eq}
use Rattle.std.specs.List.{IsDistinct}
use Rattle.tsc_pool.specs.Pool.{is_listed}

-- an index in a list with one index more at its end
pub is_listed-push : (indexes : List ℕ) (last index : ℕ) → is_listed (indexes ++ last ∷ []) index ≡ (is_listed indexes index || nat_eq index last)
is_listed-push indexes last index = list_any-append (nat_eq index) indexes (last ∷ []) ∙ ap (λ b. is_listed indexes index || b) (or-false _)

-- what stands before the last stands there without it, too
get_or-before : (indexes : List ℕ) (last k d : ℕ) → k < length indexes → get_or (indexes ++ last ∷ []) k d ≡ get_or indexes k d
get_or-before indexes last k d below = grind (arith, common_steps)

get_or-last : (indexes : List ℕ) (last d : ℕ) → get_or (indexes ++ last ∷ []) (length indexes) d ≡ last
get_or-last indexes last d = grind (arith, common_steps)

-- indexes that differ still do without the last
pub once_without_last : (indexes : List ℕ) (last : ℕ) → IsDistinct nat_eq (indexes ++ last ∷ []) → IsDistinct nat_eq indexes
once_without_last indexes last once = IsDistinct-from_apart nat_eq indexes (λ i j d before inside.
    rw (← get_or-before indexes last i d (omega arith), ← get_or-before indexes last j d inside)
    (apart_from_distinct nat_eq (indexes ++ last ∷ []) i j d once before (omega (arith, length-append indexes (last ∷ [])))))

-- the last of indexes that differ doesn't stand among those before it
pub last_not_listed : (indexes : List ℕ) (last : ℕ) → IsDistinct nat_eq (indexes ++ last ∷ []) → is_listed indexes last ≡ false
last_not_listed indexes last once = list_any_none (nat_eq last) indexes (λ k d inside.
    let apart = apart_from_distinct nat_eq (indexes ++ last ∷ []) k (length indexes) d once inside (omega (arith, length-append indexes (last ∷ []))) in
    nat_eq_equiv.symm last (get_or indexes k d) ∙ rw (get_or-before indexes last k d inside, get_or-last indexes last d) at apart)

-- indexes that differ still do with one more that isn't among them
pub once_with_last : (indexes : List ℕ) (last : ℕ) → IsDistinct nat_eq indexes → is_listed indexes last ≡ false → IsDistinct nat_eq (indexes ++ last ∷ [])
once_with_last indexes last once absent = IsDistinct-push nat_eq_equiv indexes last once absent

-- each index of a list with one more is below a number where those of the list and that one are
pub below_with_last : (indexes : List ℕ) (last rows : ℕ) → ((index : ℕ) → is_listed indexes index ≡ true → index < rows) → last < rows → (index : ℕ) → is_listed (indexes ++ last ∷ []) index ≡ true → index < rows
below_with_last indexes last rows inside below index listed =
    let parts = rw (is_listed-push indexes last index) at listed in
    grind (arith, common_steps, inside index, eqb-true index last)

-- indexes below a number that differ are fewer than it where one such number isn't among them
pub shorter_without : (indexes : List ℕ) (rows index : ℕ) → IsDistinct nat_eq indexes → ((q : ℕ) → is_listed indexes q ≡ true → q < rows) → index < rows → is_listed indexes index ≡ false → length indexes < rows
shorter_without indexes rows index once inside below absent =
    omega (
      arith,
      length-append indexes (index ∷ []),
      length-le_from_distinct_below (indexes ++ index ∷ []) rows (once_with_last indexes index once absent) (below_with_last indexes index rows inside below),
    )
