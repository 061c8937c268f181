-- Whoever holds the rows that are out, as one more is taken or given back.
use Rattle.std.proofs.Common.{◌≡◌, ◌≢◌, ℕ, ◌<◌, Bool, false, ◌||◌, List, [], ◌∷◌, ◌++◌, length, get_or, sym, ◌∙◌, ap, refl, arith, eq-eqb}
use Rattle.std.specs.Prelude.{nat_eq}
use Rattle.std.specs.List.{IsDistinct}
use Rattle.std.proofs.Math.Logic.{⊎_elim}
use Rattle.std.proofs.lemmas.Bool.{cases_eq, ne_eqb}
use Rattle.std.proofs.lemmas.List.{get_or_default}
use Rattle.std.proofs.lemmas.List.Folds.{list_any-from_Any}
use Rattle.std.proofs.lemmas.Grind.{common_steps}
use Rattle.tsc_pool.specs.Pool.{PoolState, is_listed, is_out, IsOut, AreThoseOut}
use Rattle.tsc_pool.proofs.Indexes.{is_listed-push, last_not_listed, once_with_last}

-- Whoever holds the rows that are out, and takes one more, holds those that are out then.
pub those_out_taken : (old new : PoolState) (row : ℕ) (held : List ℕ) → AreThoseOut old held → IsOut new row →
    ((other : ℕ) → other ≢ row → is_out new other ≡ is_out old other) → AreThoseOut new (held ++ row ∷ [])
those_out_taken old new row held those out others q = is_listed-push held row q ∙ ⊎_elim
    (λ is. let here = ap (is_out new) is ∙ out in let same = eq-eqb q row is in rw (here, same) (grind (arith, common_steps)))
    (λ apart. let there = those q ∙ sym (others q apart) in let differs = ne_eqb q row apart in rw (there, differs) (grind (arith, common_steps)))
    (cases_eq q row)

-- Of no rows no two are equal.
pub once_none : (held : List ℕ) → held ≡ [] → IsDistinct nat_eq held
unfolding IsDistinct
once_none held e = rw e tt

-- The row that is taken isn't among those held before, so held rows stay different.
pub once_taken : (old : PoolState) (row : ℕ) (held : List ℕ) → AreThoseOut old held → IsDistinct nat_eq held → is_out old row ≡ false → IsDistinct nat_eq (held ++ row ∷ [])
once_taken old row held those once fresh = once_with_last held row once (those row ∙ fresh)

-- Whoever holds the rows that are out, and gives the last of them back, holds those that are out then.
pub those_out_given : (old new : PoolState) (row : ℕ) (held : List ℕ) → AreThoseOut old (held ++ row ∷ []) → IsDistinct nat_eq (held ++ row ∷ []) → is_out new row ≡ false →
    ((other : ℕ) → other ≢ row → is_out new other ≡ is_out old other) → AreThoseOut new held
those_out_given old new row held those once spent others q = ⊎_elim
    (λ is. ap (is_listed held) is ∙ last_not_listed held row once ∙ sym spent ∙ ap (is_out new) (sym is))
    (λ apart. let listed = sym (is_listed-push held row q) ∙ those q ∙ sym (others q apart) in
    let differs = ne_eqb q row apart in let kept = rw differs at listed in sym (or_false (is_listed held q)) ∙ kept)
    (cases_eq q row)
  where
    or_false : (b : Bool) → (b || false) ≡ b
    or_false b = grind (arith, common_steps)

-- A row that is held is out.
pub out_where_held : (pool : PoolState) (held : List ℕ) (place : ℕ) → AreThoseOut pool held → place < length held → IsOut pool (get_or held place 0)
out_where_held pool held place those inside = sym (those (get_or held place 0))
    ∙ list_any-from_Any (nat_eq (get_or held place 0)) held (place, get_or held place 0, inside, get_or_default held place _ 0 inside, eq-eqb _ _ refl)
