-- The map of the rows that are out, entry by entry.
use Rattle.std.proofs.Common.{◌≡◌, ◌≢◌, ℕ, zero, suc, Bool, true, false, not, ◌&&◌, cond, List, refl, sym, ◌∙◌, ap, arith}
use Rattle.std.specs.Prelude.{nat_eq, nat_lt, Option, Some, None}
use Rattle.std.specs.Ordering.{nat_cmp, eq_by_cmp}
use Rattle.std.specs.FinMap as map
use Rattle.std.specs.FinMap.{get-empty, get-insert, get-remove, same_map, nat_cmp-IsAntisymmetric}
use Rattle.std.proofs.lemmas.Cmp.{nat_cmp_total}
use Rattle.std.proofs.lemmas.Bool.Decides.{nat_tests}
use Rattle.std.proofs.lemmas.Grind.{common_steps}
use Rattle.std.proofs.lemmas.Bool.{cases_eq, eq-eqb, ne_eqb}
use Rattle.std.proofs.Math.Logic.{⊎_elim}
use Rattle.tsc_pool.specs.Pool.{PoolState, is_listed, is_out, IsOut, words_of, with_entry, rows_below, rows_out, KeepsWords}

-- the order of numbers tells apart what `==` does
eq_by_cmp-nat : (q index : ℕ) → eq_by_cmp nat_cmp q index ≡ nat_eq q index
eq_by_cmp-nat q index = grind (arith, nat_tests)

get-with_entry : (free : Bool) (entries : map.FinMap nat_cmp (List ℕ)) (index : ℕ) (words : List ℕ) (q : ℕ) →
    map.get (with_entry free entries index words) q ≡ cond (not free && nat_eq q index) (Some words) (map.get entries q)
get-with_entry true entries index words q = refl
get-with_entry false entries index words q = get-insert nat_cmp_total entries index words q ∙ ap (λ b. cond b (Some words) (map.get entries q)) (eq_by_cmp-nat q index)

-- one number more to look below
out_below : (listed : ℕ → Bool) (index q : ℕ) (A : Type 0) (f : ℕ → A) (none : A) →
    cond (not (listed index) && nat_eq q index) (f index) (cond (nat_lt q index && not (listed q)) (f q) none) ≡ cond (nat_lt q (suc index) && not (listed q)) (f q) none
out_below listed index q A f none = grind (arith, nat_tests, common_steps)

pub get-rows_below : (pool : PoolState) (count q : ℕ) → map.get (rows_below pool count) q ≡ cond (nat_lt q count && not (is_listed pool.free q)) (Some (words_of pool q)) None
unfolding rows_below
get-rows_below pool zero q = get-empty nat_cmp q ∙ grind (arith, nat_tests, common_steps)
get-rows_below pool (suc index) q =
    get-with_entry (is_listed pool.free index) (rows_below pool index) index (words_of pool index) q
    ∙ ap (cond (not (is_listed pool.free index) && nat_eq q index) (Some (words_of pool index))) (get-rows_below pool index q)
    ∙ out_below (is_listed pool.free) index q (Option (List ℕ)) (λ k. Some (words_of pool k)) None

-- what the map of the rows that are out has at an index
pub get-rows_out : (pool : PoolState) (q : ℕ) → map.get (rows_out pool) q ≡ cond (is_out pool q) (Some (words_of pool q)) None
get-rows_out pool q = get-rows_below pool pool.rows q

-- the row itself, and a row apart from it, in a map where one entry is set or is gone
at_the_row : {A : Type 0} (out same : Bool) (here there none other : A) → out ≡ true → same ≡ true → here ≡ there → cond out here none ≡ cond same there other
at_the_row out same here there none other is_there is_same e = ap (λ b. cond b here none) is_there ∙ e ∙ ap (λ b. cond b there other) (sym is_same)

at_no_row : {A : Type 0} (out same : Bool) (here none other : A) → out ≡ false → same ≡ true → cond out here none ≡ cond same none other
at_no_row out same here none other is_gone is_same = ap (λ b. cond b here none) is_gone ∙ ap (λ b. cond b none other) (sym is_same)

beside_the_row : (old new : PoolState) (q : ℕ) (same : Bool) (entry : Option (List ℕ)) → is_out new q ≡ is_out old q → words_of new q ≡ words_of old q → same ≡ false →
    cond (is_out new q) (Some (words_of new q)) None ≡ cond same entry (map.get (rows_out old) q)
beside_the_row old new q same entry same_out same_words is_apart =
    ap (λ b. cond b (Some (words_of new q)) None) same_out
    ∙ ap (λ w. cond (is_out old q) (Some w) None) same_words
    ∙ sym (get-rows_out old q)
    ∙ ap (λ b. cond b entry (map.get (rows_out old) q)) (sym is_apart)

-- where one row is set and each other row stays, one entry of the map is set
pub rows_out-set : (old new : PoolState) (row : ℕ) (words : List ℕ) → IsOut new row → words_of new row ≡ words →
    ((q : ℕ) → q ≢ row → is_out new q ≡ is_out old q) → ((q : ℕ) → q ≢ row → words_of new q ≡ words_of old q) →
    rows_out new ≡ map.insert (rows_out old) row words
rows_out-set old new row words out written same_out same_words = same_map nat_cmp_total nat_cmp-IsAntisymmetric _ _ (λ q.
    get-rows_out new q
    ∙ ⊎_elim
    (λ is. at_the_row _ _ (Some (words_of new q)) (Some words) None (map.get (rows_out old) q)
    (ap (is_out new) is ∙ out) (eq-eqb q row is) (ap (λ k. Some (words_of new k)) is ∙ ap (λ w. Some w) written))
    (λ apart. beside_the_row old new q _ (Some words) (same_out q apart) (same_words q apart) (ne_eqb q row apart))
    (cases_eq q row)
    ∙ ap (λ b. cond b (Some words) (map.get (rows_out old) q)) (sym (eq_by_cmp-nat q row))
    ∙ sym (get-insert nat_cmp_total (rows_out old) row words q))

-- where one row is out no longer and each other row stays, one entry of the map is gone
pub rows_out-unset : (old new : PoolState) (row : ℕ) → is_out new row ≡ false →
    ((q : ℕ) → q ≢ row → is_out new q ≡ is_out old q) → ((q : ℕ) → q ≢ row → words_of new q ≡ words_of old q) →
    rows_out new ≡ map.remove (rows_out old) row
rows_out-unset old new row gone same_out same_words = same_map nat_cmp_total nat_cmp-IsAntisymmetric _ _ (λ q.
    get-rows_out new q
    ∙ ⊎_elim
    (λ is. at_no_row _ _ (Some (words_of new q)) None (map.get (rows_out old) q) (ap (is_out new) is ∙ gone) (eq-eqb q row is))
    (λ apart. beside_the_row old new q _ None (same_out q apart) (same_words q apart) (ne_eqb q row apart))
    (cases_eq q row)
    ∙ ap (λ b. cond b None (map.get (rows_out old) q)) (sym (eq_by_cmp-nat q row))
    ∙ sym (get-remove nat_cmp_total (rows_out old) row q))

-- where the words stay, each row's do
pub words_of-kept : (old new : PoolState) (q : ℕ) → KeepsWords old new → words_of new q ≡ words_of old q
words_of-kept old new q kept = rw (kept.width, kept.block) refl
