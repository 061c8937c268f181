-- How many rows are out: all rows except the free ones, and as many entries has the map of the rows that are out.
use Rattle.std.proofs.Common.{◌≡◌, ℕ, zero, suc, ◌+◌, ◌<◌, Bool, true, false, ◌||◌, cond, List, [], ◌∷◌, length, refl, ◌∙◌, ap, arith}
use Rattle.std.specs.Prelude.{nat_eq, nat_lt, is_some, None}
use Rattle.std.specs.List.{IsDistinct, AllByRecursion}
use Rattle.std.specs.FinMap as map
use Rattle.std.specs.FinMap.{len-empty, len-insert}
use Rattle.std.specs.Ordering.{nat_cmp}
use Rattle.std.proofs.lemmas.Cmp.{nat_cmp_total}
use Rattle.std.proofs.lemmas.Bool.{or_from, eq-eqb, lt-ltb}
use Rattle.std.proofs.lemmas.Bool.Decides.{nat_tests}
use Rattle.std.proofs.lemmas.Grind.{common_steps}
use Rattle.std.proofs.lemmas.Map.Keys.{IsDistinct-head, IsDistinct-tail}
use Rattle.tsc_pool.specs.Pool.{PoolState, is_listed, words_of, with_entry, rows_below, rows_out, IsWhole}
use Rattle.tsc_pool.proofs.Entries.{get-rows_below}

-- how many of the numbers below a bound are listed
abbrev count_listed : List ℕ → ℕ → ℕ
count_listed indexes zero = 0
count_listed indexes (suc bound) = cond (is_listed indexes bound) 1 0 + count_listed indexes bound

count_listed-none : (bound : ℕ) → count_listed [] bound ≡ 0
count_listed-none zero = refl
count_listed-none (suc bound) = omega (arith, count_listed-none bound)

one_step : (bound index : ℕ) (listed : Bool) (more fewer : ℕ) → (bound ≡ index → listed ≡ false) → more ≡ cond (nat_lt index bound) 1 0 + fewer →
    cond (nat_eq bound index || listed) 1 0 + more ≡ cond (nat_lt index (suc bound)) 1 0 + (cond listed 1 0 + fewer)
one_step bound index listed more fewer absent before = grind (arith, nat_tests, common_steps)

-- one index more counts where it is below the bound
count_listed-one_more : (index : ℕ) (indexes : List ℕ) (bound : ℕ) → is_listed indexes index ≡ false →
    count_listed (index ∷ indexes) bound ≡ cond (nat_lt index bound) 1 0 + count_listed indexes bound
count_listed-one_more index indexes zero absent = grind (arith, nat_tests)
count_listed-one_more index indexes (suc bound) absent =
    one_step bound index (is_listed indexes bound) _ _ (λ e. ap (is_listed indexes) e ∙ absent) (count_listed-one_more index indexes bound absent)

absent_from_head : (index : ℕ) (indexes : List ℕ) → AllByRecursion (λ y. nat_eq index y ≡ false) indexes → is_listed indexes index ≡ false
absent_from_head index [] apart = refl
absent_from_head index (x ∷ xs) apart = or_from _ _ apart.0 (absent_from_head index xs apart.1)

-- of indexes below a bound that differ each is counted once
count_listed-length : (indexes : List ℕ) (bound : ℕ) → IsDistinct nat_eq indexes → ((q : ℕ) → is_listed indexes q ≡ true → q < bound) → count_listed indexes bound ≡ length indexes
count_listed-length [] bound once inside = count_listed-none bound
count_listed-length (index ∷ indexes) bound once inside =
    let below : index < bound = inside index (ap (λ b. b || is_listed indexes index) (eq-eqb index index refl)) in
    let rest = count_listed-length indexes bound (IsDistinct-tail nat_eq index indexes once) (λ q listed. inside q (or_true (nat_eq q index) (is_listed indexes q) listed)) in
    let more = count_listed-one_more index indexes bound (absent_from_head index indexes (IsDistinct-head nat_eq index indexes once)) in
    let is_below = lt-ltb index bound below in
    let counted = rw is_below at more in
    omega (arith, counted, rest)
  where
    or_true : (a b : Bool) → b ≡ true → (a || b) ≡ true
    or_true a b e = grind (arith, common_steps)

with_entry-len : (free : Bool) (entries : map.FinMap nat_cmp (List ℕ)) (index : ℕ) (words : List ℕ) → map.get entries index ≡ None →
    cond free 1 0 + map.len (with_entry free entries index words) ≡ 1 + map.len entries
with_entry-len true entries index words absent = refl
with_entry-len false entries index words absent =
    let there = ap is_some absent in
    let e = rw there at (len-insert nat_cmp_total entries index words) in
    omega (arith, e)

len-rows_below : (pool : PoolState) (bound : ℕ) → map.len (rows_below pool bound) + count_listed pool.free bound ≡ bound
unfolding rows_below
len-rows_below pool zero = omega (arith, len-empty nat_cmp (List ℕ))
len-rows_below pool (suc index) =
    omega (
      arith,
      len-rows_below pool index,
      with_entry-len (is_listed pool.free index) (rows_below pool index) index (words_of pool index) (get-rows_below pool index index ∙ grind (arith, nat_tests, common_steps)),
    )

-- the rows that are out and the free ones are all rows
pub len-rows_out : (pool : PoolState) → IsWhole pool → length pool.free + map.len (rows_out pool) ≡ pool.rows
len-rows_out pool whole = omega (arith, len-rows_below pool pool.rows, count_listed-length pool.free pool.rows whole.once whole.inside)
