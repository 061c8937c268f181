-- A pool whose rows are all free: it is whole, and no row of it is out.
use Rattle.std.proofs.Common.{◌≡◌, ℕ, zero, suc, ◌+◌, ◌*◌, ◌<◌, ◌≤◌, false, ◌||◌, cond, [], ◌∷◌, ◌++◌, length, sym, ◌∙◌, ap, arith, add-one, zero-add}
use Rattle.std.specs.Prelude.{nat_eq, nat_lt, Some, None}
use Rattle.std.specs.Ordering.{nat_cmp}
use Rattle.std.specs.List.{IsDistinct, range_with_len}
use Rattle.std.specs.FinMap as map
use Rattle.std.specs.FinMap.{get-empty, same_map, nat_cmp-IsAntisymmetric}
use Rattle.std.proofs.lemmas.Cmp.{nat_cmp_total}
use Rattle.std.proofs.lemmas.Bool.{ltb-true, ne_eqb}
use Rattle.std.proofs.lemmas.Bool.Decides.{nat_tests}
use Rattle.std.proofs.lemmas.Grind.{common_steps}
use Rattle.std.proofs.lemmas.List.FromFn.{length-range_with_len, get_or-range_with_len}
use Rattle.std.proofs.lemmas.Map.Keys.{IsDistinct-from_apart}
use Rattle.tsc_pool.specs.Pool.{PoolState, is_listed, is_out, words_of, rows_out, IsWhole}
use Rattle.tsc_pool.proofs.Indexes.{is_listed-push}
use Rattle.tsc_pool.proofs.Entries.{get-rows_out}

-- one number more
range-push_from : (a n : ℕ) → range_with_len a (suc n) ≡ range_with_len a n ++ (a + n) ∷ []
range-push_from a zero = ap (λ k. k ∷ []) (omega arith)
range-push_from a (suc n) = ap (λ l. a ∷ l) (range-push_from (a + 1) n ∙ ap (λ k. range_with_len (a + 1) n ++ k ∷ []) (omega arith))

pub range-push : (n : ℕ) → range_with_len 0 (n + 1) ≡ range_with_len 0 n ++ n ∷ []
range-push n = ap (range_with_len 0) (add-one n) ∙ range-push_from 0 n ∙ ap (λ k. range_with_len 0 n ++ k ∷ []) (zero-add n)

-- the indexes below a number are those below it
listed_below : (rows index : ℕ) → is_listed (range_with_len 0 rows) index ≡ nat_lt index rows
listed_below zero index = grind (arith, nat_tests)
listed_below (suc rows) index =
    ap (λ l. is_listed l index) (ap (range_with_len 0) (sym (add-one rows)) ∙ range-push rows)
    ∙ is_listed-push (range_with_len 0 rows) rows index
    ∙ ap (λ b. b || nat_eq index rows) (listed_below rows index)
    ∙ grind (arith, nat_tests, common_steps)

once_below : (rows : ℕ) → IsDistinct nat_eq (range_with_len 0 rows)
once_below rows = IsDistinct-from_apart nat_eq (range_with_len 0 rows) (λ i j d before inside.
    let below : j < rows = omega (arith, length-range_with_len 0 rows) in
    ne_eqb _ _ (λ same. omega (arith, same, get_or-range_with_len 0 rows i d (omega arith), get_or-range_with_len 0 rows j d below)))

-- a pool whose free indexes are all those below the number of its rows
module _ (pool : PoolState) (free : pool.free ≡ range_with_len 0 pool.rows) where
  pub IsWhole-all_free : length pool.block ≡ pool.rows * pool.width → pool.rows * pool.width ≤ 134217728 → IsWhole pool
  IsWhole-all_free filled small = record {
    filled = filled;
    small = small;
    inside = λ index listed. ltb-true index pool.rows (sym (listed_below pool.rows index) ∙ rw free at listed);
    once = rw free (once_below pool.rows);
  }

  pub none_is_out : (index : ℕ) → is_out pool index ≡ false
  none_is_out index = let e = ap (λ l. is_listed l index) free ∙ listed_below pool.rows index in rw e (grind (arith, nat_tests, common_steps))

  pub rows_out-all_free : rows_out pool ≡ map.empty
  rows_out-all_free = same_map nat_cmp_total nat_cmp-IsAntisymmetric _ _ (λ q.
      get-rows_out pool q ∙ ap (λ b. cond b (Some (words_of pool q)) None) (none_is_out q) ∙ sym (get-empty nat_cmp q))
