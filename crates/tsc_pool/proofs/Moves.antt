-- What a write to a row, and a row more or less among the free ones, change of a pool.
use Rattle.std.proofs.Common.{◌≡◌, ◌≢◌, ℕ, ◌<◌, false, ◌||◌, [], ◌∷◌, ◌++◌, length, refl, sym, ◌∙◌, ap, arith}
use Rattle.std.specs.Prelude.{nat_eq}
use Rattle.std.specs.FinMap as map
use Rattle.std.proofs.lemmas.Bool.{ne_eqb}
use Rattle.std.proofs.lemmas.Grind.{common_steps}
use Rattle.std.proofs.lemmas.Bool.Decides.{nat_tests}
use Rattle.tsc_pool.specs.Pool.{PoolState, is_listed, is_out, IsOut, words_of, rows_out, with_words, KeepsWords, IsWhole}
use Rattle.tsc_pool.specs.Laws.{WritesInsert}
use Rattle.tsc_pool.proofs.Indexes.{is_listed-push, last_not_listed, once_without_last, once_with_last, below_with_last, shorter_without}
use Rattle.tsc_pool.proofs.Words.{WritesAreRead-out, WritesKeepOthers-out, row_of_out}
use Rattle.tsc_pool.proofs.Entries.{rows_out-set, rows_out-unset, words_of-kept}

-- a row that is out isn't free
pub not_free : (pool : PoolState) (row : ℕ) → IsOut pool row → is_listed pool.free row ≡ false
not_free pool row out = grind (arith, nat_tests, common_steps)

-- fewer rows are free than there are where one is out
pub free_below_rows : (pool : PoolState) (row : ℕ) → IsWhole pool → IsOut pool row → length pool.free < pool.rows
free_below_rows pool row whole out = shorter_without pool.free pool.rows row whole.once whole.inside (row_of_out pool row out) (not_free pool row out)

-- a write of a whole row sets one entry of the map of the rows that are out
pub WritesInsert-out : (pool : PoolState) (row : ℕ) → IsWhole pool → IsOut pool row → WritesInsert pool row
WritesInsert-out pool row whole out words sized =
    rows_out-set pool (with_words pool row words) row words out (WritesAreRead-out pool row whole out words sized) (λ q apart. refl)
    (λ q apart. WritesKeepOthers-out pool row whole out words q sized apart)

-- the pool that has one row more free differs from the other at that row alone
module _ (less more : PoolState) (row : ℕ) (kept : KeepsWords more less) (free : more.free ≡ less.free ++ row ∷ []) where
  more_listed : (q : ℕ) → is_listed more.free q ≡ (is_listed less.free q || nat_eq q row)
  more_listed q = ap (λ l. is_listed l q) free ∙ is_listed-push less.free row q

  pub others_stay : (q : ℕ) → q ≢ row → is_out less q ≡ is_out more q
  others_stay q apart = let e = more_listed q in let ne = ne_eqb q row apart in rw (e, ne, kept.rows) (grind (arith, common_steps))

  pub is_free_in_more : is_out more row ≡ false
  is_free_in_more = let e = more_listed row in rw e (grind (arith, nat_tests, common_steps))

  -- what is true of every pool is true without the row among the free ones
  pub IsWhole-less : IsWhole more → IsWhole less
  IsWhole-less whole = record {
    filled = rw (kept.block, kept.rows, kept.width) whole.filled;
    small = rw (kept.rows, kept.width) whole.small;
    inside = λ q listed. rw kept.rows (whole.inside q (more_listed q ∙ ap (λ b. b || nat_eq q row) listed));
    once = once_without_last less.free row (rw free at whole.once);
  }

  pub is_out_in_less : IsWhole more → IsOut less row
  is_out_in_less whole =
      let below : row < less.rows = rw kept.rows (whole.inside row (more_listed row ∙ grind (arith, nat_tests, common_steps))) in
      let absent = last_not_listed less.free row (rw free at whole.once) in
      grind (arith, nat_tests, common_steps)

  -- and with the row among them, where it was out
  pub IsWhole-more : IsWhole less → IsOut less row → IsWhole more
  IsWhole-more whole out = record {
    filled = rw (← kept.block, ← kept.rows, ← kept.width) whole.filled;
    small = rw (← kept.rows, ← kept.width) whole.small;
    inside = λ q listed. rw (← kept.rows) (below_with_last less.free row less.rows whole.inside (row_of_out less row out) q (rw free at listed));
    once = rw free (once_with_last less.free row whole.once (not_free less row out));
  }

  -- the map of the rows that are out gains an entry where the row is taken, and loses it where the row is given back
  pub rows_out-taken : IsWhole more → rows_out less ≡ map.insert (rows_out more) row (words_of less row)
  rows_out-taken whole = rows_out-set more less row (words_of less row) (is_out_in_less whole) refl others_stay (λ q apart. words_of-kept more less q kept)

  pub rows_out-given : rows_out more ≡ map.remove (rows_out less) row
  rows_out-given = rows_out-unset less more row is_free_in_more (λ q apart. sym (others_stay q apart)) (λ q apart. sym (words_of-kept more less q kept))
