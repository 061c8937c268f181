-- The words of rows within the block of a pool, and what words that are laid over them change.
use Rattle.std.proofs.Common.{◌≡◌, ◌≢◌, ℕ, ◌+◌, ◌-◌, ◌*◌, ◌<◌, ◌≤◌, List, ◌++◌, length, slice_range, take, drop, sym, ◌∙◌, ap, arith, refl}
use Rattle.std.proofs.lemmas.Grind.{common_steps, rows}
use Rattle.std.proofs.lemmas.Bool.{cases_lt}
use Rattle.std.proofs.Math.Logic.{⊎_elim}
use Rattle.std.proofs.lemmas.Slice.{between_is, take-put_mid_below, drop-put_mid}
use borrow.Rule.Slice.PartMut.{put_mid}
use Rattle.tsc_pool.specs.Pool.{PoolState, words_of, overlaid, IsWhole, IsOut}
use Rattle.tsc_pool.specs.Laws.{WritesAreRead, WritesKeepOthers}

-- a row that another one comes before begins where that one has ended, or later
pub rows_in_order : (width row other : ℕ) → row < other → row * width + width ≤ other * width
rows_in_order width row other before = grind (arith, rows)

-- words that fit stand where they were laid
pub overlaid-at : (block words : List ℕ) (start : ℕ) → start + length words ≤ length block → take (length words) (drop start (overlaid block start words)) ≡ words
overlaid-at block words start fits = grind (arith, common_steps)

-- where the words fit, nothing is cut off
overlaid-whole : (block words : List ℕ) (start : ℕ) → start + length words ≤ length block → overlaid block start words ≡ put_mid start (length words) block words
overlaid-whole block words start fits = grind (arith, common_steps)

-- a list's own way to lay words over a part of it
pub overlaid-refilled : (block words : List ℕ) (start count : ℕ) → count ≡ length block → start ≤ length block →
    take count ((take start block ++ (words ++ drop (length words) (drop start block))) ++ drop (length (take start block ++ (words ++ drop (length words) (drop start block)))) block) ≡ overlaid block start words
overlaid-refilled block words start count same fits = grind (arith, common_steps)

-- a part of a list ends where the list's front does
part_of_front : (xs : List ℕ) (from width : ℕ) → take width (drop from xs) ≡ drop from (take (from + width) xs)
part_of_front xs from width = let e : from + width - from ≡ width = omega arith in ap (λ n. take n (drop from xs)) (sym e) ∙ between_is xs from (from + width)

-- a part that ends before the words begin stays
pub overlaid-before : (block words : List ℕ) (start from width : ℕ) → from + width ≤ start → start + length words ≤ length block → take width (drop from (overlaid block start words)) ≡ take width (drop from block)
overlaid-before block words start from width before fits =
    ap (λ xs. take width (drop from xs)) (overlaid-whole block words start fits)
    ∙ part_of_front _ from width
    ∙ ap (drop from) (take-put_mid_below start (length words) block words (from + width) before (omega arith))
    ∙ sym (part_of_front block from width)

-- a part that begins where the words have ended stays
pub overlaid-behind : (block words : List ℕ) (start from width : ℕ) → start + length words ≤ from → start + length words ≤ length block → take width (drop from (overlaid block start words)) ≡ take width (drop from block)
overlaid-behind block words start from width behind fits =
    ap (λ xs. take width (drop from xs)) (overlaid-whole block words start fits)
    ∙ ap (take width) (drop-put_mid start (length words) block words from behind (omega arith) refl)

-- a row of the pool ends within the block
pub row_fits_block : (pool : PoolState) (row : ℕ) → IsWhole pool → row < pool.rows → row * pool.width + pool.width ≤ length pool.block
row_fits_block pool row whole inside = omega (arith, whole.filled, rows_in_order pool.width row pool.rows inside)

-- an index that is out is that of a row
pub row_of_out : (pool : PoolState) (row : ℕ) → IsOut pool row → row < pool.rows
row_of_out pool row out = grind (arith, common_steps)

-- the words of a row, as a slice from its first place to its last
pub words_in_slice : (pool : PoolState) (row : ℕ) → slice_range pool.block (row * pool.width) (row * pool.width + pool.width) ≡ words_of pool row
words_in_slice pool row = let e : row * pool.width + pool.width - row * pool.width ≡ pool.width = omega arith in ap (λ n. take n (drop (row * pool.width) pool.block)) e

-- a row that is out has as many words as the width says
pub length-words_of : (pool : PoolState) (row : ℕ) → IsWhole pool → IsOut pool row → length (words_of pool row) ≡ pool.width
length-words_of pool row whole out = let fits = row_fits_block pool row whole (row_of_out pool row out) in grind (arith, common_steps)

pub WritesAreRead-out : (pool : PoolState) (row : ℕ) → IsWhole pool → IsOut pool row → WritesAreRead pool row
WritesAreRead-out pool row whole out words sized =
    let fits : row * pool.width + length words ≤ length pool.block = omega (arith, row_fits_block pool row whole (row_of_out pool row out)) in
    ap (λ n. take n (drop (row * pool.width) (overlaid pool.block (row * pool.width) words))) (sym sized) ∙ overlaid-at pool.block words (row * pool.width) fits

-- rows of one width that lie apart: what is written to the one leaves the other
other_row_stays : (block words : List ℕ) (width row other : ℕ) → length words ≡ width → other ≢ row → row * width + length words ≤ length block →
    take width (drop (other * width) (overlaid block (row * width) words)) ≡ take width (drop (other * width) block)
other_row_stays block words width row other sized apart fits = ⊎_elim
    (λ before. overlaid-before block words (row * width) (other * width) width (rows_in_order width other row before) fits)
    (λ at_most. overlaid-behind block words (row * width) (other * width) width
    (let after : row < other = omega arith in omega (arith, rows_in_order width row other after)) fits)
    (cases_lt other row)

pub WritesKeepOthers-out : (pool : PoolState) (row : ℕ) → IsWhole pool → IsOut pool row → WritesKeepOthers pool row
WritesKeepOthers-out pool row whole out words other sized apart =
    other_row_stays pool.block words pool.width row other sized apart (omega (arith, row_fits_block pool row whole (row_of_out pool row out)))
