use Rattle.std.proofs.Common.{refl, arith, List, ℕ, ◌≤◌, ◌*◌, length, ap, ◌∙◌}
use Rattle.tsc_pool.specs.Pool.{PoolState, IsWhole}
use Rattle.tsc_pool.proofs.Words.{WritesAreRead-out, WritesKeepOthers-out, overlaid-refilled, row_fits_block, row_of_out, words_in_slice, length-words_of}
use Rattle.tsc_pool.proofs.Moves.{WritesInsert-out}
use Rattle.tsc_pool.proofs.pool.Pool.words_mut.Goals as goal

pub returns : goal.returns
returns c =
    let whole : IsWhole c.args.self.now = rw c.self.view_is at c.self.invariant.0 in
    let out = rw (← c.self.view_is, ← c.index.ensures.index) at c.requires.out in
    let with_block : List ℕ → PoolState = λ block. record { rows = c.self.inside.rows; width = c.self.inside.width; block = block; free = c.self.inside.free.items } in
    let pool = with_block c.self.inside.block.items in
    let fits : c.index.result * c.self.inside.width ≤ length c.self.inside.block.items =
    omega (arith, row_fits_block pool c.index.result c.self.invariant.0 (row_of_out pool c.index.result out)) in
    let lent = c.slice_mut.ensures.value ∙ words_in_slice pool c.index.result in (
      (refl, λ w. rw (← c.self.view_is, ← c.index.ensures.index) (ap with_block (overlaid-refilled c.self.inside.block.items w _ c.self.inside.block.len c.self.inside.block.ok.0 fits))),
      record {
        writes_back = tt;
        words = rw (← c.self.view_is, ← c.index.ensures.index) lent;
        width = rw (← c.self.view_is) (ap length lent ∙ length-words_of pool c.index.result c.self.invariant.0 out);
        read = WritesAreRead-out _ _ whole c.requires.out;
        others = WritesKeepOthers-out _ _ whole c.requires.out;
        insert = WritesInsert-out _ _ whole c.requires.out;
        whole = whole;
      },
    )
