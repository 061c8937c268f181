use Rattle.std.proofs.Common.{sym, ◌∙◌, ap, ◌++◌, ◌∷◌, [], arith}
use Rattle.tsc_pool.proofs.AllFree.{range-push}
use Rattle.tsc_pool.proofs.pool.all_indexes.Goals as goal

pub loop-index-preserved : goal.loop-index-preserved
loop-index-preserved c = record {
  items = c.in_ok-push.ensures.items ∙ ap (λ l. l ++ c.loop-index.index ∷ []) c.loop-index.invariant.items ∙ sym (range-push c.loop-index.index);
  room = omega (arith, c.push.ensures.capacity, c.loop-index.invariant.room);
}
