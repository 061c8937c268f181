-- One place more, and all of them.
use Rattle.std.proofs.Common.{sym, subst, arith}
use Rattle.std.proofs.lemmas.List.{take_all, take_more}
use Rattle.kiss_read.specs.Clashes.{conflict_at, rows_in, IsLeastIn}
use Rattle.kiss_read.proofs.table.Table.least_in.Goals as goal

pub loop-place-preserved : goal.loop-place-preserved
loop-place-preserved c =
    subst (λ places. IsLeastIn (conflict_at (rows_in c.args.self.now) c.args.later) places c.lesser_with-least.result)
    (sym (take_more c.args.places.now c.loop-place.place-index 0 c.loop-place-test.true))
    (c.lesser_with-least.ensures.least _ c.loop-place.invariant)

pub returns : goal.returns
returns c = record {
  least = subst (λ places. IsLeastIn (conflict_at (rows_in c.args.self.now) c.args.later) places c.loop-place.least)
      (take_all c.loop-place.place-index c.args.places.now (omega arith)) c.loop-place.invariant;
}
