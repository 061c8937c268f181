-- The covers so far.
use Rattle.pla_read.specs.Spread.{no_rows, AreCovers}
use Rattle.pla_read.proofs.spread.empty_covers.Given as goal

abbrev pub invariant-loop-count : goal.invariant-loop-count
invariant-loop-count l = AreCovers 0 l.count-index (λ place. no_rows l.width) l.covers
