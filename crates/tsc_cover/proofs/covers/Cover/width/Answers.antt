use Rattle.tsc_cover.proofs.Row.{sized-literals_of_each}
use Rattle.tsc_cover.proofs.covers.Cover.width.Goals as goal

pub returns-clause-sized : goal.returns-clause-sized
returns-clause-sized c = rw (← c.self.view_is) (sized-literals_of_each _ _)
