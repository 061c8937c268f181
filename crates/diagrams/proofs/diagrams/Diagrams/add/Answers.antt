use Rattle.std.proofs.Common.{◌≡◌, ◌<◌, length, refl, arith}
use Rattle.diagrams.proofs.Growing.{AreMade-push}
use Rattle.diagrams.proofs.Sound.{sound_push, reindexed, short_of, pushed_stands}
use Rattle.diagrams.proofs.diagrams.Diagrams.add.Goals as goal

pub returns-then-row-room-clause-short : goal.returns-then-row-room-clause-short
returns-then-row-room-clause-short c = λ spent fs needed.
    let decides = rw (← c.self.view_is) at c.requires.decides in
    let absent = rw (← c.self.view_is) at c.requires.absent in
    let needed_here = rw (← c.self.view_is) at needed in
    let full : length c.self.inside.rows.rows ≡ c.self.inside.rows.room = omega (arith, c.len-row.ensures.len, c.room.ensures.room, c.if-row-room.true) in
    rw (← c.self.view_is) (short_of _ c.args.decision fs c.self.invariant.diagram decides absent full needed_here)

pub invariant_of-self : goal.invariant_of-self
invariant_of-self c =
    let decides = rw (← c.self.view_is) at c.requires.decides in
    let absent = rw (← c.self.view_is) at c.requires.absent in
    let free : length c.self.inside.rows.rows < c.self.inside.rows.room = omega (arith, c.len-row.ensures.len, c.len-row.ensures.within, c.room.ensures.room, c.if-row-room.false) in
    let updates = rw (c.word.ensures.word, c.len-row.ensures.len) at c.in-Ok.ensures.updates in
    sound_push _ _ _ _ _ _ c.args.decision _ _ c.self.invariant decides absent free updates c.push.ensures.room c.push.ensures.rows

pub invariant_of-self-in-Err : goal.invariant_of-self-in-Err
invariant_of-self-in-Err c = reindexed _ _ _ _ _ _ c.self.invariant c.in-Err.ensures.err

pub returns-in-Ok-clause-made : goal.returns-in-Ok-clause-made
returns-in-Ok-clause-made c = λ fs needed.
    let decides = rw (← c.self.view_is) at c.requires.decides in
    let absent = rw (← c.self.view_is) at c.requires.absent in
    let needed_here = rw (← c.self.view_is) at needed in
    let free : length c.self.inside.rows.rows < c.self.inside.rows.room = omega (arith, c.len-row.ensures.len, c.len-row.ensures.within, c.room.ensures.room, c.if-row-room.false) in
    rw (← c.self.view_is) (AreMade-push (record { inputs = c.self.inside.inputs; room = c.self.inside.rows.room; rows = c.self.inside.rows.rows }) _ c.args.decision fs c.self.invariant.diagram decides absent free refl c.push.ensures.room c.push.ensures.rows needed_here)

pub returns-in-Ok-clause-stands : goal.returns-in-Ok-clause-stands
returns-in-Ok-clause-stands c =
    let decides = rw (← c.self.view_is) at c.requires.decides in
    let absent = rw (← c.self.view_is) at c.requires.absent in
    rw (← c.self.view_is) (pushed_stands (record { inputs = c.self.inside.inputs; room = c.self.inside.rows.room; rows = c.self.inside.rows.rows }) _ c.args.decision _ c.self.invariant.diagram decides absent c.len-row.ensures.len refl c.push.ensures.rows)
