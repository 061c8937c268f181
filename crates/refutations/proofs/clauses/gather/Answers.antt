use Rattle.std.proofs.Common.{◌<◌, length, arith, ap, ◌∙◌}
use Rattle.refutations.proofs.Gathering.{gathered_none, gathered_entry, gathered_room, gathered_more, gathered_past, gathered_held, gathered_same}
use Rattle.refutations.proofs.clauses.gather.Goals as goal
use Rattle.refutations.proofs.clauses.gather.Goals.{then-entry, else-entry}

pub loop-place-init : goal.loop-place-init
loop-place-init c = record { gathered = gathered_none _ _ c.requires.held }

pub overflow_add-entry : goal.overflow_add-entry
overflow_add-entry c =
    let so = c.loop-place.invariant.gathered in let sized = so.sized in let inside = c.loop-place-test.true in
    let is = gathered_entry _ _ _ _ _ _ _ so c.index-entry.result.now (omega (arith, c.len-place-end.ensures)) c.index-entry.ensures in
    let room = (gathered_room _ _ _ _ _ _ _ so c.index-entry.result.now (omega (arith, c.len-place-end.ensures)) is c.if-entry.true).0 in
    omega arith

pub copy_within-requires-clause-in_bounds : goal.copy_within-requires-clause-in_bounds
copy_within-requires-clause-in_bounds c =
    let so = c.loop-place.invariant.gathered in let sized = so.sized in let inside = c.loop-place-test.true in
    let is = gathered_entry _ _ _ _ _ _ _ so c.index-entry.result.now (omega (arith, c.len-place-end.ensures)) c.index-entry.ensures in
    let room = (gathered_room _ _ _ _ _ _ _ so c.index-entry.result.now (omega (arith, c.len-place-end.ensures)) is c.if-entry.true).0 in
    omega arith

pub copy_within-requires-clause-dest_in_bounds : goal.copy_within-requires-clause-dest_in_bounds
copy_within-requires-clause-dest_in_bounds c =
    let so = c.loop-place.invariant.gathered in let sized = so.sized in let inside = c.loop-place-test.true in
    let is = gathered_entry _ _ _ _ _ _ _ so c.index-entry.result.now (omega (arith, c.len-place-end.ensures)) c.index-entry.ensures in
    let room = (gathered_room _ _ _ _ _ _ _ so c.index-entry.result.now (omega (arith, c.len-place-end.ensures)) is c.if-entry.true).1 in
    omega arith

pub overflow_add-end : goal.overflow_add-end
overflow_add-end c =
    let so = c.loop-place.invariant.gathered in let sized = so.sized in let inside = c.loop-place-test.true in
    let is = gathered_entry _ _ _ _ _ _ _ so c.index-entry.result.now (omega (arith, c.len-place-end.ensures)) c.index-entry.ensures in
    let room = (gathered_room _ _ _ _ _ _ _ so c.index-entry.result.now (omega (arith, c.len-place-end.ensures)) is c.if-entry.true).1 in
    omega arith

pub loop-place-preserved : goal.loop-place-preserved
loop-place-preserved c =
    let so = c.loop-place.invariant.gathered in let sized = so.sized in let below = c.loop-place-test.true in
    let here : c.loop-place.place < length c.args.entries.now.items = omega (arith, c.len-place-end.ensures) in
    let is = gathered_entry _ _ _ _ _ _ _ so c.index-entry.result.now here c.index-entry.ensures in
    record {
      gathered = elim c.if-entry.branch [
        | then-entry w ↦ gathered_more _ _ _ _ _ _ _ so c.index-entry.result.now here is w.if-entry.true _ _ _ _ w.kept-is w.end-is (ap (λ v. v.items) w.entries-is)
            (ap (λ v. v.items) w.pool-is ∙ w.copy_within.ensures.items)
        | else-entry w ↦ gathered_past _ _ _ _ _ _ _ so _ _ _ _ _ here is w.if-entry.false w.kept-is w.end-is (ap (λ v. v.items) w.entries-is) (ap (λ v. v.items) w.pool-is)
      ];
    }

pub returns-clause-held : goal.returns-clause-held
returns-clause-held c = λ last held.
    let so = c.loop-place.invariant.gathered in let sized = so.sized in let past = c.loop-place-test.false in
    gathered_held _ _ _ _ _ _ _ so (omega (arith, c.len-place-end.ensures)) last _ _ c.truncate.ensures.items c.truncate-2.ensures.items held

pub returns-clause-same : goal.returns-clause-same
returns-clause-same c =
    let so = c.loop-place.invariant.gathered in let sized = so.sized in let past = c.loop-place-test.false in
    gathered_same _ _ _ _ _ _ _ so (omega (arith, c.len-place-end.ensures)) _ _ c.truncate.ensures.items c.truncate-2.ensures.items
