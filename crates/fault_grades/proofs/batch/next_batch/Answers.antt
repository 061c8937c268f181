use Rattle.std.proofs.Common.{◌<◌, ◌≤◌, get_or, arith}
use Rattle.std.proofs.lemmas.List.{get_or_default}
use Rattle.fault_grades.specs.declared.grade.Grade.TheVariants.{Alarm, Unseen}
use Rattle.fault_grades.proofs.BatchLemmas.{batch_first, batch_more, taken_few}
use Rattle.fault_grades.proofs.batch.next_batch.Goals as goal

pub loop-place-init : goal.loop-place-init
loop-place-init c = record {
  batch = batch_first c.args.faults.now c.args.grades.now c.args.from c.args.places.now c.args.into.now c.requires.places c.requires.room;
  slow = omega arith;
}

pub loop-place-preserved : goal.loop-place-preserved
loop-place-preserved c =
    let faults = c.args.faults.now in
    let grades = c.args.grades.now in
    let place = c.loop-place.place in
    let count = c.loop-place.count in
    let places = c.take_up-count.new.places in
    let listed = c.take_up-count.new.into in
    let before = c.loop-place.invariant in
    let few : count ≤ 1023 = before.batch.few in
    let full = c.if-count-eq1023.false in
    let room : count < 1023 = omega (arith, full) in
    let slow = before.slow in
    let taken = c.take_up-count.ensures.taken in
    let fewer = taken_few faults (get_or grades place (Alarm 0)) place count c.take_up-count.result c.loop-place.places c.loop-place.into places listed taken in
    record {
      batch = batch_more faults grades c.args.from count c.take_up-count.result place c.loop-place.places c.loop-place.into places listed (get_or grades place (Alarm 0))
          (get_or_default grades place (Alarm 0) Unseen c.loop-place-test.true) room (omega arith) (omega arith) taken before.batch;
      slow = omega arith;
    }
