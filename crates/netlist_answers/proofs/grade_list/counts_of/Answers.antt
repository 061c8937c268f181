use Rattle.std.proofs.Common.{arith}
use Rattle.grading_laws.specs.Counts.{is_alarm, is_silent, is_unseen}
use Rattle.fault_grades.specs.Grade.{grade_as}
use Rattle.netlist_answers.proofs.GradeLemmas.{counted_below, counted_more}
use Rattle.netlist_answers.proofs.grade_list.counts_of.Goals as goal

pub with_one-counts-requires : goal.with_one-counts-requires
with_one-counts-requires c =
    let grades = c.args.grades.now in
    let place = c.loop-place.place in
    record {
      alarm = omega (arith, counted_below is_alarm grades place, c.loop-place.invariant.alarm);
      silent = omega (arith, counted_below is_silent grades place, c.loop-place.invariant.silent);
      unseen = omega (arith, counted_below is_unseen grades place, c.loop-place.invariant.unseen);
    }

pub loop-place-preserved : goal.loop-place-preserved
loop-place-preserved c =
    let grades = c.args.grades.now in
    let place = c.loop-place.place in
    let grade = grade_as c.get.result in
    let found = c.get.ensures.found in
    record {
      alarm = omega (arith, c.with_one-counts.ensures.alarm, c.loop-place.invariant.alarm, counted_more is_alarm grades place grade found);
      silent = omega (arith, c.with_one-counts.ensures.silent, c.loop-place.invariant.silent, counted_more is_silent grades place grade found);
      unseen = omega (arith, c.with_one-counts.ensures.unseen, c.loop-place.invariant.unseen, counted_more is_unseen grades place grade found);
    }
