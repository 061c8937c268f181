use Rattle.std.proofs.Common.{arith}
use Rattle.fault_grades.proofs.MarkLemmas.{marked_first, marked_more}
use Rattle.fault_grades.proofs.marks.mark_from.Goals as goal

pub loop-lane-init : goal.loop-lane-init
loop-lane-init c = marked_first c.args.marks.now c.args.step c.args.first c.args.seen.now c.args.agree.now

pub loop-lane-preserved : goal.loop-lane-preserved
loop-lane-preserved c =
    marked_more c.args.marks.now c.loop-lane.marks c.mark_lane.new.marks c.args.step c.args.first c.loop-lane.lane c.args.seen.now c.args.agree.now c.bit_at-is_seen.result c.bit_at-agrees.result
    (omega arith) c.bit_at-is_seen.ensures.bit c.bit_at-agrees.ensures.bit c.mark_lane.ensures.here c.mark_lane.ensures.others c.loop-lane.invariant

pub returns : goal.returns
returns c = record {
  marks = λ lane inside above. c.loop-lane.invariant.done lane above (omega arith);
  before = λ lane low. c.loop-lane.invariant.before lane low;
}
