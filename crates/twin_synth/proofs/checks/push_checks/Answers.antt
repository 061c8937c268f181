use Rattle.std.proofs.Common.{◌∙◌}
use Rattle.twin_synth.proofs.ChecksMore.{check_more, check_counts}
use Rattle.twin_synth.proofs.checks.push_checks.Goals as goal

pub loop-group-preserved : goal.loop-group-preserved
loop-group-preserved c = record {
  left = check_more c.args.shown.now c.args.groups.now c.loop-group.group-index c.group-item.result c.as_slice.result.now c.loop-group.numbered c.push_check.new.numbered c.loop-group-test.true
      c.group-item.is c.as_slice.ensures.whole c.in_ok-push_check.ensures.pushed ∙ c.loop-group.invariant.left;
  counted = check_counts c.args.shown.now c.args.groups.now c.loop-group.group-index c.group-item.result c.as_slice.result.now c.loop-group.numbered c.push_check.new.numbered c.loop-group-test.true
      c.group-item.is c.as_slice.ensures.whole c.in_ok-push_check.ensures.pushed ∙ c.loop-group.invariant.counted;
}
