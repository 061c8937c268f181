use Rattle.std.proofs.Common.{arith}
use Rattle.blif_read.proofs.Shares.{concat_more}
use Rattle.blif_read.proofs.plan_rules.concat_places.Goals as goal

pub loop-group-preserved : goal.loop-group-preserved
loop-group-preserved c =
    concat_more c.args.groups.now c.loop-group.group-index c.group-item.result c.loop-group.places c.as_slice.result.now c.append.new.self
    (omega arith) c.group-item.is c.loop-group.invariant c.as_slice.ensures.whole c.in_ok-append.ensures.ok
