use Rattle.net_writing.proofs.FreshNets.{nets_more}
use Rattle.net_writing.proofs.fresh_names.fresh_nets.Goals as goal

pub loop-place-preserved : goal.loop-place-preserved
loop-place-preserved c = nets_more c.args.net.now.names c.args.number c.args.first c.loop-place.place c.loop-place.nets c.push.new.self c.in_ok-named.named c.loop-place.invariant c.in_ok-named.ensures.net (c.in_ok-push.ensures.ok)
