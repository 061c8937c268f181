use Rattle.std.proofs.Common.{◌≡◌}
use Rattle.tsc_net.specs.PlanView.{net_numbers}
use Rattle.twin_synth.proofs.TwinPlanned.{watched_is, promise}
use Rattle.twin_synth.proofs.twin.twin_netlist.Goals as goal

pub returns : goal.returns
returns c = record {
  exact = promise c.args.source.now c.args.clock.now c.args.watching c.in_ok-kept.kept.registers c.in_ok-kept.kept.covers c.in_ok-groups.groups c.watched_count-watched.result
      c.in_ok-twin.twin.net c.in_ok-twin.twin.plan (net_numbers c.in_ok-twin.twin.watch) c.in_ok-kept.ensures.kept c.in_ok-groups.ensures.groups
      (watched_is c.args.watching c.in_ok-kept.kept.registers c.len.result c.watched_count-watched.result c.len.ensures.count c.watched_count-watched.ensures.count)
      c.in_ok-twin.ensures.net c.in_ok-twin.ensures.made c.in_ok-twin.ensures.plan c.in_ok-twin.ensures.watch;
}
