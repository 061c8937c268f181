use Rattle.std.proofs.Common.{◌<◌, length, refl}
use Rattle.std.proofs.lemmas.List.{length-map}
use Rattle.fault_secure.specs.Circuit.{nets}
use Rattle.tsc_net.specs.PlanView.{net_numbers}
use Rattle.blif_write.proofs.NetFacts.{number-known}
use Rattle.blif_write.proofs.net_names.push_names.Goals as goal

pub name-requires : goal.name-requires
name-requires c = record {
  net =
      let there : c.loop-id.id-index < length (net_numbers c.args.list.now) = rw length-map c.loop-id-test.true in
      number-known (nets c.args.net.now.circuit) c.args.list.now (net_numbers c.args.list.now) c.loop-id.id-index _ refl there c.requires.known;
}
