-- The nets so far, then those of the names that are left; the search for a missing one goes on from here.
use Rattle.std.proofs.Common.{◌≡◌, ◌++◌, drop, map}
use Rattle.tsc_net.specs.Names.{place_of_text}
use Rattle.tsc_net.specs.PartsView.{texts_of}
use Rattle.tsc_net.specs.PlanView.{net_numbers}
use Rattle.tsc_net.specs.NetFault.{first_missing}
use Rattle.tsc_net.proofs.build.pin_nets.Given as goal

abbrev pub invariant-loop-name : goal.invariant-loop-name
invariant-loop-name l = record {
  reading : net_numbers l.nets.items ++ map (place_of_text l.names.nets) (texts_of l.names.names (drop l.name-index l.list))
      ≡ map (place_of_text l.names.nets) (texts_of l.names.names l.list);
  missing : first_missing l.names.nets (texts_of l.names.names (drop l.name-index l.list)) ≡ first_missing l.names.nets (texts_of l.names.names l.list);
}
