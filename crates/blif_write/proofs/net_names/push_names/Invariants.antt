use Rattle.std.proofs.Common.{◌≡◌, drop}
use Rattle.tsc_net.specs.NetlistOf.{names_of}
use Rattle.tsc_net.specs.PlanView.{net_numbers}
use Rattle.blif_write.specs.Steps.{after_words}
use Rattle.blif_write.proofs.net_names.push_names.Given as goal

abbrev pub invariant-loop-id : goal.invariant-loop-id
invariant-loop-id l =
    after_words l.out (names_of l.net.names (net_numbers (drop l.id-index l.list))) ≡ after_words l.initial.out (names_of l.net.names (net_numbers l.list))
