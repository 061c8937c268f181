use Rattle.std.proofs.Common.{◌≡◌, length, drop}
use Rattle.tsc_net.specs.PlanView.{net_numbers}
use Rattle.register_synth.specs.inner.Search.{found_nets}
use Rattle.register_synth.proofs.search.Found.find_all.Given as goal

-- finding what is left finds all
abbrev pub invariant-loop-net : goal.invariant-loop-net
invariant-loop-net l =
    (length l.self.marks ≡ length l.initial.self.marks)
    × (found_nets l.self (net_numbers (drop l.net-index l.list)) ≡ found_nets l.initial.self (net_numbers l.list))
