use Rattle.std.proofs.Common.{◌≡◌, [], drop}
use Rattle.tsc_net.specs.PlanView.{net_numbers}
use Rattle.checker_audit.specs.Misjudged.{with_nets}
use Rattle.checker_audit.proofs.distinct.distinct_nets.Given as goal

-- adding what is left gives what adding all does
abbrev pub invariant-loop-net : goal.invariant-loop-net
invariant-loop-net l = with_nets (net_numbers l.nets.items) (net_numbers (drop l.net-index l.word)) ≡ with_nets [] (net_numbers l.word)
