use Rattle.std.proofs.Common.{◌≡◌, ◌+◌, ◌++◌, drop}
use Rattle.tsc_net.specs.PlanView.{net_numbers}
use Rattle.question_text.specs.Reasons.{ones_from}
use Rattle.question_text.proofs.reasons.push_ones.Given as goal

abbrev pub invariant-loop-net : goal.invariant-loop-net
invariant-loop-net l =
    record { literals : l.list ++ ones_from l.at (net_numbers (drop l._net-index l.nets)) ≡ l.initial.list ++ ones_from l.first (net_numbers l.nets); at : l.at ≡ l.first + l._net-index }
