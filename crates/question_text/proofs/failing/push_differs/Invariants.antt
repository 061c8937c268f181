use Rattle.std.proofs.Common.{◌≡◌, ◌++◌, drop}
use Rattle.tsc_net.specs.PlanView.{net_numbers}
use Rattle.question_text.specs.Failing.{differs_of}
use Rattle.question_text.proofs.failing.push_differs.Given as goal

abbrev pub invariant-loop-net : goal.invariant-loop-net
invariant-loop-net l =
    l.list ++ differs_of l.inputs l.cells (net_numbers (drop l.net-index l.nets)) ≡ l.initial.list ++ differs_of l.inputs l.cells (net_numbers l.nets)
