use Rattle.std.proofs.Common.{◌≡◌, ℕ, List, ap, ◌∙◌}
use Rattle.tsc_net.specs.PlanView.{net_numbers}
use Rattle.tsc_net.specs.declared.ids.NetId.{NetId}
use Rattle.settle_bench.proofs.WatchLemmas.{all_within}
use Rattle.settle_bench.proofs.settling.outputs_of.Goals as goal

pub returns : goal.returns
returns c =
    let C = c.args.net.now.circuit in
    let numbers : List NetId → List ℕ = net_numbers in
    let same : numbers c.in_ok-watch.watch ≡ C.outputs = ap numbers c.in_ok-watch.ensures.same ∙ c.outputs.ensures.outputs in
    record { within = all_within C c.in_ok-watch.watch c.nets-checked.ensures.checked.closed same }
