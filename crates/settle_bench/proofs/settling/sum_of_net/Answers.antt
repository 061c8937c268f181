use Rattle.std.proofs.Common.{ℕ, List, sym, ap, ◌∙◌}
use Rattle.tsc_net.specs.PlanView.{net_numbers}
use Rattle.tsc_net.specs.declared.ids.NetId.{NetId}
use Rattle.settle_bench.proofs.settling.sum_of_net.Goals as goal
use Rattle.tsc_net.proofs.NetNumbers.{are_watched}

pub sum_of-sum-requires-clause-watched : goal.sum_of-sum-requires-clause-watched
sum_of-sum-requires-clause-watched c =
    let numbers : List NetId → List ℕ = net_numbers in
    are_watched c.settle.new.self.watched c.as_slice.result.now
    (c.settle.ensures.watched ∙ (c.settle_often.ensures.watched ∙ (c.in_ok-bench.ensures.watched ∙ ap numbers (sym c.as_slice.ensures.whole))))
