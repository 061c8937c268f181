use Rattle.std.proofs.Common.{◌<◌, ℕ, List, All, sym, ap, ◌∙◌, subst}
use Rattle.fault_secure.specs.Circuit.{nets}
use Rattle.tsc_net.specs.PlanView.{net_numbers}
use Rattle.tsc_net.proofs.NetNumbers.{all_numbers}
use Rattle.behaviour_audit.proofs.reference.watch_outputs.Goals as goal

pub watch_of-requires-clause-watched : goal.watch_of-requires-clause-watched
watch_of-requires-clause-watched c =
    let N = c.args.net.now.circuit in
    all_numbers (λ net. net < nets N) c.in_ok-watched.watched
    (subst (λ (numbers : List ℕ). All (λ net. net < nets N) numbers) (sym (ap net_numbers c.in_ok-watched.ensures.same ∙ c.outputs.ensures.outputs)) c.nets-checked.ensures.checked.closed.outputs)
