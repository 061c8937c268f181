-- Nets that are watched.
use Rattle.std.proofs.Common.{◌≡◌, ℕ, ◌<◌, List, sym, subst, All}
use Rattle.fault_secure.specs.Circuit.{Circuit, nets}
use Rattle.fault_secure.specs.Closed.{IsClosed}
use Rattle.tsc_net.specs.PlanView.{net_numbers}
use Rattle.tsc_net.specs.declared.ids.NetId.{NetId}
use Rattle.tsc_net.proofs.NetNumbers.{all_numbers}

-- the outputs of a closed circuit are nets of it
pub all_within : (C : Circuit) (list : List NetId) → IsClosed C → net_numbers list ≡ C.outputs → All (λ net. net.number < nets C) list
all_within C list closed same =
    all_numbers (λ net. net < nets C) list (subst (λ (numbers : List ℕ). All (λ net. net < nets C) numbers) (sym same) closed.outputs)
