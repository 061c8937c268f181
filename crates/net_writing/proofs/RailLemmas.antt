-- What makes a plan one of a netlist.
use Rattle.std.proofs.Common.{◌≡◌, ℕ, ◌<◌, List, length, All, subst}
use Rattle.fault_secure.specs.Circuit.{Circuit, nets}
use Rattle.fault_secure.specs.CodePlan.{CodePlan, IsPlanOf}
use Rattle.net_writing.specs.Rails.{EndsInRails}

-- what makes a plan one of a netlist: outputs that end in its rails, nets for rails and checks, and as many latches
pub plan_fits : (N : Circuit) (P : CodePlan) (outputs : List ℕ) → outputs ≡ N.outputs → EndsInRails outputs P.outputs P.rail1 P.rail2 → All (λ n. n < nets N) P.checks
    → P.rail1 < nets N → P.rail2 < nets N → P.latches ≡ length N.latches → IsPlanOf N P
plan_fits N P outputs is rails checks first second latches =
    let here : EndsInRails N.outputs P.outputs P.rail1 P.rail2 = subst (λ list. EndsInRails list P.outputs P.rail1 P.rail2) is rails in
    record { outputs = here.sized; rail1 = here.first; rail2 = here.second; checks = checks; rails = (first, second); latches = latches }
