-- Cones of nets that are named otherwise; the outputs of a group are nets.
use Rattle.std.proofs.Common.{◌≡◌, ℕ, ◌<◌, List, length, slice_index, All, Result, IfOk, subst}
use Rattle.std.proofs.lemmas.List.Elements.{All-get_or, All-map, All-weaker}
use Rattle.fault_secure.specs.Circuit.{Circuit, nets}
use Rattle.fault_secure.specs.Closed.{IsClosed}
use Rattle.tsc_net.specs.PlanView.{net_numbers}
use Rattle.tsc_net.specs.declared.ids.NetId.{NetId}
use Rattle.parity_code.specs.ParityFunction.{outputs_at}
use Rattle.net_cones.proofs.ConeNets.{numbers_below}
use Rattle.net_cones.specs.Cones.{IsCone}
use Rattle.net_cones.specs.ConeMarks.{cone_of}

-- a result that, if it is there, is a cone of some roots is so for equal roots too
pub same_roots : {E : Type 0} (C : Circuit) (roots others : List ℕ) (r : Result (List ℕ) E) → roots ≡ others → IfOk r (IsCone C roots) → IfOk r (IsCone C others)
same_roots C roots others r is here = subst (λ roots. IfOk r (IsCone C roots)) is here

-- a result that, if it is there, is the computed cone of some roots is so for equal roots too
pub same_cone : {E : Type 0} (C : Circuit) (roots others : List ℕ) (r : Result (List ℕ) E) → roots ≡ others → IfOk r (λ places. places ≡ cone_of C roots) → IfOk r (λ places. places ≡ cone_of C others)
same_cone C roots others r is here = subst (λ roots. IfOk r (λ places. places ≡ cone_of C roots)) is here

pub outputs_are_nets : (C : Circuit) (group : List ℕ) (roots : List NetId) → IsClosed C → All (λ place. place < length C.outputs) group
    → net_numbers roots ≡ outputs_at C group → All (λ root. root.number < nets C) roots
outputs_are_nets C group roots closed within is =
    numbers_below (nets C) (outputs_at C group) roots
    (All-map (λ net. net < nets C) (slice_index C.outputs) group
    (All-weaker (λ place. place < length C.outputs) (λ place. slice_index C.outputs place < nets C)
    (λ place low. All-get_or (λ net. net < nets C) C.outputs place 0 low closed.outputs) group within)) is
