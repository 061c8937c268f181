-- The outputs of a circuit are copied with the nodes that they depend on, and so are those of a group.
use Rattle.std.proofs.Common.{◌≡◌, ℕ, ◌-◌, ◌<◌, List, length, slice_index, All}
use Rattle.std.proofs.lemmas.List.Elements.{All-map, All-get_or, All-from_get_or, All-weaker, Contains-get_or}
use Rattle.fault_secure.specs.Circuit.{Circuit, nets}
use Rattle.fault_secure.specs.Closed.{IsClosed}
use Rattle.parity_code.specs.Copy.{IsCopied}
use Rattle.parity_code.specs.ParityFunction.{outputs_at}
use Rattle.net_cones.specs.Cones.{IsCone}
use Rattle.parity_code.proofs.ParityCircuit.{root_copied}

-- what holds of the outputs holds of those of a group
pub at_outputs : (Q : ℕ → Type 0) (C : Circuit) (group : List ℕ) → All Q C.outputs → All (λ place. place < length C.outputs) group → All Q (outputs_at C group)
at_outputs Q C group all within =
    All-map Q (slice_index C.outputs) group
    (All-weaker (λ place. place < length C.outputs) (λ place. Q (slice_index C.outputs place)) (λ place low. All-get_or Q C.outputs place 0 low all) group within)

-- nets that a cone is of are copied with it
roots_copied : (C : Circuit) → length C.latches ≡ 0 → IsClosed C → (roots cone : List ℕ) → IsCone C roots cone → All (λ net. net < nets C) roots → All (IsCopied C cone) roots
roots_copied C none closed roots cone is low = All-from_get_or (IsCopied C cone) roots 0 (λ i there.
    root_copied C none closed.pins roots cone is (slice_index roots i) (All-get_or (λ net. net < nets C) roots i 0 there low) (Contains-get_or roots i 0 there))

-- so is each output
pub all_copied : (C : Circuit) (kept : List ℕ) → length C.latches ≡ 0 → IsClosed C → IsCone C C.outputs kept → All (IsCopied C kept) C.outputs
all_copied C kept none closed is = roots_copied C none closed C.outputs kept is closed.outputs

-- and each of a group
pub outputs_copied : (C : Circuit) → length C.latches ≡ 0 → IsClosed C → (cone group : List ℕ) → IsCone C (outputs_at C group) cone → All (λ place. place < length C.outputs) group → All (IsCopied C cone) (outputs_at C group)
outputs_copied C none closed cone group is within = roots_copied C none closed (outputs_at C group) cone is (at_outputs (λ net. net < nets C) C group closed.outputs within)
