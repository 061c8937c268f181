-- One copy of the covers at some places by names, as it is added to parts, and the checks of groups over it.
use Rattle.std.specs.Prelude.{ℕ, List, [], ◌∷◌, map}
use Rattle.fault_secure.specs.Circuit.{Circuit}
use Rattle.tsc_net.specs.NetlistOf.{NetlistOf}
use Rattle.tsc_net.specs.Parts.{PartsOf}
use Rattle.parity_code.specs.ParityFunction.{outputs_at}
use Rattle.parity_code.specs.Predictors.{with_parity, with_copies, copy_text, last_name}

-- the parts with the checks of the groups, over the names that `text` gives
abbrev pub with_group_checks : Circuit → (ℕ → List ℕ) → List (List ℕ) → PartsOf → PartsOf
with_group_checks C text [] p = p
with_group_checks C text (group ∷ groups) p = with_group_checks C text groups (with_parity p (map text (outputs_at C group)))

-- the names of the checks: the last of each
abbrev pub group_check_texts : Circuit → (ℕ → List ℕ) → List (List ℕ) → PartsOf → List (List ℕ)
group_check_texts C text [] p = []
group_check_texts C text (group ∷ groups) p =
    last_name (with_parity p (map text (outputs_at C group))) ∷ group_check_texts C text groups (with_parity p (map text (outputs_at C group)))

-- the parts with one copy of the covers at some places, and with the checks of the groups over it
abbrev pub with_shared : NetlistOf → List ℕ → List (List ℕ) → PartsOf → PartsOf
with_shared S places groups p = with_group_checks S.circuit (copy_text S places p) groups (with_copies S places p)

abbrev pub shared_texts : NetlistOf → List ℕ → List (List ℕ) → PartsOf → List (List ℕ)
shared_texts S places groups p = group_check_texts S.circuit (copy_text S places p) groups (with_copies S places p)
