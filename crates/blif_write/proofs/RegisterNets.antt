-- The nets that the plan of a netlist with registers names, and the lines of what is watched.
use Rattle.std.proofs.Common.{◌≡◌, ℕ, ◌<◌, List, [], ◌∷◌, length, refl, subst, All, arith}
use Rattle.fault_secure.specs.Circuit.{Circuit, nets}
use Rattle.tsc_net.specs.NetlistOf.{NetlistOf, names_of}
use Rattle.tsc_net.specs.PlanView.{net_numbers}
use Rattle.tsc_net.specs.declared.ids.NetId.{NetId}
use Rattle.blif_write.specs.NetLines.{AreNets}
use Rattle.blif_write.specs.RegisterText.{lists_of, registers_as_inputs, watch_line, watch_lines}

-- with its registers as inputs a circuit has the same nets
pub same-nets : (C : Circuit) → nets (registers_as_inputs C) ≡ nets C
same-nets C = omega arith

pub nets-known : (C : Circuit) (list : List ℕ) → AreNets (registers_as_inputs C) list → AreNets C list
nets-known C list h =
    let Below : ℕ → Type 0 = λ most. All (λ net. net < most) list in
    subst Below (same-nets C) h

-- nothing is watched, or one list is
pub unwatched : (net : NetlistOf) (list : List NetId) → length list ≡ 0 → watch_lines net (lists_of (net_numbers list)) ≡ []
unwatched net [] h = refl
unwatched net (n ∷ list) h = absurd (omega (arith, h))

pub watched-line : (net : NetlistOf) (list : List NetId) → 0 < length list → watch_lines net (lists_of (net_numbers list)) ≡ watch_line (names_of net.names (net_numbers list)) ∷ []
watched-line net [] h = absurd (omega (arith, h))
watched-line net (n ∷ list) h = refl
