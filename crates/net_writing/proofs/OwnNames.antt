-- The names of a source's nets and of its outputs, among those of parts.
use Rattle.std.proofs.Common.{◌≡◌, ℕ, ◌<◌, ◌≤◌, List, map, length, All, arith}
use Rattle.std.proofs.lemmas.List.Elements.{All-from_get_or, All-get_or, All-map, All-weaker}
use Rattle.fault_secure.specs.Circuit.{Circuit, nets}
use Rattle.fault_secure.specs.Closed.{IsClosed}
use Rattle.tsc_net.specs.PartsView.{IsName}
use Rattle.tsc_net.specs.declared.ids.Name.{Name}
use Rattle.net_building.specs.Names.{numbered}
use Rattle.net_writing.specs.Names.{name_at}
use Rattle.net_writing.specs.Begun.{AreOwnNames}

-- names of nets are names where there are at least as many
pub own_named : (count : ℕ) (names : List Name) (texts : List (List ℕ)) → AreOwnNames count names → count ≤ length texts → All (IsName texts) names
own_named count names texts own many =
    All-from_get_or (IsName texts) names (numbered 0) (λ net low. (
    let sized : length names ≡ count = own.sized in
    let is : (name_at names net).number ≡ net = own.own net (omega arith) in
    omega arith))

-- and so are those of the outputs
pub outputs_named : (C : Circuit) (names : List Name) (texts : List (List ℕ)) → IsClosed C → length names ≡ nets C → All (IsName texts) names → All (IsName texts) (map (name_at names) C.outputs)
outputs_named C names texts closed sized all =
    All-map (IsName texts) (name_at names) C.outputs
    (All-weaker (λ net. net < nets C) (λ net. IsName texts (name_at names net)) (λ net low. All-get_or (IsName texts) names net (numbered 0) (omega arith) all) C.outputs closed.outputs)
