-- Chains of exclusive ors.
use Rattle.std.specs.Prelude.{◌≡◌, ℕ, suc, List, [], ◌∷◌}
use Rattle.tsc_cover.specs.Gates.{xor_cover}
use Rattle.fault_secure.specs.Circuit.{Circuit, node, node_net, gate}

-- from place `from` on, N has a chain of exclusive ors that starts with the net `made` and takes the others from the left
abbrev pub IsChain : Circuit → ℕ → ℕ → List ℕ → ℕ → Type 0
IsChain N from made [] last = last ≡ made
IsChain N from made (n ∷ ns) last =
    (node N from ≡ gate xor_cover (made ∷ (n ∷ []))) × IsChain N (suc from) (node_net N from) ns last
