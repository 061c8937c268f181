-- The nets of gates rise with their places, except at places of the word.
use Rattle.std.proofs.Common.{◌≡◌, ℕ, zero, suc, ◌<◌, ◌≤◌, List, [], ◌∷◌, length, slice_index, slice_index_or, refl, arith}
use Rattle.code_checkers.specs.declared.gate.CheckGate.{CheckGate}
use Rattle.code_checkers.specs.declared.gate.CheckGate.TheVariants as gate
use Rattle.code_checkers.specs.CheckerNodes.{gate_net, net_behind, gate_nets}

-- the gate at a place is no place of the word
abbrev pub IsNoWord : List CheckGate → ℕ → Type 0
IsNoWord gates k = (word : ℕ) → slice_index_or gates k (gate.Word 0) ≡ gate.Word word → ⊥

-- a gate that is no place of the word has the next net, and one is after it
own_net : (word : List ℕ) (next : ℕ) (g : CheckGate) → ((place : ℕ) → g ≡ gate.Word place → ⊥) → (gate_net word next g ≡ next) × (next < net_behind next g)
own_net word next (gate.Word place) other = absurd (other place refl)
own_net word next (gate.Buf a) other = (refl, omega arith)
own_net word next (gate.Not a) other = (refl, omega arith)
own_net word next (gate.And a b) other = (refl, omega arith)
own_net word next (gate.Or a b) other = (refl, omega arith)
own_net word next (gate.Xor a b) other = (refl, omega arith)

-- the next net after a gate is no lower
behind_rises : (next : ℕ) (g : CheckGate) → next ≤ net_behind next g
behind_rises next (gate.Word place) = omega arith
behind_rises next (gate.Buf a) = omega arith
behind_rises next (gate.Not a) = omega arith
behind_rises next (gate.And a b) = omega arith
behind_rises next (gate.Or a b) = omega arith
behind_rises next (gate.Xor a b) = omega arith

-- the net of a gate that is no place of the word is the next one or a later one
net_low : (word : List ℕ) (next : ℕ) (gates : List CheckGate) (k : ℕ) → k < length gates → IsNoWord gates k → next ≤ slice_index (gate_nets word next gates) k
net_low word next [] k there other = absurd (omega arith)
net_low word next (g ∷ gates) zero there other = let e = (own_net word next g other).0 in omega (arith, e)
net_low word next (g ∷ gates) (suc k) there other = omega (arith, net_low word (net_behind next g) gates k (omega arith) other, behind_rises next g)

-- of two such gates the later one has the higher net
pub nets_rise : (word : List ℕ) (next : ℕ) (gates : List CheckGate) (i k : ℕ) → i < k → k < length gates → IsNoWord gates i → IsNoWord gates k
    → slice_index (gate_nets word next gates) i < slice_index (gate_nets word next gates) k
nets_rise word next [] i k low there first second = absurd (omega arith)
nets_rise word next (g ∷ gates) zero zero low there first second = absurd (omega arith)
nets_rise word next (g ∷ gates) (suc i) zero low there first second = absurd (omega arith)
nets_rise word next (g ∷ gates) zero (suc k) low there first second =
    let here = own_net word next g first in
    let equal : gate_net word next g ≡ next = here.0 in
    let behind : next < net_behind next g = here.1 in
    omega (arith, equal, behind, net_low word (net_behind next g) gates k (omega arith) second)
nets_rise word next (g ∷ gates) (suc i) (suc k) low there first second = nets_rise word (net_behind next g) gates i k (omega arith) (omega arith) first second
