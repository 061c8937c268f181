-- The values of nodes that are gates.
use Rattle.std.proofs.Common.{◌≡◌, ℕ, suc, Bool, true, false, not, ◌&&◌, ◌||◌, List, [], ◌∷◌, map, refl, ◌∙◌, ap}
use Rattle.tsc_cover.specs.Cover.{CoverTable, truth}
use Rattle.tsc_cover.specs.Gates.{buf_cover, not_cover, and_cover, or_cover, xor_cover}
use Rattle.fault_secure.specs.Circuit.{Circuit, node, node_net, bit, gate}
use Rattle.fault_secure.specs.StuckAt.{NoFault}
use Rattle.fault_secure.specs.Settle.{node_value, read_values}
use Rattle.tsc_bits.specs.Counting.{differ}

-- without a fault the pins read the bits of their nets
pub read_values-no_fault : (v : List Bool) (driver pin : ℕ) (reads : List ℕ) → read_values NoFault v driver pin reads ≡ map (bit v) reads
read_values-no_fault v driver pin [] = refl
read_values-no_fault v driver pin (net ∷ reads) = ap (λ bits. bit v net ∷ bits) (read_values-no_fault v driver (suc pin) reads)

-- the value of a node that is a gate over nets
pub node_value-gate : (N : Circuit) (u : List Bool) (j : ℕ) (cover : CoverTable) (reads : List ℕ) → node N j ≡ gate cover reads
    → node_value N NoFault u j ≡ truth cover (map (bit u) reads)
node_value-gate N u j cover reads is =
    ap (λ n. truth n.cover (read_values NoFault u (node_net N j) 0 n.reads)) is
    ∙ ap (λ bits. truth cover bits) (read_values-no_fault u (node_net N j) 0 reads)

-- the cover of BUF gives the bit of its pin
pub truth-buf : (a : Bool) → truth buf_cover (a ∷ []) ≡ a
truth-buf true = refl
truth-buf false = refl

-- the cover of NOT gives the other bit than that of its pin
pub truth-not : (a : Bool) → truth not_cover (a ∷ []) ≡ not a
truth-not true = refl
truth-not false = refl

-- the cover of AND gives 1 exactly where both pins are 1
pub truth-and : (a b : Bool) → truth and_cover (a ∷ (b ∷ [])) ≡ (a && b)
truth-and true true = refl
truth-and true false = refl
truth-and false true = refl
truth-and false false = refl

-- the cover of OR gives 1 exactly where a pin is 1
pub truth-or : (a b : Bool) → truth or_cover (a ∷ (b ∷ [])) ≡ (a || b)
truth-or true true = refl
truth-or true false = refl
truth-or false true = refl
truth-or false false = refl

-- the cover of XOR gives 1 exactly where its two pins differ
pub truth-xor : (a b : Bool) → truth xor_cover (a ∷ (b ∷ [])) ≡ differ a b
truth-xor true true = refl
truth-xor true false = refl
truth-xor false true = refl
truth-xor false false = refl
