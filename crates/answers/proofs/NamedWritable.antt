-- A text can hold the names and the nodes of a netlist whose nets are inputs, outputs or fresh, and whose nodes are narrow.
use Rattle.std.proofs.Common.{◌≡◌, ℕ, ◌^◌, ◌<◌, ◌≤◌, ◌⊎◌, inl, inr, List, [], length, take, All, sym, subst, arith}
use Rattle.std.proofs.lemmas.Bool.{cases_lt}
use Rattle.std.proofs.lemmas.List.{get_or-map, get_or-take, length-map, length-take-le}
use Rattle.std.proofs.lemmas.List.Elements.{All-contains, All-from_get_or, All-get_or, All-weaker}
use Rattle.fault_secure.specs.Circuit.{NodeOf, nets}
use Rattle.tsc_net.specs.Names.{text_at}
use Rattle.tsc_net.specs.NetlistOf.{NetlistOf, IsBuilt, names_of}
use Rattle.blif_write.specs.Writable.{IsGoodName, IsWritableNode}
use Rattle.unate_synth.specs.UnateNetlist.{IsNarrow, IsOutputOrFresh}
use Rattle.answers.proofs.FreshWritable.{fresh_good}

-- what holds of each name of a list of nets
pub all_named : (P : List ℕ → Type 0) (names : List (List ℕ)) (nets : List ℕ) → All P (names_of names nets) → All (λ net. P (text_at names net)) nets
all_named P names nets all =
    All-from_get_or (λ net. P (text_at names net)) nets 0 (λ k h.
    let low : k < length (names_of names nets) = omega (arith, h, length-map nets (text_at names)) in
    subst P (get_or-map (text_at names) nets k 0 [] h) (All-get_or P (names_of names nets) k [] low all))

-- a net that is an output, or has a fresh name with a number, has a good name where the outputs have
pub named_good : (N : NetlistOf) (number net : ℕ) → number < 2 ^ 64 → All (λ (n : ℕ). IsGoodName (text_at N.names n)) N.circuit.outputs → IsOutputOrFresh N number net → IsGoodName (text_at N.names net)
named_good N number net small shown (inl output) = All-contains (λ (n : ℕ). IsGoodName (text_at N.names n)) N.circuit.outputs net shown output
named_good N number net small shown (inr fresh) = subst IsGoodName (sym fresh.2) (fresh_good number fresh.0 small fresh.1)

-- a narrow node can be written
pub narrow_writable : (nodes : List NodeOf) → All IsNarrow nodes → All IsWritableNode nodes
narrow_writable nodes narrow = All-weaker IsNarrow IsWritableNode (λ n h. record { pins = omega (arith, h.pins); rows = h.sized; set = h.set }) nodes narrow

-- names of inputs that are good, and names of the other nets
pub names_good : (N : NetlistOf) → IsBuilt N → All IsGoodName (take N.circuit.inputs N.names)
    → ((net : ℕ) → N.circuit.inputs ≤ net → net < nets N.circuit → IsGoodName (text_at N.names net)) → All IsGoodName N.names
names_good N checked given inner = All-from_get_or IsGoodName N.names [] (λ k h. by k h (cases_lt k N.circuit.inputs))
  where
    sized : length N.names ≡ nets N.circuit
    sized = checked.sized

    counted : length (take N.circuit.inputs N.names) ≡ N.circuit.inputs
    counted = length-take-le N.circuit.inputs N.names (omega (arith, sized))

    by : (k : ℕ) → k < length N.names → (k < N.circuit.inputs) ⊎ (N.circuit.inputs ≤ k) → IsGoodName (text_at N.names k)
    by k h (inl low) = subst IsGoodName (get_or-take N.circuit.inputs N.names k [] low) (All-get_or IsGoodName (take N.circuit.inputs N.names) k [] (omega (arith, low, counted)) given)
    by k h (inr past) = inner k past (omega (arith, h, sized))
