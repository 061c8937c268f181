-- The first gates of a network's: one for each input, in order.
use Rattle.std.proofs.Common.{◌≡◌, ℕ, ◌+◌, ◌<◌, false, List, [], ◌∷◌, ◌++◌, length, take, sym, ◌∙◌, ap, subst, arith}
use Rattle.std.specs.List.{list_any}
use Rattle.std.proofs.lemmas.Bool.{ne_eqb}
use Rattle.std.proofs.lemmas.List.Folds.{list_any_none}
use Rattle.std.proofs.lemmas.List.FromFn.{get_or-map-range_with_len, length-map-range_with_len, map-range_with_len_more}
use Rattle.gate_net.specs.declared.gate.Gate.{Gate}
use Rattle.gate_net.specs.declared.gate.Gate.TheVariants as gate
use Rattle.gate_net.specs.Gates.{GateNetwork, same_gate, with_gate}
use Rattle.gate_net.specs.Growth.{Grows}
use Rattle.gate_net.specs.NetLines.{input_gates}
use Rattle.gate_net.proofs.Once.{with_gate-missing}

-- there are as many input gates as inputs
pub inputs_counted : (count : ℕ) → length (input_gates count) ≡ count
inputs_counted count = length-map-range_with_len gate.Input 0 count

-- the gate of a further input isn't among those of the inputs before it
none_there : (count : ℕ) → list_any (same_gate (gate.Input count)) (input_gates count) ≡ false
none_there count = list_any_none (same_gate (gate.Input count)) (input_gates count) (λ k d lt.
    let low : k < count = omega (arith, lt, inputs_counted count) in
    subst (λ (g : Gate). same_gate (gate.Input count) g ≡ false) (sym (get_or-map-range_with_len gate.Input 0 count k k d low (omega arith)))
    (ne_eqb count k (λ e. let no : ⊥ = omega (arith, low, e) in no)))

-- one input more
pub input_more : (old new : GateNetwork) (count : ℕ) → old.gates ≡ input_gates count → new ≡ with_gate old (gate.Input count) → new.gates ≡ input_gates (count + 1)
input_more old new count before came =
    ap (λ (G : GateNetwork). G.gates) (came ∙ with_gate-missing old (gate.Input count) (ap (list_any (same_gate (gate.Input count))) before ∙ none_there count))
    ∙ ap (λ (gates : List Gate). gates ++ gate.Input count ∷ []) before
    ∙ sym (map-range_with_len_more gate.Input 0 count count (omega arith))

-- the inputs' gates stay the first ones as gates are added
pub inputs_first : (old new : GateNetwork) (count : ℕ) → Grows old new → old.gates ≡ input_gates count → take count new.gates ≡ input_gates count
inputs_first old new count h is = ap (λ (n : ℕ). take n new.gates) (sym (ap length is ∙ inputs_counted count)) ∙ h.first ∙ is
