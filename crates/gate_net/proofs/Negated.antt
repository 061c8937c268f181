-- Negations stay at inputs as gates are added.
use Rattle.std.specs.Prelude.{◌≡◌, ℕ, ◌≤◌, true, List, [], ◌∷◌, ◌++◌, length, refl}
use Rattle.std.proofs.Common.{sym, ◌∙◌, ap, arith}
use Rattle.std.proofs.lemmas.List.{get_or_append_left}
use Rattle.std.proofs.lemmas.List.Elements.{All-append, All-from_recursion, All-from_get_or}
use Rattle.gate_net.specs.declared.line.Line.{Line}
use Rattle.gate_net.specs.declared.gate.Gate.{Gate}
use Rattle.gate_net.specs.declared.gate.Gate.TheVariants as gate
use Rattle.gate_net.specs.Signal.Signal.{Zero, Input}
use Rattle.gate_net.specs.Gates.{GateNetwork, gate_at, gate_signal, meaning, IsLine, ReadsBelow, ReadsWithin, IsHashed, with_gate}
use Rattle.gate_net.specs.Negations.{is_zero, is_input, negates_inputs, NegatesOnlyInputs}
use Rattle.gate_net.proofs.Signals.{meaning_is}
use Rattle.gate_net.proofs.Once.{by_cases}

is_input-from : (G : GateNetwork) (g : Gate) (i : ℕ) → gate_signal G g ≡ Input i → is_input g ≡ true
is_input-from G (gate.Input j) i e = refl
is_input-from G _ i e = cc

-- a line that means an input has an input for its gate
pub input_line : (G : GateNetwork) (line : Line) (i : ℕ) → IsHashed G → IsLine G line → meaning G line ≡ Input i → is_input (gate_at G.gates line.number) ≡ true
input_line G line i sound within e = is_input-from G (gate_at G.gates line.number) i (sym (meaning_is G line sound within) ∙ e)

is_zero-from : (G : GateNetwork) (g : Gate) → gate_signal G g ≡ Zero → is_zero g ≡ true
is_zero-from G gate.Zero e = refl
is_zero-from G _ e = cc

-- a line that means 0 has the gate 0
pub zero_line : (G : GateNetwork) (line : Line) → IsHashed G → IsLine G line → meaning G line ≡ Zero → is_zero (gate_at G.gates line.number) ≡ true
zero_line G line sound within e = is_zero-from G (gate_at G.gates line.number) (sym (meaning_is G line sound within) ∙ e)

-- more gates leave where a gate negates
negates-more : (G : GateNetwork) (more : List Gate) (n : ℕ) (g : Gate) → n ≤ length G.gates → ReadsBelow G n g → negates_inputs (G.gates ++ more) g ≡ negates_inputs G.gates g
negates-more G more n (gate.Not a) le r = ap is_input (get_or_append_left G.gates more gate.Zero a.number (omega (arith, le, r)))
negates-more G more n _ le r = refl

-- one gate more that negates only an input
pub with_gate-negates : (G : GateNetwork) (g : Gate) → IsHashed G → NegatesOnlyInputs G → ReadsWithin G g → negates_inputs G.gates g ≡ true → NegatesOnlyInputs (with_gate G g)
with_gate-negates G g sound negates reads e = by_cases NegatesOnlyInputs G g negates (λ missing.
    All-append (λ h. negates_inputs (G.gates ++ g ∷ []) h ≡ true) G.gates (g ∷ [])
    (All-from_get_or (λ h. negates_inputs (G.gates ++ g ∷ []) h ≡ true) G.gates gate.Zero
    (λ n lt. negates-more G (g ∷ []) n (gate_at G.gates n) (omega (arith, lt)) (sound.ordered n lt) ∙ negates n gate.Zero lt))
    (All-from_recursion (λ h. negates_inputs (G.gates ++ g ∷ []) h ≡ true) (g ∷ []) (negates-more G (g ∷ []) (length G.gates) g (omega arith) reads ∙ e, tt)))
