-- The lines of a machine's word.
use Rattle.std.proofs.Common.{◌≡◌, ℕ, ◌+◌, Bool, true, false, List, [], ◌∷◌, map, length, refl, sym, ◌∙◌, ap, subst, arith}
use Rattle.std.specs.List.{range_with_len}
use Rattle.std.proofs.lemmas.List.{length-map}
use Rattle.std.proofs.lemmas.List.Elements.{All-from_recursion}
use Rattle.std.proofs.lemmas.List.FromFn.{length-map-range_with_len, get_or-map-range_with_len}
use Rattle.fault_secure.specs.Circuit.{bit}
use Rattle.fault_secure.specs.declared.code.Code.{Code}
use Rattle.fault_secure.specs.Logic.{StateTable}
use Rattle.gate_net.specs.declared.line.Line.{Line}
use Rattle.gate_net.specs.declared.gate.Gate.TheVariants as gate
use Rattle.gate_net.specs.Gates.{GateNetwork, IsHashed, line_values, with_gate}
use Rattle.gate_net.specs.Growth.{ComputesAll}
use Rattle.gate_net.specs.Negations.{negates_inputs, NegatesOnlyInputs}
use Rattle.gate_net.proofs.Signs.{lines_negate}
use Rattle.state_code.specs.Lines.{decoded}
use Rattle.tsc_bits.specs.Counting.{some_both}
use Rattle.machine_lines.specs.MachineLines.{AreMachineLines, bits_of_states}
use Rattle.machine_lines.specs.Cases.{some_case}
use Rattle.machine_lines.specs.declared.cases.Case.{Case}
use Rattle.machine_lines.specs.declared.widths.Widths.{Widths}

-- the constant 0 alone negates nothing
pub zero_negates : (start here : GateNetwork) (inputs states : ℕ) → start ≡ record { inputs = inputs; states = states; gates = [] } → here ≡ with_gate start gate.Zero → NegatesOnlyInputs here
zero_negates start here inputs states e f =
    let alone : GateNetwork = record { inputs = inputs; states = states; gates = gate.Zero ∷ [] } in
    let is : here ≡ record { inputs = inputs; states = states; gates = gate.Zero ∷ [] } = f ∙ ap (λ (G : GateNetwork). with_gate G gate.Zero) e in
    subst NegatesOnlyInputs (sym is) (All-from_recursion (λ g. negates_inputs (gate.Zero ∷ []) g ≡ true) (gate.Zero ∷ []) (refl, tt))

-- lines that choose among the cases of all states, where these choose the bits of the answers, are the machine's
pub word_chosen : (code : Code) (W : Widths) (words : List ℕ) (M : StateTable) (z a b c : GateNetwork) (states states' word : List Line) (cases cases' : List Case) → W.outputs ≡ M.outputs
    → ComputesAll z a (λ x s. map (decoded W.bits s) words) states → states' ≡ states
    → ((x : List Bool) (s : ℕ → Bool) (place : ℕ) → some_case W b (bit x) s place cases ≡ some_both (line_values a (bit x) s states') (bits_of_states code W.checks W.bits words M x place)) → cases' ≡ cases
    → ComputesAll b c (λ x s. map (λ place. some_case W b x s place cases') (range_with_len 0 (W.outputs + W.checks + W.bits))) word → IsHashed c → NegatesOnlyInputs c → AreMachineLines code W.checks W.bits words M c word
word_chosen code W words M z a b c states states' word cases cases' same decodes is_states value is_cases lines sound negates =
    let total = W.outputs + W.checks + W.bits in
    let none : ℕ → Bool = λ i. false in
    let counted : length word ≡ W.outputs + W.checks + W.bits
    = sym (length-map word _) ∙ ap length (lines.values none none) ∙ length-map-range_with_len (λ place. some_case W b none none place cases') 0 (W.outputs + W.checks + W.bits) in
    record {
      lines = lines.within;
      count = counted ∙ ap (λ (o : ℕ). o + W.checks + W.bits) same;
      negate = lines_negate c word sound negates lines.within;
      chosen = λ x s place lt.
          ap (λ (bits : List Bool). bit bits place) (lines.values (bit x) s)
          ∙ get_or-map-range_with_len (λ p. some_case W b (bit x) s p cases') 0 total place place false (omega (arith, lt, counted)) (omega arith)
          ∙ ap (some_case W b (bit x) s place) is_cases
          ∙ value x s place
          ∙ ap (λ (bits : List Bool). some_both bits (bits_of_states code W.checks W.bits words M x place)) (ap (line_values a (bit x) s) is_states ∙ decodes.values (bit x) s);
    }
