-- What the lines of a machine's gates are 1 for: its outputs, after them their checks, and then the next state's word.
use Rattle.std.specs.Prelude.{◌≡◌, ℕ, ◌+◌, ◌<◌, Bool, List, ◌++◌, map, length, slice_index_or, All}
use Rattle.std.specs.List.{range_with_len}
use Rattle.tsc_bits.specs.Bits.{bits_of}
use Rattle.tsc_bits.specs.Counting.{some_both}
use Rattle.fault_secure.specs.Circuit.{bit}
use Rattle.fault_secure.specs.declared.code.Code.{Code}
use Rattle.mofn_code.specs.CheckBits.{check_bits}
use Rattle.fault_secure.specs.Logic.{StateTable, answering, outputs_of_rows, next_of_rows}
use Rattle.gate_net.specs.declared.line.Line.{Line}
use Rattle.gate_net.specs.Gates.{GateNetwork, AreLines, meanings, line_values}
use Rattle.gate_net.specs.Realised.{NegatesInputs}
use Rattle.state_code.specs.Lines.{decoded}

-- the word of what a state answers at an input: the outputs, their checks, and the word of the next state, of n bits
abbrev pub answer_word : Code → ℕ → ℕ → List ℕ → StateTable → List Bool → ℕ → List Bool
answer_word code checks n words M x q =
    let rows = answering M q x in
    let ys = outputs_of_rows M rows in
    (ys ++ check_bits code checks ys) ++ bits_of n (slice_index_or words (next_of_rows M rows) 0)

-- the bit at a place of each state's answer
abbrev pub bits_of_states : Code → ℕ → ℕ → List ℕ → StateTable → List Bool → ℕ → List Bool
bits_of_states code checks n words M x place =
    map (λ q. bit (answer_word code checks n words M x q) place) (range_with_len 0 M.states)

-- the lines negate only inputs, and each is 1, on every state word, exactly where some state whose word's ones are all 1 there
-- answers with a 1 at its place
pub record AreMachineLines (code : Code) (checks n : ℕ) (words : List ℕ) (M : StateTable) (G : GateNetwork) (word : List Line) : Type 0 where
  pub lines : AreLines G word
  pub count : length word ≡ M.outputs + checks + n
  pub negate : All NegatesInputs (meanings G word)
  pub chosen : (x : List Bool) (s : ℕ → Bool) (place : ℕ) → place < length word
      → bit (line_values G (bit x) s word) place ≡ some_both (map (decoded n s) words) (bits_of_states code checks n words M x place)
