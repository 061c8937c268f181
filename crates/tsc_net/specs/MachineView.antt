-- What is seen of a machine of the code: the state table that its rows of numbers stand for, and the rules that they keep.
use Rattle.std.specs.Prelude.{◌≡◌, ℕ, ◌<◌, ◌≤◌, ◌^◌, ◌==◌, Bool, false, ◌&&◌, List, map, None, Some, IsFalse, All, bit_and, bit_xor}
use Rattle.tsc_bits.specs.Bits.{bits_of}
use Rattle.tsc_cover.specs.Row.{literals_of, IsRow}
use Rattle.tsc_cover.specs.declared.rows.Row01.{Row01}
use Rattle.fault_secure.specs.Logic.{StateTable, Transition, starts_at}
use Rattle.tsc_net.specs.Overlap.{AreConsistent}
use Rattle.tsc_net.specs.declared.machine.MachineRow.{MachineRow}

-- a state table, and the number of each row's line
pub record MachineOf : Type 0 where
  pub table : StateTable
  pub lines : List ℕ

-- the row of a table with so many inputs and outputs that a row of numbers stands for
abbrev pub transition_of : ℕ → ℕ → MachineRow → Transition
transition_of inputs outputs row = record {
  input = literals_of inputs row.input;
  from = row.from;
  next = row.next;
  named = row.named;
  outputs = bits_of outputs row.outputs;
  care = bits_of outputs row.care;
}

abbrev pub transitions_of : ℕ → ℕ → List MachineRow → List Transition
transitions_of inputs outputs rows = map (transition_of inputs outputs) rows

-- the line of each row
abbrev pub lines_of : List MachineRow → List ℕ
lines_of rows = map (λ row. row.line) rows

abbrev pub machine_of : ℕ → ℕ → ℕ → ℕ → List MachineRow → MachineOf
machine_of inputs outputs states reset rows = record {
  table = record { inputs = inputs; outputs = outputs; states = states; reset = reset; rows = transitions_of inputs outputs rows };
  lines = lines_of rows;
}

-- the outputs of a row, of which it specifies those of `care`
abbrev pub outputs_row : MachineRow → Row01
outputs_row row = record { care = row.care; value = row.outputs }

-- a row of a machine with so many inputs, outputs and states and this reset state: its numbers keep within their bits, an
-- output that it doesn't specify is 0, its states are states, and a next state that it doesn't name is the reset state
pub record IsMachineRow (inputs outputs states reset : ℕ) (row : MachineRow) : Type 0 where
  pub input : row.input.care < 2 ^ inputs
  pub asked : row.input.value < 2 ^ inputs
  pub given : IsRow outputs (outputs_row row)
  pub from : (q : ℕ) → row.from ≡ Some q → q < states
  pub next : row.next < states
  pub unnamed : IsFalse row.named → row.next ≡ reset

-- the numbers are a machine: they keep their limits, the reset state is a state, and no two rows that overlap differ
pub record IsMachine (inputs outputs states reset : ℕ) (rows : List MachineRow) : Type 0 where
  pub some_inputs : 1 ≤ inputs
  pub few_inputs : inputs ≤ 64
  pub some_outputs : 1 ≤ outputs
  pub few_outputs : outputs ≤ 64
  pub few_states : states ≤ 4096
  pub is_state : reset < states
  pub each : All (IsMachineRow inputs outputs states reset) rows
  pub consistent : AreConsistent (transitions_of inputs outputs rows)

-- the row answers at this state and at the input of these bits
abbrev pub row_applies : ℕ → ℕ → MachineRow → Bool
row_applies state input row =
    starts_at row.from state && (bit_and (bit_xor input row.input.value) row.input.care == 0)

-- what stands past the end of a list of rows
abbrev pub no_row : MachineRow
no_row = record { input = record { care = 0; value = 0 }; from = None; next = 0; named = false; outputs = 0; care = 0; line = 0 }
