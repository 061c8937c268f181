use Rattle.std.proofs.Common.{◌≡◌, ◌≤◌, ◌<◌, ◌+◌, ◌*◌, ℕ, Bool, ◌||◌, List, length, drop, count_by}
use Rattle.fault_secure.specs.Circuit.{bit}
use Rattle.gate_net.specs.Gates.{line_values}
use Rattle.gate_net.specs.Growth.{Grows}
use Rattle.gate_net.specs.Negations.{NegatesOnlyInputs}
use Rattle.tsc_bits.specs.Counting.{some_both}
use Rattle.machine_lines.specs.MachineLines.{bits_of_states}
use Rattle.machine_lines.specs.Cases.{AreCases, has_one, some_case, rows_before}
use Rattle.machine_lines.proofs.states.machine_cases.Given as goal

-- the cases of the states so far, and the answers of those that are left, are all
abbrev pub invariant-loop-state : goal.invariant-loop-state
invariant-loop-state l = record {
  value : (x : List Bool) (s : ℕ → Bool) (place : ℕ)
      → (some_case l.widths l.gates (bit x) s place l.cases
      || some_both (drop l.state (line_values l.fn.gates (bit x) s l.decoded)) (drop l.state (bits_of_states l.code l.widths.checks l.widths.bits l.codes.words.words l.machine.table x place)))
      ≡ some_both (line_values l.fn.gates (bit x) s l.decoded) (bits_of_states l.code l.widths.checks l.widths.bits l.codes.words.words l.machine.table x place);
  within : AreCases l.gates l.cases;
  count : length l.cases ≡ rows_before l.machine.table l.state + l.state;
  ones : (place : ℕ) → place < l.widths.outputs → count_by (has_one l.widths place) l.cases ≤ rows_before l.machine.table l.state;
  grown : Grows l.fn.gates l.gates;
  signs : NegatesOnlyInputs l.fn.gates → NegatesOnlyInputs l.gates;
  few : length l.gates.gates ≤ length l.fn.gates.gates + (rows_before l.machine.table l.state * (6 * l.machine.table.inputs + 3) + l.state);
}
