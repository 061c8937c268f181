-- Where one of the first rows answers is marked, and at the points without another mark the outputs fit those rows.
use Rattle.std.proofs.Common.{◌≡◌, ℕ, ◌+◌, ◌/◌, ◌%◌, ◌^◌, ◌<◌, true, false, length, take, get_or}
use Rattle.std.specs.List.{list_any}
use Rattle.tsc_bits.specs.Bits.{bit_worth}
use Rattle.tsc_net.specs.MachineView.{row_applies}
use Rattle.tsc_net.specs.declared.machine.MachineRow.{MachineRow}
use Rattle.code_lanes.specs.Lanes.{column}
use Rattle.behaviour_audit.specs.Lanes.{Fits, asked_under}
use Rattle.behaviour_audit.proofs.machine_lanes.wrong_answers.Given as goal

abbrev pub invariant-loop-row : goal.invariant-loop-row
invariant-loop-row l = record {
  answered : (k : ℕ) → k < 64
      → bit_worth k l.answered ≡ list_any (row_applies ((l.base + k) / 2 ^ l.machine.table.inputs) ((l.base + k) % 2 ^ l.machine.table.inputs)) (take l.row-index l.row-items);
  fits : (k : ℕ) → k < 64 → bit_worth k l.wrong ≡ false → (j : ℕ) → j < l.row-index → (d : MachineRow)
      → row_applies ((l.base + k) / 2 ^ l.machine.table.inputs) ((l.base + k) % 2 ^ l.machine.table.inputs) (get_or l.row-items j d) ≡ true
      → Fits (length l.outputs) (column k l.outputs) (asked_under l.version (get_or l.row-items j d).care) (get_or l.row-items j d).outputs;
}
