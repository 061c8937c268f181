-- At the points without a mark, no one of the first rows answers and names its next state.
use Rattle.std.proofs.Common.{◌≡◌, ℕ, ◌+◌, ◌/◌, ◌%◌, ◌^◌, ◌<◌, true, false, get_or}
use Rattle.tsc_bits.specs.Bits.{bit_worth}
use Rattle.tsc_net.specs.MachineView.{row_applies}
use Rattle.tsc_net.specs.declared.machine.MachineRow.{MachineRow}
use Rattle.behaviour_audit.proofs.free_next.named_next.Given as goal

abbrev pub invariant-loop-row : goal.invariant-loop-row
invariant-loop-row l = record {
  unnamed : (k : ℕ) → k < 64 → bit_worth k l.named ≡ false → (j : ℕ) → j < l.row-index → (d : MachineRow)
      → row_applies ((l.base + k) / 2 ^ l.machine.table.inputs) ((l.base + k) % 2 ^ l.machine.table.inputs) (get_or l.row-items j d) ≡ true
      → (get_or l.row-items j d).named ≡ false;
}
