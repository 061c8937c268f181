-- What is specified so far is what the rows so far specify.
use Rattle.std.proofs.Common.{◌≡◌, ℕ, ◌&&◌, take}
use Rattle.std.specs.List.{list_any}
use Rattle.tsc_bits.specs.Bits.{bit_worth}
use Rattle.tsc_net.specs.MachineView.{row_applies}
use Rattle.tsc_net.proofs.machine.specified.Given as goal

abbrev pub invariant-loop-row : goal.invariant-loop-row
invariant-loop-row l =
    (k : ℕ) → bit_worth k l.care ≡ list_any (λ row. row_applies l.state l.input row && bit_worth k row.care) (take l.row-index l.rows)
