use Rattle.std.proofs.Common.{ℕ, ◌↔◌, IsTrue}
use Rattle.tsc_bits.specs.Bits.{bit_worth}
use Rattle.structure_audit.specs.Lines.{MeetBefore}
use Rattle.structure_audit.proofs.pairs.sharing_lines.Given as goal

abbrev pub invariant-loop-mask : goal.invariant-loop-mask
invariant-loop-mask l = (k : ℕ) → IsTrue (bit_worth k l.sharing) ↔ MeetBefore l.masks l.mask-index k l.place
