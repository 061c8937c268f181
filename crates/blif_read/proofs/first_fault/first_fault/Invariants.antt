use Rattle.std.proofs.Common.{drop, ◌≡◌}
use Rattle.blif_read.specs.FirstFault.{first_fault, first_fault_after}
use Rattle.blif_read.specs.Faults.{IsWithin}
use Rattle.blif_read.proofs.first_fault.first_fault.Given as goal

abbrev pub invariant-loop-place : goal.invariant-loop-place
invariant-loop-place l = record {
  same : first_fault l.kind l.section ≡ first_fault_after l.kind l.seen (drop l.place l.section);
  within : IsWithin l.kind l.seen;
}
