use Rattle.std.proofs.Common.{◌≡◌, ℕ, ◌<◌, ◌≤◌, not, ◌&&◌, length}
use Rattle.fault_secure.specs.Circuit.{bit}
use Rattle.structure_audit.proofs.marks.without.Given as goal

abbrev pub invariant-loop-place : goal.invariant-loop-place
invariant-loop-place l = record {
  sized : length l.marks.items ≡ length l.initial.marks.items;
  before : (q : ℕ) → q < l.place → bit l.marks.items q ≡ (bit l.initial.marks.items q && not (bit l.others q));
  after : (q : ℕ) → l.place ≤ q → bit l.marks.items q ≡ bit l.initial.marks.items q;
}
