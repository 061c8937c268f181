-- The spans so far are widened, and the others are as they were.
use Rattle.std.proofs.Common.{◌≡◌, ℕ, ◌<◌, ◌≤◌, length, slice_index_or}
use Rattle.fault_secure.specs.Circuit.{bit}
use Rattle.unheard_cells.specs.Spans.{widened_if}
use Rattle.unheard_cells.specs.declared.spans.Span.{Span}
use Rattle.unheard_cells.proofs.spans.widen_marked.Given as goal

abbrev pub invariant-loop-node : goal.invariant-loop-node
invariant-loop-node l = record {
  sized : length l.spans ≡ length l.initial.spans;
  done : (q : ℕ) (d : Span) → q < l.node → q < length l.initial.spans → slice_index_or l.spans q d ≡ widened_if (bit l.marks q) l.place (slice_index_or l.initial.spans q d);
  rest : (q : ℕ) (d : Span) → l.node ≤ q → q < length l.initial.spans → slice_index_or l.spans q d ≡ slice_index_or l.initial.spans q d;
}
