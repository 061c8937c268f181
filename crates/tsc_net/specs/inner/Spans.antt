-- Spans of a list, and what stands in them.
use Rattle.std.specs.Prelude.{◌≤◌, ℕ, List, slice_range}
use Rattle.tsc_net.specs.declared.spans.ListSpan.{ListSpan}

-- the items of a list in a span
abbrev pub piece : {X : Type 0} → List X → ListSpan → List X
piece list span = slice_range list span.start span.end

-- the span is one of a list with so many items
abbrev pub IsSpan : ℕ → ListSpan → Type 0
IsSpan many span = (span.start ≤ span.end) × (span.end ≤ many)
