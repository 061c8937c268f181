-- Spans of a list, and what stands in them.
use Rattle.std.specs.Prelude.{◌≤◌, ℕ, List, map, slice_range, All}
use Rattle.lane_sim.specs.declared.gate.ListRange.{ListRange}

-- the members of a list in a span
abbrev pub piece : {X : Type 0} → List X → ListRange → List X
piece list span = slice_range list span.start span.end

-- the members in each of some spans
abbrev pub pieces : {X : Type 0} → List X → List ListRange → List (List X)
pieces list spans = map (piece list) spans

-- the span is one of a list with so many members
abbrev pub IsSpan : ℕ → ListRange → Type 0
IsSpan many span = (span.start ≤ span.end) × (span.end ≤ many)

-- each of the spans is
abbrev pub AreSpans : ℕ → List ListRange → Type 0
AreSpans many spans = All (IsSpan many) spans
