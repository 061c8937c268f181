-- Where in a list of nets those stand that a cell can change.
use Rattle.std.specs.Prelude.{◌≡◌, ℕ, ◌+◌, ◌<◌, ◌≤◌, ◌==◌, ◌⊎◌, Bool, true, false, if◌then◌else◌, List, length, slice_index, slice_index_or}
use Rattle.fault_secure.specs.Circuit.{Circuit, node_net}
use Rattle.fault_secure.specs.Depends.{Depends}
use Rattle.unheard_cells.specs.declared.spans.Span.{Span}

-- of the first nets of the list, so many of them, those that depend on a node stand in the span
pub record IsSpanOf (N : Circuit) (list : List ℕ) (many q : ℕ) (span : Span) : Type 0 where
  pub order : span.low ≤ span.past
  pub within : span.past ≤ many
  pub whole : (k : ℕ) → k < many → Depends N q (slice_index list k) → (span.low ≤ k) × (k < span.past)

-- a span for each node
pub record AreSpansOf (N : Circuit) (list : List ℕ) (many : ℕ) (spans : List Span) : Type 0 where
  pub sized : length spans ≡ length N.nodes
  pub each : (q : ℕ) (d : Span) → q < length N.nodes → IsSpanOf N list many q (slice_index_or spans q d)

-- the span with a place after all of its own
abbrev pub widened : ℕ → Span → Span
widened place span = record { low = if span.past == 0 then place else span.low; past = place + 1 }

abbrev pub widened_if : Bool → ℕ → Span → Span
widened_if true place span = widened place span
widened_if false place span = span

-- the cell is a node on which the net doesn't depend
pub record IsNodeApart (N : Circuit) (cell net : ℕ) : Type 0 where
  pub node : ℕ
  pub inside : node < length N.nodes
  pub drives : node_net N node ≡ cell
  pub apart : Depends N node net → ⊥

-- outside the span no net of the list depends on the cell
pub record IsSpanOfCell (N : Circuit) (list : List ℕ) (cell : ℕ) (span : Span) : Type 0 where
  pub within : span.past ≤ length list
  pub outside : (k : ℕ) → k < length list → (k < span.low) ⊎ (span.past ≤ k) → IsNodeApart N cell (slice_index list k)
