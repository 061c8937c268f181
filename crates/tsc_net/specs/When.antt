-- Steps as spans.
use Rattle.std.specs.Prelude.{ℕ, nat_le, Bool, ◌&&◌, List}
use Rattle.std.specs.List.{list_any}
use Rattle.tsc_net.specs.declared.when.Span.{Span}

-- some span holds the step
abbrev pub has_step : List Span → ℕ → Bool
has_step spans step = list_any (λ span. nat_le span.first step && nat_le step span.last) spans
