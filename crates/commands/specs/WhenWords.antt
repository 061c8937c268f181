-- The word that says at which steps a fault is present: a number, for all steps from it on, or spans of steps in rising order.
use Rattle.std.specs.Prelude.{ℕ, ◌+◌, ◌==◌, Bool, true, nat_le, nat_lt, if◌then◌else◌, List, [], ◌∷◌, count_by, drop, take, position, Option, None, Some, option_and_then, option_map}
use Rattle.std.specs.List.{slice_split}
use Rattle.tsc_net.specs.declared.when.Span.{Span}
use Rattle.tsc_text.specs.Number.{number_of}

-- the greatest number that a step has
abbrev pub last_step : ℕ
last_step = 18446744073709551615

-- the steps from one to another
abbrev pub span : ℕ → ℕ → Span
span first last = record { first = first; last = last }

-- the same, where they are in order
abbrev pub ordered_span : ℕ → ℕ → Option Span
ordered_span first last = if nat_le first last then Some (span first last) else None

-- the span from a step to the one that the rest of an item names; without a rest to the last step of all
abbrev pub span_to : ℕ → List ℕ → Option Span
span_to first [] = Some (span first last_step)
span_to first (b ∷ rest) = option_and_then (ordered_span first) (number_of (b ∷ rest))

-- an item, cut at its first `-`, if it has one: `a` is one step, `a-b` a span, `a-` all steps from a on
abbrev pub span_cut : Option ℕ → List ℕ → Option Span
span_cut None item = option_map (λ step. span step step) (number_of item)
span_cut (Some at) item = option_and_then (λ first. span_to first (drop (at + 1) item)) (number_of (take at item))

-- the span that an item names, cut at its first `-`, if it has one
abbrev pub item_span : List ℕ → Option Span
item_span item = span_cut (position (λ b. b == 45) item) item

-- the span begins above the last step of the spans before, if there are any
abbrev pub is_above : Option ℕ → Span → Bool
is_above None s = true
is_above (Some last) s = nat_lt last s.first

-- the span of an item after those spans
abbrev pub next_span : Option ℕ → List ℕ → Option Span
next_span last item = option_and_then (λ s. if is_above last s then Some s else None) (item_span item)

-- the spans of items, in rising order. So an item `a-` can be the last one only
abbrev pub rising_spans : Option ℕ → List (List ℕ) → Option (List Span)
rising_spans last [] = Some []
rising_spans last (item ∷ items) =
    option_and_then (λ s. option_map (λ spans. s ∷ spans) (rising_spans (Some s.last) items)) (next_span last item)

-- 1 to 64 items, parted by `,`
abbrev pub spans_of : List ℕ → Option (List Span)
spans_of word =
    if nat_lt (count_by (λ b. b == 44) word) 64 then rising_spans None (slice_split (λ b. b == 44) word) else None

-- a number means all steps from it on, another word its items
abbrev pub when_from : Option ℕ → List ℕ → Option (List Span)
when_from None word = spans_of word
when_from (Some first) word = Some (span first last_step ∷ [])

-- the steps that a word names, if it names any
abbrev pub when_of : List ℕ → Option (List Span)
when_of word = when_from (number_of word) word
