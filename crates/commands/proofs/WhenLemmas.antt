-- Spans in rising order, item by item.
use Rattle.std.proofs.Common.{◌≡◌, ℕ, ◌+◌, ◌<◌, ◌≤◌, true, List, [], ◌∷◌, ◌++◌, length, drop, get_or, All, Option, None, Some, refl, sym, ◌∙◌, ap, arith, append_assoc}
use Rattle.std.specs.Prelude.{option_and_then, option_map}
use Rattle.std.proofs.lemmas.List.{at_drop_more, at_drop_all, append-nil}
use Rattle.std.proofs.lemmas.List.Elements.{All-nil, All-push, All-weaker}
use Rattle.std.proofs.lemmas.Bool.Decides.{nat_tests}
use Rattle.tsc_net.specs.declared.when.Span.{Span}
use Rattle.commands.specs.WhenWords.{is_above, next_span, rising_spans}

-- the spans so far end at the last step, if there are any
abbrev pub AreUpTo : List Span → Option ℕ → Type 0
AreUpTo spans None = spans ≡ []
AreUpTo spans (Some last) = All (λ s. s.last ≤ last) spans

-- the spans so far, and those of the items from one on
abbrev pub spans_with : List Span → Option ℕ → List (List ℕ) → Option (List Span)
spans_with spans last items = option_map (λ more. spans ++ more) (rising_spans last items)

-- the next item gives a span
pub with-next : (spans : List Span) (last : Option ℕ) (items : List (List ℕ)) (place : ℕ) (item : List ℕ) (s : Span)
    → place < length items → item ≡ get_or items place item → next_span last item ≡ Some s
    → spans_with (spans ++ s ∷ []) (Some s.last) (drop (place + 1) items) ≡ spans_with spans last (drop place items)
with-next spans last items place item s within found next =
    sym (at_drop_more (spans_with spans last) items place item within
    ∙ ap (λ i. spans_with spans last (i ∷ drop (place + 1) items)) (sym found)
    ∙ ap (λ r. option_map (λ more. spans ++ more) (option_and_then (λ t. option_map (λ more. t ∷ more) (rising_spans (Some t.last) (drop (place + 1) items))) r)) next
    ∙ by (rising_spans (Some s.last) (drop (place + 1) items)))
  where
    by : (r : Option (List Span)) → option_map (λ more. spans ++ more) (option_map (λ more. s ∷ more) r) ≡ option_map (λ more. (spans ++ s ∷ []) ++ more) r
    by None = refl
    by (Some more) = ap (λ l. Some l) (sym (append_assoc spans (s ∷ []) more))

-- the next item gives none
pub with-no-next : (spans : List Span) (last : Option ℕ) (items : List (List ℕ)) (place : ℕ) (item : List ℕ)
    → place < length items → item ≡ get_or items place item → next_span last item ≡ None
    → spans_with spans last (drop place items) ≡ None
with-no-next spans last items place item within found next =
    at_drop_more (spans_with spans last) items place item within
    ∙ ap (λ i. spans_with spans last (i ∷ drop (place + 1) items)) (sym found)
    ∙ ap (λ r. option_map (λ more. spans ++ more) (option_and_then (λ t. option_map (λ more. t ∷ more) (rising_spans (Some t.last) (drop (place + 1) items))) r)) next

-- there is no next item
pub with-end : (spans : List Span) (last : Option ℕ) (items : List (List ℕ)) (place : ℕ) → length items ≤ place
    → spans_with spans last (drop place items) ≡ Some spans
with-end spans last items place past =
    at_drop_all (spans_with spans last) items place past ∙ ap (λ l. Some l) (append-nil spans)

-- a span above the last step is above all spans so far
pub all-below : (spans : List Span) (last : Option ℕ) (s : Span) → AreUpTo spans last → is_above last s ≡ true → All (λ o. o.last < s.first) spans
all-below spans None s none above = rw none (All-nil (λ o. o.last < s.first))
all-below spans (Some last) s below above =
    let lt : last < s.first = grind (arith, nat_tests) in
    All-weaker (λ o. o.last ≤ last) (λ o. o.last < s.first) (λ o le. omega arith) spans below

-- the spans so far and a span above them end at its last step
pub up-to-next : (spans : List Span) (s : Span) → All (λ o. o.last < s.first) spans → s.first ≤ s.last → AreUpTo (spans ++ s ∷ []) (Some s.last)
up-to-next spans s below ordered =
    All-push (λ o. o.last ≤ s.last) spans s (All-weaker (λ o. o.last < s.first) (λ o. o.last ≤ s.last) (λ o lt. omega arith) spans below) (omega arith)
