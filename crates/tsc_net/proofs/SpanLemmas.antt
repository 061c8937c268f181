-- Spans of lists that grow.
use Rattle.std.proofs.Common.{◌≡◌, ℕ, ◌+◌, ◌-◌, ◌≤◌, List, [], ◌∷◌, ◌++◌, length, map, get_or, take, drop, All, refl, sym, ap, ap₂, ◌∙◌, subst, arith, length-append}
use Rattle.std.proofs.Math.Logic.{⊎_elim}
use Rattle.std.proofs.lemmas.Bool.{cases_lt}
use Rattle.std.proofs.lemmas.List.{take_all, take-append-le, drop-append-le, length-drop, map-append, get_or_append_left, get_or-append-add}
use Rattle.std.proofs.lemmas.List.Elements.{All-head, All-tail}
use Rattle.tsc_net.specs.declared.spans.ListSpan.{ListSpan}
use Rattle.tsc_net.specs.inner.Spans.{piece, IsSpan}

module _ {X : Type 0} where
  -- what stands in a span stays
  pub piece_stays : (list more : List X) (span : ListSpan) → IsSpan (length list) span → piece (list ++ more) span ≡ piece list span
  piece_stays list more span inside =
      let a = inside.0 in
      let b = inside.1 in
      ap (take (span.end - span.start)) (drop-append-le span.start list more (omega arith))
      ∙ take-append-le (span.end - span.start) (drop span.start list) more (omega (arith, length-drop span.start list))

  drop_front : (list more : List X) → drop (length list) (list ++ more) ≡ more
  drop_front [] more = refl
  drop_front (x ∷ list) more = drop_front list more

  -- what was added stands in its span
  pub piece_last : (list more : List X) (span : ListSpan) → span.start ≡ length list → span.end ≡ length list + length more → piece (list ++ more) span ≡ more
  piece_last list more span start end =
      ap (λ n. take (span.end - n) (drop n (list ++ more))) start
      ∙ ap (take (span.end - length list)) (drop_front list more)
      ∙ take_all (span.end - length list) more (omega (arith, end))

-- items that each have a span of a list, and what is made of the piece there and of the item
module _ {X A B : Type 0} (span : A → ListSpan) (made : List X → A → B) where
  pub seen_stay : (list more : List X) (items : List A) → All (λ a. IsSpan (length list) (span a)) items
      → map (λ a. made (piece (list ++ more) (span a)) a) items ≡ map (λ a. made (piece list (span a)) a) items
  seen_stay list more [] inside = refl
  seen_stay list more (a ∷ items) inside =
      ap₂ ◌∷◌ (ap (λ p. made p a) (piece_stays list more (span a) (All-head (λ a. IsSpan (length list) (span a)) a items inside)))
      (seen_stay list more items (All-tail (λ a. IsSpan (length list) (span a)) a items inside))

  -- one item more, over what was added to the list
  pub seen_more : (list more : List X) (items : List A) (a : A) → All (λ a. IsSpan (length list) (span a)) items
      → (span a).start ≡ length list → (span a).end ≡ length list + length more
      → map (λ a. made (piece (list ++ more) (span a)) a) (items ++ a ∷ []) ≡ map (λ a. made (piece list (span a)) a) items ++ made more a ∷ []
  seen_more list more items a inside start end =
      map-append (λ a. made (piece (list ++ more) (span a)) a) items (a ∷ [])
      ∙ ap₂ (λ front last. front ++ made last a ∷ []) (seen_stay list more items inside) (piece_last list more (span a) start end)

-- spans of a list are spans of a longer one
module _ {A : Type 0} (span : A → ListSpan) where
  pub spans_stay : (many more : ℕ) (items : List A) → All (λ a. IsSpan many (span a)) items → many ≤ more → All (λ a. IsSpan more (span a)) items
  spans_stay many more items inside grown k d below = let old = inside k d below in let b = old.1 in (old.0, omega arith)

  pub spans_more : (many more : ℕ) (items : List A) (a : A) → All (λ a. IsSpan many (span a)) items → IsSpan more (span a) → many ≤ more
      → All (λ a. IsSpan more (span a)) (items ++ a ∷ [])
  spans_more many more items a inside here grown k d below = ⊎_elim
      (λ before.
      let old = inside k d before in
      subst (λ a. IsSpan more (span a)) (sym (get_or_append_left items (a ∷ []) d k before)) (let b = old.1 in (old.0, omega arith)))
      (λ last.
      let is : k ≡ length items + 0 = omega (arith, length-append items (a ∷ [])) in
      subst (λ a. IsSpan more (span a)) (sym (ap (λ n. get_or (items ++ a ∷ []) n d) is ∙ get_or-append-add items (a ∷ []) 0 d)) here)
      (cases_lt k (length items))
