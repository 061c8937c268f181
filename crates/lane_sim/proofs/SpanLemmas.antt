-- Spans of lists that grow.
use Rattle.std.proofs.Common.{◌≡◌, ℕ, zero, suc, ◌+◌, ◌-◌, ◌≤◌, List, [], ◌∷◌, ◌++◌, length, map, get_or, take, drop, All, refl, sym, ap, ap₂, ◌∙◌, subst, arith, length-append}
use Rattle.std.proofs.Math.Logic.{⊎_elim}
use Rattle.std.proofs.lemmas.Bool.{cases_lt}
use Rattle.std.proofs.lemmas.List.{take_all, take-append-le, drop-append-le, take-map, drop-map, get_or-take, get_or-drop, length-drop, map-append, length-map, get_or_append_left, get_or-append-add, get_or-map}
use Rattle.std.proofs.lemmas.List.Elements.{All-head, All-tail}
use Rattle.lane_sim.specs.declared.gate.ListRange.{ListRange}
use Rattle.lane_sim.specs.Spans.{piece, pieces, IsSpan, AreSpans}

module _ {X : Type 0} where
  -- what stands in a span stays
  pub piece_stays : (list more : List X) (span : ListRange) → IsSpan (length list) span → piece (list ++ more) span ≡ piece list span
  piece_stays list more span inside =
      let a = inside.0 in
      let b = inside.1 in
      ap (take (span.end - span.start)) (drop-append-le span.start list more (omega arith))
      ∙ take-append-le (span.end - span.start) (drop span.start list) more (omega (arith, length-drop span.start list))

  pub pieces_stay : (list more : List X) (spans : List ListRange) → AreSpans (length list) spans → pieces (list ++ more) spans ≡ pieces list spans
  pieces_stay list more [] inside = refl
  pieces_stay list more (span ∷ spans) inside =
      ap₂ ◌∷◌ (piece_stays list more span (All-head (IsSpan (length list)) span spans inside))
      (pieces_stay list more spans (All-tail (IsSpan (length list)) span spans inside))

  drop_front : (list more : List X) → drop (length list) (list ++ more) ≡ more
  drop_front [] more = refl
  drop_front (x ∷ list) more = drop_front list more

  -- what was added stands in its span
  pub piece_last : (list more : List X) (span : ListRange) → span.start ≡ length list → span.end ≡ length list + length more → piece (list ++ more) span ≡ more
  piece_last list more span start end =
      ap (λ n. take (span.end - n) (drop n (list ++ more))) start
      ∙ ap (take (span.end - length list)) (drop_front list more)
      ∙ take_all (span.end - length list) more (omega (arith, end))

  -- one span more
  pub pieces_more : (list more : List X) (spans : List ListRange) (span : ListRange) → AreSpans (length list) spans → span.start ≡ length list → span.end ≡ length list + length more
      → pieces (list ++ more) (spans ++ span ∷ []) ≡ pieces list spans ++ more ∷ []
  pieces_more list more spans span inside start end =
      map-append (piece (list ++ more)) spans (span ∷ [])
      ∙ ap₂ (λ front last. front ++ last ∷ []) (pieces_stay list more spans inside) (piece_last list more span start end)

pub spans_more : (many more : ℕ) (spans : List ListRange) (span : ListRange) → AreSpans many spans → IsSpan more span → many ≤ more → AreSpans more (spans ++ span ∷ [])
spans_more many more spans span inside here grown k d below = ⊎_elim
    (λ before.
    let old = inside k d before in
    subst (IsSpan more) (sym (get_or_append_left spans (span ∷ []) d k before)) (let b = old.1 in (old.0, omega arith)))
    (λ last.
    let is : k ≡ length spans + 0 = omega (arith, length-append spans (span ∷ [])) in
    subst (IsSpan more) (sym (ap (λ n. get_or (spans ++ span ∷ []) n d) is ∙ get_or-append-add spans (span ∷ []) 0 d)) here)
    (cases_lt k (length spans))

length-take_le : {X : Type 0} (n : ℕ) (list : List X) → length (take n list) ≤ n
length-take_le zero list = omega arith
length-take_le (suc n) [] = omega arith
length-take_le (suc n) (x ∷ list) = let b = length-take_le n list in omega arith

length-take_within : {X : Type 0} (n : ℕ) (list : List X) → length (take n list) ≤ length list
length-take_within zero list = omega arith
length-take_within (suc n) [] = omega arith
length-take_within (suc n) (x ∷ list) = let b = length-take_within n list in omega arith

-- ---- what holds of each member holds of each in a span

pub all_in_piece : {X : Type 0} (P : X → Type 0) (list : List X) (span : ListRange) → IsSpan (length list) span → All P list → All P (piece list span)
all_in_piece P list span inside each k d below =
    let a = inside.0 in
    let b = inside.1 in
    let many : length (piece list span) ≤ span.end - span.start = omega (arith, length-take_le (span.end - span.start) (drop span.start list)) in
    let sized : length (piece list span) ≤ length (drop span.start list) = length-take_within (span.end - span.start) (drop span.start list) in
    subst P (sym (get_or-take (span.end - span.start) (drop span.start list) k d (omega arith) ∙ get_or-drop span.start list k d))
    (each (span.start + k) d (omega (arith, length-drop span.start list)))

pub all_unmapped : {X Y : Type 0} (P : Y → Type 0) (f : X → Y) (xs : List X) (e : Y) → All P (map f xs) → All (λ x. P (f x)) xs
all_unmapped P f xs e each k d below = subst P (get_or-map f xs k d e below) (each k e (omega (arith, length-map xs f)))

-- a gate's rows of terms
pub piece_of_pieces : {X : Type 0} (list : List X) (spans : List ListRange) (span : ListRange) → piece (pieces list spans) span ≡ pieces list (piece spans span)
piece_of_pieces list spans span =
    ap (take (span.end - span.start)) (drop-map (piece list) span.start spans) ∙ take-map (piece list) (span.end - span.start) (drop span.start spans)

-- ---- lists that grow with their spans

pub grown_pieces : {X : Type 0} (list new more : List X) (spans grown : List ListRange) (span : ListRange) → AreSpans (length list) spans
    → new ≡ list ++ more → grown ≡ spans ++ span ∷ [] → span.start ≡ length list → span.end ≡ length new → pieces new grown ≡ pieces list spans ++ more ∷ []
grown_pieces list new more spans grown span inside added pushed start end =
    (λ i. pieces (added i) (pushed i)) ∙ pieces_more list more spans span inside start (end ∙ ap length added ∙ length-append list more)

pub grown_spans : (many more : ℕ) (spans grown : List ListRange) (span : ListRange) → AreSpans many spans → grown ≡ spans ++ span ∷ []
    → span.start ≡ many → span.end ≡ more → many ≤ more → AreSpans more grown
grown_spans many more spans grown span inside pushed start end longer =
    subst (AreSpans more) (sym pushed) (spans_more many more spans span inside (omega (arith, start, end), omega (arith, end)) longer)
