-- Tables of names that are written in a row, and the texts of numbered names.
use Rattle.std.proofs.Common.{◌≡◌, ℕ, ◌+◌, ◌<◌, ◌≤◌, Bool, true, false, List, [], ◌∷◌, ◌++◌, map, length, take, drop, get_or, All, refl, sym, ap, ap₂, ◌∙◌, subst, arith, append_assoc, length-append}
use Rattle.std.specs.List.{range_with_len}
use Rattle.std.proofs.lemmas.List.{get_or-append-add, get_or_append_left, get_or_default, length-take-le, take-append-drop, take_more}
use Rattle.std.proofs.lemmas.List.FromFn.{get_or-map-range_with_len, length-map-range_with_len, map-range_with_len_more}
use Rattle.tsc_net.specs.Names.{has_text, text_at, place_of_text, IsNumbering}
use Rattle.tsc_net.specs.Parts.{PartsOf}
use Rattle.tsc_net.specs.PartsView.{texts_of, IsName}
use Rattle.tsc_net.specs.declared.ids.Name.{Name}
use Rattle.tsc_net.proofs.NameLemmas.{place_past, place_within, text_at_place}
use Rattle.net_building.specs.Names.{numbered}
use Rattle.pla_read.specs.FreeParts.{begun}

-- ---- the texts of names that are numbered in a row

pub texts_segment : (front mid back : List (List ℕ)) → texts_of ((front ++ mid) ++ back) (map numbered (range_with_len (length front) (length mid))) ≡ mid
texts_segment front [] back = refl
texts_segment front (t ∷ mid) back =
    let whole : (front ++ t ∷ mid) ++ back ≡ ((front ++ t ∷ []) ++ mid) ++ back = ap (λ l. l ++ back) (sym (append_assoc front (t ∷ []) mid)) in
    let long : length (front ++ t ∷ []) ≡ length front + 1 = length-append front (t ∷ []) in
    let here : text_at ((front ++ t ∷ mid) ++ back) (length front) ≡ t =
    get_or_append_left (front ++ t ∷ mid) back [] (length front) (omega (arith, length-append front (t ∷ mid)))
    ∙ ap (text_at (front ++ t ∷ mid)) (let e : length front ≡ length front + 0 = omega arith in e) ∙ get_or-append-add front (t ∷ mid) 0 [] in
    ap₂ (λ x xs. x ∷ xs) here
    (ap₂ (λ names start. texts_of names (map numbered (range_with_len start (length mid)))) whole (sym long) ∙ texts_segment (front ++ t ∷ []) mid back)

-- names that are numbered in a row within a table are names of it
pub numbered_within : (names : List (List ℕ)) (first count : ℕ) → first + count ≤ length names → All (IsName names) (map numbered (range_with_len first count))
numbered_within names first count few = λ k d inside.
    let sized : length (map numbered (range_with_len first count)) ≡ count = length-map-range_with_len numbered first count in
    let below : k < count = omega (arith, inside, sized) in
    subst (IsName names) (sym (get_or-map-range_with_len numbered first count k (first + k) d below refl)) (omega arith)

-- ---- different names

-- a name that stands behind others is none of them
pub new_behind : (names : List (List ℕ)) (place : ℕ) (front : List (List ℕ)) → IsNumbering (front ++ names) → place < length names
    → has_text (front ++ take place names) (text_at names place) ≡ false
new_behind names place front distinct below = by (has_text (front ++ take place names) (text_at names place)) refl
  where
    seen : List (List ℕ)
    seen = front ++ take place names

    by : (b : Bool) → has_text seen (text_at names place) ≡ b → b ≡ false
    by false e = refl
    by true e = absurd (
        let low : place_of_text seen (text_at names place) < length seen = place_within seen (text_at names place) e in
        let taken : length (take place names) ≡ place = length-take-le place names (omega arith) in
        let long : length seen ≡ length front + place = length-append front (take place names) ∙ ap (λ n. length front + n) taken in
        let all : length (front ++ names) ≡ length front + length names = length-append front names in
        let here : text_at seen (place_of_text seen (text_at names place)) ≡ text_at names place = text_at_place seen (text_at names place) e in
        let whole : front ++ names ≡ seen ++ drop place names =
        ap (λ l. front ++ l) (sym (take-append-drop place names)) ∙ sym (append_assoc front (take place names) (drop place names)) in
        let one : text_at (front ++ names) (place_of_text seen (text_at names place)) ≡ text_at names place =
        ap (λ l. text_at l (place_of_text seen (text_at names place))) whole ∙ get_or_append_left seen (drop place names) [] (place_of_text seen (text_at names place)) low ∙ here in
        let other : text_at (front ++ names) (length front + place) ≡ text_at names place = get_or-append-add front names place [] in
        let same : place_of_text seen (text_at names place) ≡ length front + place =
        distinct.distinct (place_of_text seen (text_at names place)) (length front + place) (omega (arith, low, long, all)) (omega (arith, all)) (one ∙ sym other) in
        omega (arith, low, long, same))

pub front_distinct : (front back : List (List ℕ)) → IsNumbering (front ++ back) → IsNumbering front
front_distinct front back distinct = record {
  distinct = λ a b ha hb e.
      let all : length (front ++ back) ≡ length front + length back = length-append front back in
      distinct.distinct a b (omega (arith, ha, all)) (omega (arith, hb, all))
      (get_or_append_left front back [] a ha ∙ e ∙ sym (get_or_append_left front back [] b hb));
}

pub back_distinct : (front back : List (List ℕ)) → IsNumbering (front ++ back) → IsNumbering back
back_distinct front back distinct = record {
  distinct = λ a b ha hb e.
      let all : length (front ++ back) ≡ length front + length back = length-append front back in
      let same : length front + a ≡ length front + b =
      distinct.distinct (length front + a) (length front + b) (omega (arith, ha, all)) (omega (arith, hb, all))
      (get_or-append-add front back a [] ∙ e ∙ sym (get_or-append-add front back b [])) in
      omega (arith, same);
}

-- ---- the beginning of the parts

pub number_new : (names : List (List ℕ)) (t : List ℕ) (number : ℕ) → number ≡ place_of_text names t → has_text names t ≡ false → number ≡ length names
number_new names t number is new = is ∙ place_past names t new

-- a name that is read from a list
pub read_name : (names : List (List ℕ)) (place : ℕ) (item shown : List ℕ) → place < length names → item ≡ get_or names place item → shown ≡ item → shown ≡ text_at names place
read_name names place item shown below is same = same ∙ is ∙ get_or_default names place item [] below

pub inputs_next : (p q : PartsOf) (names : List (List ℕ)) (place : ℕ) (t : List ℕ) → IsNumbering names → place < length names → t ≡ text_at names place
    → (has_text (take place names) t ≡ false → q ≡ begun (take place names ++ t ∷ []) []) → q ≡ begun (take (place + 1) names) []
inputs_next p q names place t distinct below is step =
    step (ap (has_text (take place names)) is ∙ new_behind names place [] distinct below)
    ∙ ap (λ l. begun l []) (ap (λ text. take place names ++ text ∷ []) is ∙ sym (take_more names place [] below))

pub outputs_next : (q : PartsOf) (inputs names : List (List ℕ)) (place : ℕ) (t : List ℕ) → IsNumbering (inputs ++ names) → place < length names → t ≡ text_at names place
    → (has_text (inputs ++ take place names) t ≡ false → q ≡ begun inputs (take place names ++ t ∷ [])) → q ≡ begun inputs (take (place + 1) names)
outputs_next q inputs names place t distinct below is step =
    step (ap (has_text (inputs ++ take place names)) is ∙ new_behind names place inputs distinct below)
    ∙ ap (begun inputs) (ap (λ text. take place names ++ text ∷ []) is ∙ sym (take_more names place [] below))

-- the number of the next output
pub outs_next : (p : PartsOf) (inputs names : List (List ℕ)) (place : ℕ) (t : List ℕ) (outs all : List Name) (out : Name) → p ≡ begun inputs (take place names)
    → IsNumbering (inputs ++ names) → place < length names → t ≡ text_at names place → outs ≡ map numbered (range_with_len (length inputs) place)
    → (has_text p.names t ≡ false → out.number ≡ length p.names) → all ≡ outs ++ out ∷ [] → all ≡ map numbered (range_with_len (length inputs) (place + 1))
outs_next p inputs names place t outs all out begun_is distinct below is so_far number pushed =
    pushed ∙ ap₂ (λ (list : List Name) (n : ℕ). list ++ numbered n ∷ []) so_far at ∙ sym (map-range_with_len_more numbered (length inputs) place (length inputs + place) refl)
  where
    names_are : p.names ≡ inputs ++ take place names
    names_are = ap (λ (s : PartsOf). s.names) begun_is

    at : out.number ≡ length inputs + place
    at =
        number (ap₂ has_text names_are is ∙ new_behind names place inputs distinct below)
        ∙ ap length names_are ∙ length-append inputs (take place names) ∙ ap (λ n. length inputs + n) (length-take-le place names (omega arith))

-- names that are numbered in a row, as they are shown
pub shown_within : (names : List (List ℕ)) (shown list : List Name) (first count : ℕ) → shown ≡ list → list ≡ map numbered (range_with_len first count)
    → first + count ≤ length names → All (IsName names) shown
shown_within names shown list first count same are few = subst (All (IsName names)) (sym (same ∙ are)) (numbered_within names first count few)

pub shown_many : (shown list : List Name) (first count : ℕ) → shown ≡ list → list ≡ map numbered (range_with_len first count) → length shown ≡ count
shown_many shown list first count same are = ap length (same ∙ are) ∙ length-map-range_with_len numbered first count
