-- Lists of texts: which texts they have, and that no text stands twice.
use Rattle.std.proofs.Common.{◌≡◌, ℕ, ◌-◌, ◌<◌, ◌≤◌, inl, inr, Bool, true, false, if◌then◌else◌, List, [], ◌∷◌, ◌++◌, map, length, take, get_or, Contains, refl, sym, ◌∙◌, ap, subst, arith, true≢false, length-append}
use Rattle.std.proofs.lemmas.Bool.{cases_lt}
use Rattle.std.proofs.lemmas.List.{get_or_default, get_or_append_left, get_or-append_right, get_or-map, length-map, get_or-take, length-take-le}
use Rattle.std.proofs.lemmas.List.Elements.{Contains-get_or, Contains-append_left}
use Rattle.tsc_net.specs.Names.{has_text, place_of_text, text_at, IsNumbering}
use Rattle.tsc_net.proofs.NameLemmas.{has_text_at, place_within, text_at_place, numbering-with_text}

-- a text that a list contains is one that it has
pub has_contained : (names : List (List ℕ)) (t : List ℕ) → Contains names t → has_text names t ≡ true
has_contained names t c = has_text_at names t c.0 c.1 (get_or_default names c.0 [] t c.1 ∙ c.2)

-- a text that a list has is one that it contains
pub contained_has : (names : List (List ℕ)) (t : List ℕ) → has_text names t ≡ true → Contains names t
contained_has names t e = subst (Contains names) (text_at_place names t e) (Contains-get_or names (place_of_text names t) [] (place_within names t e))

-- a text that a list doesn't have is none that it contains
pub lacks : (names : List (List ℕ)) (t : List ℕ) → has_text names t ≡ false → Contains names t → ⊥
lacks names t e c = true≢false (sym (has_contained names t c) ∙ e)

-- a text that a list doesn't contain is none that it has
pub lacks_so : (names : List (List ℕ)) (t : List ℕ) → (Contains names t → ⊥) → has_text names t ≡ false
lacks_so names t absent = by (has_text names t) refl
  where
    by : (b : Bool) → has_text names t ≡ b → b ≡ false
    by true e = absurd (absent (contained_has names t e))
    by false e = refl

pub lacks_left : (xs ys : List (List ℕ)) (t : List ℕ) → has_text (xs ++ ys) t ≡ false → has_text xs t ≡ false
lacks_left xs ys t e = lacks_so xs t (λ c. lacks (xs ++ ys) t e (Contains-append_left xs ys t c))

-- the text of a name of a list is one that the list has
pub has_at : (names : List (List ℕ)) (k : ℕ) → k < length names → has_text names (text_at names k) ≡ true
has_at names k lt = has_text_at names (text_at names k) k lt refl

-- texts of which none is in both of two lists
pub numbering_append : (xs ys : List (List ℕ)) → IsNumbering xs → IsNumbering ys → ((t : List ℕ) → Contains xs t → Contains ys t → ⊥) → IsNumbering (xs ++ ys)
numbering_append xs ys h k apart = record { distinct = both }
  where
    left : (a : ℕ) → a < length xs → text_at (xs ++ ys) a ≡ text_at xs a
    left a la = get_or_append_left xs ys [] a la

    right : (a : ℕ) → length xs ≤ a → text_at (xs ++ ys) a ≡ text_at ys (a - length xs)
    right a le = get_or-append_right xs ys (length xs) a [] refl le

    mixed : (a b : ℕ) → a < length xs → length xs ≤ b → b < length (xs ++ ys) → text_at (xs ++ ys) a ≡ text_at (xs ++ ys) b → ⊥
    mixed a b la gb lb e =
        let low : b - length xs < length ys = omega (arith, length-append xs ys) in
        let same : text_at xs a ≡ text_at ys (b - length xs) = sym (left a la) ∙ e ∙ right b gb in
        apart (text_at xs a) (Contains-get_or xs a [] la) (subst (Contains ys) (sym same) (Contains-get_or ys (b - length xs) [] low))

    both : (a b : ℕ) → a < length (xs ++ ys) → b < length (xs ++ ys) → text_at (xs ++ ys) a ≡ text_at (xs ++ ys) b → a ≡ b
    both a b ha hb e = elim (cases_lt a (length xs)) [
      | inl la ↦ elim (cases_lt b (length xs)) [
        | inl lb ↦ h.distinct a b la lb (sym (left a la) ∙ e ∙ left b lb)
        | inr gb ↦ absurd (mixed a b la gb hb e)
      ]
      | inr ga ↦ elim (cases_lt b (length xs)) [
        | inl lb ↦ absurd (mixed b a lb ga ha (sym e))
        | inr gb ↦ (
            let low_a : a - length xs < length ys = omega (arith, length-append xs ys) in
            let low_b : b - length xs < length ys = omega (arith, length-append xs ys) in
            let same : a - length xs ≡ b - length xs = k.distinct (a - length xs) (b - length xs) low_a low_b (sym (right a ga) ∙ e ∙ right b gb) in
            omega arith)
      ]
    ]

pub numbering_none : IsNumbering []
numbering_none = record { distinct = λ a b ha hb e. absurd (omega arith) }

-- one text more, that isn't there
pub numbering_push : (xs : List (List ℕ)) (t : List ℕ) → IsNumbering xs → (Contains xs t → ⊥) → IsNumbering (xs ++ t ∷ [])
numbering_push xs t h absent = by (has_text xs t) (lacks_so xs t absent) (numbering-with_text xs t h)
  where
    by : (b : Bool) → b ≡ false → IsNumbering (if b then xs else xs ++ t ∷ []) → IsNumbering (xs ++ t ∷ [])
    by true e n = absurd (true≢false e)
    by false e n = n

-- items of which no two have the same text: an item with the text of another is that item
module _ {X : Type 0} (text : X → List ℕ) (xs : List X) (h : IsNumbering (map text xs)) where
  text_here : (k : ℕ) (d : X) → k < length xs → text_at (map text xs) k ≡ text (get_or xs k d)
  text_here k d lt = get_or-map text xs k d [] lt

  pub same_item : (x y : X) → Contains xs x → Contains xs y → text x ≡ text y → x ≡ y
  same_item x y c d e =
      let same : c.0 ≡ d.0 = h.distinct c.0 d.0 (omega (arith, length-map xs text, c.1)) (omega (arith, length-map xs text, d.1))
      (text_here c.0 x c.1 ∙ ap text c.2 ∙ e ∙ sym (ap text d.2) ∙ sym (text_here d.0 y d.1)) in
      sym c.2 ∙ get_or_default xs c.0 x y c.1 ∙ ap (λ (k : ℕ). get_or xs k y) same ∙ d.2

  -- the text of a later item is none of the earlier ones'
  pub later_text : (i : ℕ) (d x : X) → i < length xs → Contains (take i xs) x → text x ≡ text (get_or xs i d) → ⊥
  later_text i d x lt c e =
      let low : c.0 < i = omega (arith, c.1, length-take-le i xs (omega arith)) in
      let is : get_or xs c.0 x ≡ x = sym (get_or-take i xs c.0 x low) ∙ c.2 in
      let same : c.0 ≡ i = h.distinct c.0 i (omega (arith, length-map xs text)) (omega (arith, length-map xs text)) (text_here c.0 x (omega arith) ∙ ap text is ∙ e ∙ sym (text_here i d lt)) in
      omega arith

-- where a list contains an item, the list of its items' texts contains the item's text
pub contains_map : {X : Type 0} (text : X → List ℕ) (xs : List X) (x : X) → Contains xs x → Contains (map text xs) (text x)
contains_map text xs x c =
    let here : text_at (map text xs) c.0 ≡ text x = get_or-map text xs c.0 x [] c.1 ∙ ap text c.2 in
    subst (Contains (map text xs)) here (Contains-get_or (map text xs) c.0 [] (omega (arith, length-map xs text, c.1)))

-- and back: a text among those of items is an item's
pub mapped_from : {X : Type 0} (text : X → List ℕ) (xs : List X) (t : List ℕ) (d : X) → Contains (map text xs) t → (x : X) × Contains xs x × (text x ≡ t)
mapped_from text xs t d c =
    let lt : c.0 < length xs = omega (arith, length-map xs text, c.1) in
    (get_or xs c.0 d, Contains-get_or xs c.0 d lt, sym (get_or-map text xs c.0 d t lt) ∙ c.2)
