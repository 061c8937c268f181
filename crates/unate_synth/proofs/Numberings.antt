-- Lists of texts none of which stands twice, and their parts.
use Rattle.std.proofs.Common.{◌≡◌, ℕ, ◌+◌, List, [], ◌++◌, take, drop, length, Contains, sym, ◌∙◌, subst, arith, length-append}
use Rattle.std.proofs.lemmas.List.{take-append-drop, get_or_append_left, get_or-append-add, get_or_default}
use Rattle.std.proofs.lemmas.List.Elements.{Contains-append_left, Contains-append_right}
use Rattle.tsc_net.specs.Names.{IsNumbering}
use Rattle.gate_net.proofs.Texts.{numbering_append}

-- what stands among the first items of a list stands in it
pub contains_take : {X : Type 0} (n : ℕ) (xs : List X) (x : X) → Contains (take n xs) x → Contains xs x
contains_take n xs x c = subst (λ (ys : List _). Contains ys x) (take-append-drop n xs) (Contains-append_left (take n xs) (drop n xs) x c)

-- and so does what stands after them
pub contains_drop : {X : Type 0} (n : ℕ) (xs : List X) (x : X) → Contains (drop n xs) x → Contains xs x
contains_drop n xs x c = subst (λ (ys : List _). Contains ys x) (take-append-drop n xs) (Contains-append_right (take n xs) (drop n xs) x c)

module _ (xs ys : List (List ℕ)) (h : IsNumbering (xs ++ ys)) where
  -- there are as many texts as in both parts
  both_counted : length (xs ++ ys) ≡ length xs + length ys
  both_counted = length-append xs ys

  -- the first part has no text twice
  pub numbering_left : IsNumbering xs
  numbering_left = record {
    distinct = λ a b la lb e.
        h.distinct a b (omega (arith, both_counted)) (omega (arith, both_counted)) (get_or_append_left xs ys [] a la ∙ e ∙ sym (get_or_append_left xs ys [] b lb));
  }

  -- nor has the second
  pub numbering_right : IsNumbering ys
  numbering_right = record {
    distinct = λ a b la lb e. (
        let same : length xs + a ≡ length xs + b
        = h.distinct (length xs + a) (length xs + b) (omega (arith, both_counted)) (omega (arith, both_counted)) (get_or-append-add xs ys a [] ∙ e ∙ sym (get_or-append-add xs ys b [])) in
        omega arith);
  }

  -- and no text stands in both
  pub numbering_apart : (t : List ℕ) → Contains xs t → Contains ys t → ⊥
  numbering_apart t c d =
      let same : c.0 ≡ length xs + d.0
      = h.distinct c.0 (length xs + d.0) (omega (arith, both_counted, c.1)) (omega (arith, both_counted, d.1))
      (get_or_append_left xs ys [] c.0 c.1 ∙ get_or_default xs c.0 [] t c.1 ∙ c.2 ∙ sym (get_or-append-add xs ys d.0 [] ∙ get_or_default ys d.0 [] t d.1 ∙ d.2)) in
      let low = c.1 in
      omega arith

-- a list without its middle
pub numbering_ends : (xs ys zs : List (List ℕ)) → IsNumbering ((xs ++ ys) ++ zs) → IsNumbering (xs ++ zs)
numbering_ends xs ys zs h =
    numbering_append xs zs (numbering_left xs ys (numbering_left (xs ++ ys) zs h)) (numbering_right (xs ++ ys) zs h)
    (λ t c d. numbering_apart (xs ++ ys) zs h t (Contains-append_left xs ys t c) d)

-- the first texts of a list without one that stands twice
pub numbering_take : (n : ℕ) (xs : List (List ℕ)) → IsNumbering xs → IsNumbering (take n xs)
numbering_take n xs h = numbering_left (take n xs) (drop n xs) (subst IsNumbering (sym (take-append-drop n xs)) h)

-- and those after them
pub numbering_drop : (n : ℕ) (xs : List (List ℕ)) → IsNumbering xs → IsNumbering (drop n xs)
numbering_drop n xs h = numbering_right (take n xs) (drop n xs) (subst IsNumbering (sym (take-append-drop n xs)) h)
