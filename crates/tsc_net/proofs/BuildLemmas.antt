-- The steps of building a netlist: names one after the other.
use Rattle.std.proofs.Common.{◌≡◌, ℕ, suc, ◌+◌, ◌<◌, Bool, true, false, List, [], ◌∷◌, ◌++◌, map, length, drop, slice_index_or, Option, Some, None, refl, sym, ap, ◌∙◌, add-one, append_assoc, All, arith}
use Rattle.std.proofs.Math.Seq.{drop-cons}
use Rattle.tsc_net.specs.Names.{has_text}
use Rattle.tsc_bits.proofs.Lists.{map-push}
use Rattle.tsc_net.specs.NetFault.{repeat_after, first_missing, joined, no_outputs}
use Rattle.tsc_net.specs.inner.Build.{IsUndriven}
use Rattle.tsc_net.specs.declared.net_error.NetError.{NetError}
use Rattle.tsc_net.specs.declared.net_error.NetError.TheVariants.{Twice, Undriven, NoOutputs, Cycle, Memory}
use Rattle.std.proofs.lemmas.List.Elements.{All-head, All-tail}

-- the list from a place on: the item there, and the list from the next place on
pub map_drop : {X Y : Type 0} (f : X → Y) (xs : List X) (i : ℕ) (x d : X) → i < length xs → x ≡ slice_index_or xs i d
    → map f (drop i xs) ≡ f x ∷ map f (drop (i + 1) xs)
map_drop f xs i x d h e =
    ap (map f) (drop-cons xs i d h) ∙ ap (λ y. f y ∷ map f (drop (suc i) xs)) (sym e) ∙ ap (λ k. f x ∷ map f (drop k xs)) (sym (add-one i))

-- a text that is new is passed over; one that isn't is the first repeat
pub repeat-new : (seen texts : List (List ℕ)) (t : List ℕ) → has_text seen t ≡ false
    → repeat_after seen (t ∷ texts) ≡ repeat_after (seen ++ t ∷ []) texts
repeat-new seen texts t e = rw e refl

pub repeat-here : (seen texts : List (List ℕ)) (t : List ℕ) → has_text seen t ≡ true → repeat_after seen (t ∷ texts) ≡ Some t
repeat-here seen texts t e = rw e refl

-- a text that is driven is passed over; one that isn't is the first that is missing
pub missing-driven : (driven texts : List (List ℕ)) (t : List ℕ) → has_text driven t ≡ true
    → first_missing driven (t ∷ texts) ≡ first_missing driven texts
missing-driven driven texts t e = rw e refl

pub missing-here : (driven texts : List (List ℕ)) (t : List ℕ) → has_text driven t ≡ false → first_missing driven (t ∷ texts) ≡ Some t
missing-here driven texts t e = rw e refl

pub missing-append : (driven front back : List (List ℕ)) → first_missing driven front ≡ None
    → first_missing driven (front ++ back) ≡ first_missing driven back
missing-append driven [] back e = refl
missing-append driven (t ∷ front) back e = by (has_text driven t) refl (missing-append driven front back)
  where
    by : (b : Bool) → has_text driven t ≡ b → (first_missing driven front ≡ None → first_missing driven (front ++ back) ≡ first_missing driven back)
        → first_missing driven (t ∷ (front ++ back)) ≡ first_missing driven back
    by true h rest = missing-driven driven (front ++ back) t h ∙ rest (sym (missing-driven driven front t h) ∙ e)
    by false h rest = let no : Some t ≡ None = sym (missing-here driven front t h) ∙ e in cc

pub missing-front : (driven front back : List (List ℕ)) (u : List ℕ) → first_missing driven front ≡ Some u
    → first_missing driven (front ++ back) ≡ Some u
missing-front driven [] back u e = cc
missing-front driven (t ∷ front) back u e = by (has_text driven t) refl (missing-front driven front back u)
  where
    by : (b : Bool) → has_text driven t ≡ b → (first_missing driven front ≡ Some u → first_missing driven (front ++ back) ≡ Some u)
        → first_missing driven (t ∷ (front ++ back)) ≡ Some u
    by true h rest = missing-driven driven (front ++ back) t h ∙ rest (sym (missing-driven driven front t h) ∙ e)
    by false h rest = missing-here driven (front ++ back) t h ∙ sym (missing-here driven front t h) ∙ e

pub undriven-front : (driven all front back : List (List ℕ)) (e : NetError) → first_missing driven (front ++ back) ≡ first_missing driven all
    → IsUndriven driven front e → IsUndriven driven all e
undriven-front driven all front back (Twice net) same h = h
undriven-front driven all front back (Undriven net) same h = sym same ∙ missing-front driven front back net h
undriven-front driven all front back NoOutputs same h = h
undriven-front driven all front back (Cycle nets) same h = h
undriven-front driven all front back (Memory error) same h = tt

-- what was made so far, and what the items that are left give: one item more
module _ {A M B : Type 0} (f : M → B) (g : A → M) where
  pub made-next : (made : List B) (new : B) (xs : List A) (i : ℕ) (x d : A) (whole : List B) → i < length xs → x ≡ slice_index_or xs i d
      → new ≡ f (g x) → made ++ map f (map g (drop i xs)) ≡ whole
      → (made ++ new ∷ []) ++ map f (map g (drop (i + 1) xs)) ≡ whole
  made-next made new xs i x d whole h e same reading =
      let rest = map f (map g (drop (i + 1) xs)) in
      append_assoc made (new ∷ []) rest
      ∙ ap (λ y. made ++ (y ∷ rest)) same
      ∙ ap (λ l. made ++ map f l) (sym (map_drop g xs i x d h e))
      ∙ reading

-- the same of what is seen of what was made
module _ {X A M B : Type 0} (seen : X → B) (f : M → B) (g : A → M) where
  pub reading-next : (made : List X) (new : X) (xs : List A) (i : ℕ) (x d : A) (whole : List B) → i < length xs → x ≡ slice_index_or xs i d
      → seen new ≡ f (g x) → map seen made ++ map f (map g (drop i xs)) ≡ whole
      → map seen (made ++ new ∷ []) ++ map f (map g (drop (i + 1) xs)) ≡ whole
  reading-next made new xs i x d whole h e same reading =
      ap (λ l. l ++ map f (map g (drop (i + 1) xs))) (map-push seen made new)
      ∙ made-next f g (map seen made) (seen new) xs i x d whole h e same reading

-- the search for a missing name after one that is driven, and after some that all are
module _ {A : Type 0} (driven : List (List ℕ)) (f : A → List ℕ) where
  pub missing-next : (xs : List A) (i : ℕ) (x d : A) (whole : Option (List ℕ)) → i < length xs → x ≡ slice_index_or xs i d → has_text driven (f x) ≡ true
      → first_missing driven (map f (drop i xs)) ≡ whole → first_missing driven (map f (drop (i + 1) xs)) ≡ whole
  missing-next xs i x d whole h e there reading =
      sym (missing-driven driven (map f (drop (i + 1) xs)) (f x) there) ∙ ap (first_missing driven) (sym (map_drop f xs i x d h e)) ∙ reading

module _ {A : Type 0} (driven : List (List ℕ)) (f : A → List (List ℕ)) where
  pub joined-next : (xs : List A) (i : ℕ) (x d : A) (whole : Option (List ℕ)) → i < length xs → x ≡ slice_index_or xs i d
      → first_missing driven (f x) ≡ None → first_missing driven (joined (map f (drop i xs))) ≡ whole
      → first_missing driven (joined (map f (drop (i + 1) xs))) ≡ whole
  joined-next xs i x d whole h e there reading =
      sym (missing-append driven (f x) (joined (map f (drop (i + 1) xs))) there)
      ∙ ap (λ l. first_missing driven (joined l)) (sym (map_drop f xs i x d h e)) ∙ reading

  pub joined-at : (xs : List A) (i : ℕ) (x d : A) (all : List (List ℕ)) (error : NetError) → i < length xs → x ≡ slice_index_or xs i d
      → first_missing driven (joined (map f (drop i xs))) ≡ first_missing driven all → IsUndriven driven (f x) error → IsUndriven driven all error
  joined-at xs i x d all error h e reading undriven =
      undriven-front driven all (f x) (joined (map f (drop (i + 1) xs))) error
      (ap (λ l. first_missing driven (joined l)) (sym (map_drop f xs i x d h e)) ∙ reading) undriven

-- two maps one after the other
pub map-map : {X Y Z : Type 0} (f : Y → Z) (g : X → Y) (xs : List X) → map f (map g xs) ≡ map (λ x. f (g x)) xs
map-map f g [] = refl
map-map f g (x ∷ xs) = ap (λ l. f (g x) ∷ l) (map-map f g xs)

-- where all are driven none is missing
pub none_missing : (driven texts : List (List ℕ)) → All (λ t. has_text driven t ≡ true) texts → first_missing driven texts ≡ None
none_missing driven [] all = refl
none_missing driven (t ∷ texts) all =
    missing-driven driven texts t (All-head (λ t. has_text driven t ≡ true) t texts all)
    ∙ none_missing driven texts (All-tail (λ t. has_text driven t ≡ true) t texts all)

-- where there is an output
pub some_output : (outputs : List (List ℕ)) → 0 < length outputs → no_outputs outputs ≡ None
some_output [] some = absurd (omega arith)
some_output (t ∷ outputs) some = refl
