-- The nets that have fresh names.
use Rattle.std.proofs.Common.{◌≡◌, ℕ, ◌+◌, List, [], ◌∷◌, ◌++◌, map, Option, Some, None, true, refl, sym, ◌∙◌, ap, ap₂}
use Rattle.std.specs.List.{range_with_len}
use Rattle.std.specs.Option.{option_map}
use Rattle.std.proofs.lemmas.List.{map-append}
use Rattle.std.proofs.lemmas.List.FromFn.{map-range_with_len_more}
use Rattle.tsc_net.specs.Names.{has_text, place_of_text, find_text}
use Rattle.tsc_net.specs.PlanView.{net_numbers}
use Rattle.tsc_net.specs.Parts.{fresh_text}
use Rattle.tsc_net.specs.declared.ids.NetId.{NetId}
use Rattle.tsc_net.proofs.NameLemmas.{find-there}

-- a text that stands among the names is found, at its place
module _ (found : Option NetId) (names : List (List ℕ)) (text : List ℕ) where
  pub none_found : found ≡ None → option_map (λ (net : NetId). net.number) found ≡ find_text names text → has_text names text ≡ true → ⊥
  none_found none is there =
      let no : None ≡ Some (place_of_text names text) = sym (ap (option_map (λ (net : NetId). net.number)) none) ∙ is ∙ find-there names text there in cc

  pub found_place : (net : NetId) → found ≡ Some net → option_map (λ (net : NetId). net.number) found ≡ find_text names text → has_text names text ≡ true → net.number ≡ place_of_text names text
  found_place net some is there =
      let at : Some net.number ≡ Some (place_of_text names text) = sym (ap (option_map (λ (net : NetId). net.number)) some) ∙ is ∙ find-there names text there in cc

-- the nets of fresh names, one more
pub nets_more : (names : List (List ℕ)) (number first count : ℕ) (old new : List NetId) (net : NetId) → net_numbers old ≡ map (λ (k : ℕ). place_of_text names (fresh_text number k)) (range_with_len first count)
    → net.number ≡ place_of_text names (fresh_text number (first + count)) → new ≡ old ++ net ∷ [] → net_numbers new ≡ map (λ (k : ℕ). place_of_text names (fresh_text number k)) (range_with_len first (count + 1))
nets_more names number first count old new net so_far is pushed =
    ap net_numbers pushed ∙ map-append (λ (net : NetId). net.number) old (net ∷ [])
    ∙ ap₂ (λ (list : List ℕ) (n : ℕ). list ++ n ∷ []) so_far is
    ∙ sym (map-range_with_len_more (λ (k : ℕ). place_of_text names (fresh_text number k)) first count (first + count) refl)
