-- Tables of names that grow: the names that were there, and their texts.
use Rattle.std.proofs.Common.{◌≡◌, ℕ, List, [], ◌∷◌, ◌++◌, All, Option, Some, None, IfSome, refl, ◌∙◌, ap, arith, length-append}
use Rattle.std.specs.Option.{option_map}
use Rattle.tsc_net.specs.PartsView.{text_of, texts_of, IsName}
use Rattle.tsc_net.specs.declared.ids.Name.{Name}
use Rattle.tsc_net.proofs.NameLemmas.{text_at-push}
use Rattle.tsc_net.proofs.PartsLemmas.{texts_kept, names_kept}
use Rattle.net_writing.specs.Names.{Keeps}

pub keeps_not : (texts : List (List ℕ)) → Keeps texts texts
keeps_not texts = record { longer = omega arith; kept = λ number low. refl }

-- names that are kept twice are kept
pub keeps_twice : (a b c : List (List ℕ)) → Keeps a b → Keeps b c → Keeps a c
keeps_twice a b c one two = record {
  longer = (let l = one.longer in let m = two.longer in omega arith);
  kept = λ number low. two.kept number (let l = one.longer in omega arith) ∙ one.kept number low;
}

pub keeps_push : (texts : List (List ℕ)) (text : List ℕ) → Keeps texts (texts ++ text ∷ [])
keeps_push texts text = record {
  longer = omega (arith, length-append texts (text ∷ []));
  kept = λ number low. text_at-push texts text number low;
}

module _ (old new : List (List ℕ)) (keeps : Keeps old new) where
  -- a name that was there is there still
  pub name_stays : (name : Name) → IsName old name → IsName new name
  name_stays name is = let l = keeps.longer in omega arith

  -- names that were there are there still
  pub names_stay : (list : List Name) → All (IsName old) list → All (IsName new) list
  names_stay list all = names_kept old new keeps.longer keeps.kept list all

  -- names that were there keep their texts
  pub texts_stay : (list : List Name) → All (IsName old) list → texts_of new list ≡ texts_of old list
  texts_stay list all = texts_kept old new keeps.longer keeps.kept list all

  pub some_text_stays : (given : Option Name) → IfSome given (IsName old) → option_map (text_of new) given ≡ option_map (text_of old) given
  some_text_stays None is = refl
  some_text_stays (Some name) is = ap Some (keeps.kept name.number is)
