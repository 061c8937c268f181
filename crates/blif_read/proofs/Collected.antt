-- What lines give one after the other, collected.
use Rattle.std.proofs.Common.{◌≡◌, List, ◌∷◌, ◌++◌, map, sym, ap, ◌∙◌, append_assoc}
use Rattle.std.specs.List.{flat_map}
use Rattle.std.proofs.lemmas.List.{map-append}
use Rattle.tsc_text.specs.TextLine.{TextLine}

-- what was made, and what the lines that are left give, are all
abbrev pub IsLeft : {A B : Type 0} → (TextLine → List A) → (A → B) → List B → List TextLine → List TextLine → Type 0
IsLeft f g made rest all = made ++ map g (flat_map f rest) ≡ map g (flat_map f all)

pub left_next : {A B : Type 0} (f : TextLine → List A) (g : A → B) (made new : List B) (here rest all : List TextLine) (line : TextLine) → here ≡ line ∷ rest
    → IsLeft f g made here all → new ≡ made ++ map g (f line) → IsLeft f g new rest all
left_next f g made new here rest all line is e m =
    ap (λ l. l ++ map g (flat_map f rest)) m
    ∙ (append_assoc made (map g (f line)) (map g (flat_map f rest))
    ∙ (ap (λ l. made ++ l) (sym (map-append g (f line) (flat_map f rest)))
    ∙ (ap (λ l. made ++ map g (flat_map f l)) (sym is) ∙ e)))
