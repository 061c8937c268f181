-- Lists that are written over, place by place.
use Rattle.std.proofs.Common.{◌≡◌, ℕ, ◌+◌, ◌<◌, List, [], ◌∷◌, ◌++◌, length, take, get_or, set, sym, ap, ◌∙◌}
use Rattle.std.proofs.lemmas.List.{take_more, take_more_set}
use Rattle.std.proofs.Math.Seq.{take-length}

-- one more item of a list that is written over another one, of which there may be more
pub written_more : {X : Type 0} (goal old new : List X) (place : ℕ) (x d : X) → place < length goal → place < length old → new ≡ set old place x → x ≡ get_or goal place d
    → take place old ≡ take place goal → take (place + 1) new ≡ take (place + 1) goal
written_more {X} goal old new place x d inside within is here before =
    ap (take (place + 1)) is
    ∙ (take_more_set old place x within
    ∙ (ap (λ (list : List X). list ++ x ∷ []) before
    ∙ (ap (λ (y : X). take place goal ++ y ∷ []) here
    ∙ sym (take_more goal place d inside))))

-- all items are written
pub written_all : {X : Type 0} (goal made : List X) (n : ℕ) → n ≡ length goal → take n made ≡ take n goal → take n made ≡ goal
written_all {X} goal made n count all = all ∙ (ap (λ (k : ℕ). take k goal) count ∙ take-length goal)

-- a list of as many items, all of which are written
pub written_whole : {X : Type 0} (goal made : List X) (n : ℕ) → n ≡ length goal → length made ≡ length goal → take n made ≡ take n goal → made ≡ goal
written_whole {X} goal made n count sized all =
    sym (take-length made) ∙ (ap (λ (k : ℕ). take k made) (sized ∙ sym count) ∙ written_all goal made n count all)
