-- Lists of bits that are written, and their numbers.
use Rattle.std.proofs.Common.{◌≡◌, ℕ, zero, suc, ◌+◌, ◌<◌, Bool, false, List, [], ◌∷◌, ◌++◌, length, take, get_or, set, refl, sym, ap, ap₂, ◌∙◌, arith}
use Rattle.std.proofs.lemmas.List.{take_more, take_more_set}
use Rattle.std.proofs.Math.Seq.{take-length}
use Rattle.fault_secure.specs.Circuit.{bit}

-- one more item of a list that is written over another one
pub written_more : {X : Type 0} (goal old new : List X) (place : ℕ) (x d : X) → place < length goal → length old ≡ length goal → new ≡ set old place x → x ≡ get_or goal place d
    → take place old ≡ take place goal → take (place + 1) new ≡ take (place + 1) goal
written_more {X} goal old new place x d inside sized is here before =
    ap (take (place + 1)) is
    ∙ (take_more_set old place x (omega arith)
    ∙ (ap (λ (list : List X). list ++ x ∷ []) before
    ∙ (ap (λ (y : X). take place goal ++ y ∷ []) here
    ∙ sym (take_more goal place d inside))))

-- all items are written
pub written_all : {X : Type 0} (goal made : List X) (n : ℕ) → n ≡ length goal → length made ≡ length goal → take n made ≡ take n goal → made ≡ goal
written_all {X} goal made n count sized all =
    sym (take-length made)
    ∙ (ap (λ (k : ℕ). take k made) (sized ∙ sym count)
    ∙ (all
    ∙ (ap (λ (k : ℕ). take k goal) count ∙ take-length goal)))

-- lists of the same bits are the same
pub same_items : (xs ys : List Bool) → length xs ≡ length ys → ((k : ℕ) → k < length xs → bit xs k ≡ bit ys k) → xs ≡ ys
same_items [] [] sized same = refl
same_items [] (y ∷ ys) sized same = absurd (omega arith)
same_items (x ∷ xs) [] sized same = absurd (omega arith)
same_items (x ∷ xs) (y ∷ ys) sized same = ap₂ ◌∷◌ (same 0 (omega arith)) (same_items xs ys (omega arith) (λ k inside. same (suc k) (omega arith)))

-- so many first bits of a list, those that it lacks being 0
abbrev pub clip : ℕ → List Bool → List Bool
clip zero x = []
clip (suc n) [] = false ∷ clip n []
clip (suc n) (b ∷ x) = b ∷ clip n x

-- so many bits they are
pub length-clip : (n : ℕ) (x : List Bool) → length (clip n x) ≡ n
length-clip zero x = refl
length-clip (suc n) [] = ap suc (length-clip n [])
length-clip (suc n) (b ∷ x) = ap suc (length-clip n x)

-- each of these bits is the one that the list has there
pub bit-clip : (n : ℕ) (x : List Bool) (k : ℕ) → k < n → bit (clip n x) k ≡ bit x k
bit-clip zero x k inside = absurd (omega arith)
bit-clip (suc n) [] zero inside = refl
bit-clip (suc n) [] (suc k) inside = bit-clip n [] k (omega arith)
bit-clip (suc n) (b ∷ x) zero inside = refl
bit-clip (suc n) (b ∷ x) (suc k) inside = bit-clip n x k (omega arith)
