-- Steps of the search for a place that is marked in both lists, and what joins a group.
use Rattle.std.proofs.Common.{◌≡◌, ℕ, suc, ◌+◌, ◌<◌, ◌≤◌, inl, inr, Bool, true, false, not, ◌&&◌, ◌||◌, if◌then◌else◌, cond, List, [], ◌∷◌, ◌++◌, drop, length, slice_index_or, slice_set, refl, sym, ◌∙◌, ap, ap₂, arith, drop_of_length-le}
use Rattle.std.specs.List.{list_any, position_or_len}
use Rattle.std.proofs.Math.Seq.{drop-cons}
use Rattle.std.proofs.lemmas.Bool.{cases_lt}
use Rattle.fault_secure.specs.Circuit.{bit}
use Rattle.parity_code.specs.FirstFit.{joined}
use Rattle.tsc_bits.specs.Counting.{some_both}

overlap-nil : (marks : List Bool) → some_both marks [] ≡ false
overlap-nil [] = refl
overlap-nil (m ∷ marks) = refl

-- one place of the search, where both lists go on
pub overlap_both : (marks others : List Bool) (place : ℕ) → place < length marks → place < length others
    → some_both (drop place marks) (drop place others) ≡ ((bit marks place && bit others place) || some_both (drop (place + 1) marks) (drop (place + 1) others))
overlap_both marks others place a b =
    ap₂ some_both (drop-cons marks place false a) (drop-cons others place false b)
    ∙ ap (λ k. (bit marks place && bit others place) || some_both (drop k marks) (drop k others)) (let e : suc place ≡ place + 1 = omega arith in e)

-- where the second list is at its end, nothing more overlaps
pub overlap_past : (marks others : List Bool) (place : ℕ) → length others ≤ place → some_both (drop place marks) (drop place others) ≡ false
overlap_past marks others place past = ap (some_both (drop place marks)) (drop_of_length-le others past) ∙ overlap-nil (drop place marks)

-- one place further, where not both are marked
pub overlap_on : (marks others : List Bool) (place : ℕ) (whole : Bool) → place < length marks → (place < length others → (bit marks place && bit others place) ≡ false)
    → some_both (drop place marks) (drop place others) ≡ whole → some_both (drop (place + 1) marks) (drop (place + 1) others) ≡ whole
overlap_on marks others place whole within clear so_far = elim (cases_lt place (length others)) [
  | inl low ↦ ap (λ b. b || some_both (drop (place + 1) marks) (drop (place + 1) others)) (sym (clear low)) ∙ sym (overlap_both marks others place within low) ∙ so_far
  | inr high ↦ overlap_past marks others (place + 1) (omega arith) ∙ sym (overlap_past marks others place high) ∙ so_far
]

-- an output joins the first group with no member that shares with it
pub joined_first : (shares : ℕ → ℕ → Bool) (groups : List (List ℕ)) (o : ℕ) (place : ℕ)
    → place ≡ position_or_len (λ group. not (list_any (shares o) group)) groups → place < length groups
    → joined shares groups o ≡ slice_set groups place (slice_index_or groups place [] ++ o ∷ [])
joined_first shares [] o place is within = absurd (omega arith)
joined_first shares (group ∷ groups) o place is within = choose (list_any (shares o) group) refl place is within (λ at. joined_first shares groups o at)
  where
    choose : (b : Bool) → list_any (shares o) group ≡ b → (place : ℕ) → place ≡ position_or_len (λ group. not (list_any (shares o) group)) (group ∷ groups) → place < length (group ∷ groups)
        → ((at : ℕ) → at ≡ position_or_len (λ group. not (list_any (shares o) group)) groups → at < length groups
        → joined shares groups o ≡ slice_set groups at (slice_index_or groups at [] ++ o ∷ []))
        → (if b then group ∷ joined shares groups o else (group ++ o ∷ []) ∷ groups) ≡ slice_set (group ∷ groups) place (slice_index_or (group ∷ groups) place [] ++ o ∷ [])
    choose true e place is within deeper =
        let f : place ≡ 1 + position_or_len (λ group. not (list_any (shares o) group)) groups
        = is ∙ ap (λ b. cond (not (not b)) (1 + position_or_len (λ group. not (list_any (shares o) group)) groups) 0) e in
        let g : place ≡ suc (position_or_len (λ group. not (list_any (shares o) group)) groups) = omega arith in
        ap (λ gs. group ∷ gs) (deeper (position_or_len (λ group. not (list_any (shares o) group)) groups) refl (omega arith))
        ∙ ap (λ p. slice_set (group ∷ groups) p (slice_index_or (group ∷ groups) p [] ++ o ∷ [])) (sym g)
    choose false e place is within deeper =
        let f : place ≡ 0 = is ∙ ap (λ b. cond (not (not b)) (1 + position_or_len (λ group. not (list_any (shares o) group)) groups) 0) e in
        ap (λ p. slice_set (group ∷ groups) p (slice_index_or (group ∷ groups) p [] ++ o ∷ [])) (sym f)

-- else it opens one
pub joined_last : (shares : ℕ → ℕ → Bool) (groups : List (List ℕ)) (o : ℕ) → length groups ≤ position_or_len (λ group. not (list_any (shares o) group)) groups
    → joined shares groups o ≡ groups ++ (o ∷ []) ∷ []
joined_last shares [] o past = refl
joined_last shares (group ∷ groups) o past = choose (list_any (shares o) group) refl past (λ p. joined_last shares groups o p)
  where
    choose : (b : Bool) → list_any (shares o) group ≡ b → length (group ∷ groups) ≤ position_or_len (λ group. not (list_any (shares o) group)) (group ∷ groups)
        → (length groups ≤ position_or_len (λ group. not (list_any (shares o) group)) groups → joined shares groups o ≡ groups ++ (o ∷ []) ∷ [])
        → (if b then group ∷ joined shares groups o else (group ++ o ∷ []) ∷ groups) ≡ group ∷ (groups ++ (o ∷ []) ∷ [])
    choose true e past deeper =
        let f : position_or_len (λ group. not (list_any (shares o) group)) (group ∷ groups) ≡ 1 + position_or_len (λ group. not (list_any (shares o) group)) groups
        = ap (λ b. cond (not (not b)) (1 + position_or_len (λ group. not (list_any (shares o) group)) groups) 0) e in
        ap (λ gs. group ∷ gs) (deeper (omega arith))
    choose false e past deeper =
        let f : position_or_len (λ group. not (list_any (shares o) group)) (group ∷ groups) ≡ 0
        = ap (λ b. cond (not (not b)) (1 + position_or_len (λ group. not (list_any (shares o) group)) groups) 0) e in
        absurd (omega arith)
