-- Outputs that are shared out once.
use Rattle.std.proofs.Common.{◌≡◌, ℕ, zero, suc, ◌+◌, ◌<◌, ◌≤◌, false, ◌&&◌, ◌==◌, List, [], ◌∷◌, ◌++◌, length, get_or, map, arith, sym, ap, subst, ◌∙◌, count_by, take, append_assoc, ◌⊎◌, inl, inr}
use Rattle.std.proofs.lemmas.Grind.{common_steps}
use Rattle.std.proofs.lemmas.List.{take_more, map-append, append-nil}
use Rattle.tsc_net.specs.declared.plan.Group.{Group}
use Rattle.fault_secure.specs.CodePlan.{concat_places}
use Rattle.blif_read.specs.PlanFault.{each_once}
use Rattle.tsc_bits.proofs.Bools.{and-false}

-- a place that doesn't stand there once
pub not_once : (places : List ℕ) (count place : ℕ) → place < count → (count_by (λ other. place == other) places ≡ 1 → ⊥) → each_once places count ≡ false
not_once places zero place h n = absurd (omega arith)
not_once places (suc count) place h n = by (at_or_below (omega arith)) (λ m. not_once places count place m n)
  where
    at_or_below : place ≤ count → (place ≡ count) ⊎ (place < count)
    at_or_below h = grind arith

    unequal : (a : ℕ) → (a ≡ 1 → ⊥) → (a == 1) ≡ false
    unequal a n = grind (arith, common_steps)

    by : (place ≡ count) ⊎ (place < count) → (place < count → each_once places count ≡ false) → each_once places (suc count) ≡ false
    by (inl e) rest =
        let m : count_by (λ other. count == other) places ≡ 1 → ⊥ = subst (λ c. count_by (λ other. c == other) places ≡ 1 → ⊥) e n in
        ap (λ b. b && each_once places count) (unequal (count_by (λ other. count == other) places) m)
    by (inr m) rest = ap (λ b. (count_by (λ other. count == other) places == 1) && b) (rest m) ∙ and-false (count_by (λ other. count == other) places == 1)

-- the places of one more group
pub concat_push : (groups : List (List ℕ)) (group : List ℕ) → concat_places (groups ++ group ∷ []) ≡ concat_places groups ++ group
concat_push [] group = append-nil group
concat_push (first ∷ groups) group = ap (λ l. first ++ l) (concat_push groups group) ∙ sym (append_assoc first (concat_places groups) group)

pub concat_more : (groups : List Group) (i : ℕ) (group : Group) (places more new : List ℕ) → i < length groups → group ≡ get_or groups i group
    → places ≡ concat_places (map (λ (g : Group). g.places) (take i groups)) → more ≡ group.places → new ≡ places ++ more
    → new ≡ concat_places (map (λ (g : Group). g.places) (take (i + 1) groups))
concat_more groups i group places more new h g e m n =
    let grown : take (i + 1) groups ≡ take i groups ++ group ∷ [] = take_more groups i group h ∙ ap (λ x. take i groups ++ x ∷ []) (sym g) in
    let mapped : map (λ (g : Group). g.places) (take (i + 1) groups) ≡ map (λ (g : Group). g.places) (take i groups) ++ group.places ∷ [] =
    ap (λ l. map (λ (g : Group). g.places) l) grown ∙ map-append (λ (g : Group). g.places) (take i groups) (group ∷ []) in
    n ∙ (ap (λ l. l ++ more) e ∙ (ap (λ l. concat_places (map (λ (g : Group). g.places) (take i groups)) ++ l) m
    ∙ (sym (concat_push (map (λ (g : Group). g.places) (take i groups)) group.places) ∙ ap concat_places (sym mapped))))
