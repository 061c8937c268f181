-- The groups of a plan, their members and the bits at their places.
use Rattle.std.proofs.Common.{◌≡◌, ℕ, zero, suc, ◌+◌, ◌<◌, Bool, List, [], ◌∷◌, ◌++◌, length, get_or, sym, ap, ap₂, ◌∙◌, subst, All, arith}
use Rattle.std.proofs.lemmas.List.{get_or-map, length-map}
use Rattle.tsc_bits.specs.Counting.{differ, odd}
use Rattle.tsc_bits.proofs.Bools.{differ-false, differ-assoc}
use Rattle.fault_secure.specs.Circuit.{bit}
use Rattle.fault_secure.specs.CodePlan.{CodePlan, IsWellMade, HasShape, HasGroups, bits_at, members, members_from, concat_places}
use Rattle.fault_secure.specs.declared.code.Code.{Code}
use Rattle.fault_secure.specs.declared.code.Code.TheVariants.{Parity}
use Rattle.tsc_net.specs.declared.plan.Group.{Group}
use Rattle.tsc_net.specs.PlanView.{plan_of}
use Rattle.tsc_net.specs.declared.plan.Plan.TheInside.{Inside}
use Rattle.tsc_bits.proofs.Lists.{all_left, all_right}

-- the places and the check
pub odd_with_check : (w : List Bool) (places : List ℕ) (check : ℕ) → odd (bits_at w (places ++ check ∷ [])) ≡ differ (odd (bits_at w places)) (bit w check)
odd_with_check w [] check = differ-false (bit w check)
odd_with_check w (place ∷ places) check = ap (differ (bit w place)) (odd_with_check w places check) ∙ sym (differ-assoc (bit w place) (odd (bits_at w places)) (bit w check))

-- the members of a group
pub member_at : (check : ℕ) (groups : List (List ℕ)) (k : ℕ) → k < length groups → get_or (members_from check groups) k [] ≡ get_or groups k [] ++ (check + k) ∷ []
member_at check (group ∷ groups) zero inside = ap (λ (n : ℕ). group ++ n ∷ []) (omega arith)
member_at check (group ∷ groups) (suc k) inside = member_at (suc check) groups k (omega arith) ∙ ap (λ (n : ℕ). get_or groups k [] ++ n ∷ []) (omega arith)
member_at check [] k inside = absurd (omega arith)

pub group_within : (P : ℕ → Type 0) (groups : List (List ℕ)) (k : ℕ) → k < length groups → All P (concat_places groups) → All P (get_or groups k [])
group_within P (group ∷ groups) zero inside all = all_left P group (concat_places groups) all
group_within P (group ∷ groups) (suc k) inside all = group_within P groups k (omega arith) (all_right P group (concat_places groups) all)
group_within P [] k inside all = absurd (omega arith)

-- under parity there are groups
pub groups_of : (P : CodePlan) → P.code ≡ Parity → IsWellMade P → HasGroups P
groups_of P is made = subst (λ (code : Code). HasShape code P) is made.shape

-- the places of a group
pub places_of : (inside : Inside) (P : CodePlan) (places : List ℕ) (group d : Group) (k : ℕ) → plan_of inside ≡ P → k < length inside.groups → group ≡ get_or inside.groups k d
    → places ≡ group.places → places ≡ get_or P.groups k []
places_of inside P places group d k view below at is =
    is ∙ (ap (λ (g : Group). g.places) at ∙ (sym (get_or-map (λ (g : Group). g.places) inside.groups k d [] below) ∙ ap (λ (Q : CodePlan). get_or Q.groups k []) view))

-- there are as many
pub many_groups : (inside : Inside) (P : CodePlan) → plan_of inside ≡ P → length inside.groups ≡ length P.groups
many_groups inside P view = sym (length-map inside.groups (λ (g : Group). g.places)) ∙ ap (λ (Q : CodePlan). length Q.groups) view

-- the members of a group, its check among them
pub member_is : (P : CodePlan) (places : List ℕ) (k outputs : ℕ) → k < length P.groups → outputs ≡ P.outputs → places ≡ get_or P.groups k [] → get_or (members P) k [] ≡ places ++ (outputs + k) ∷ []
member_is P places k outputs below same is = member_at P.outputs P.groups k below ∙ ap₂ (λ (list : List ℕ) (n : ℕ). list ++ (n + k) ∷ []) (sym is) (sym same)
