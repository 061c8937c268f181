-- The members of a plan's group: the places of its outputs, and that of its check.
use Rattle.std.proofs.Common.{◌≡◌, ℕ, zero, suc, ◌+◌, ◌<◌, List, [], ◌∷◌, ◌++◌, length, slice_index_or, ◌∙◌, ap, arith}
use Rattle.fault_secure.specs.CodePlan.{members_from}

-- the members of group i are its places and then that of its check
pub member_at : (check : ℕ) (groups : List (List ℕ)) (i : ℕ) → i < length groups
    → slice_index_or (members_from check groups) i [] ≡ slice_index_or groups i [] ++ (check + i) ∷ []
member_at check [] i within = absurd (omega arith)
member_at check (group ∷ groups) zero within = let e : check ≡ check + 0 = omega arith in ap (λ c. group ++ c ∷ []) e
member_at check (group ∷ groups) (suc i) within =
    let e : suc check + i ≡ check + suc i = omega arith in
    member_at (suc check) groups i (omega arith) ∙ ap (λ c. slice_index_or groups i [] ++ c ∷ []) e
