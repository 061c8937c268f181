-- Groups that a plan may have.
use Rattle.std.specs.Prelude.{◌≡◌, ℕ, ◌<◌, ◌==◌, List, length, All, count_by}
use Rattle.fault_secure.specs.CodePlan.{concat_places}

-- no group is empty, and each output stands in the groups exactly once
pub record AreGrouped (outputs : ℕ) (groups : List (List ℕ)) : Type 0 where
  pub filled : All (λ group. 0 < length group) groups
  pub within : All (λ place. place < outputs) (concat_places groups)
  pub once : (place : ℕ) → place < outputs → count_by (λ other. place == other) (concat_places groups) ≡ 1
