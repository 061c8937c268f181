-- Which sizes a word can have: those of a plan.
use Rattle.std.specs.Prelude.{◌≡◌, ℕ, List}
use Rattle.fault_secure.specs.CodePlan.{CodePlan, IsWellMade}
use Rattle.code_checkers.specs.declared.word_sizes.WordSizes.{WordSizes}
use Rattle.code_checkers.specs.Checker.{sizes_of}

-- some well-made plan has a word of these sizes, and these groups
pub record HasPlan (S : WordSizes) (groups : List (List ℕ)) : Type 0 where
  pub plan : CodePlan
  pub well_made : IsWellMade plan
  pub sizes : sizes_of plan ≡ S
  pub grouped : plan.groups ≡ groups
