-- The groups of a plan, with their checks.
use Rattle.std.specs.Prelude.{◌≡◌, List, map}
use Rattle.fault_secure.specs.CodePlan.{CodePlan}
use Rattle.tsc_net.specs.declared.plan.Group.{Group}

-- these are the groups of the plan
pub record AreGroups (P : CodePlan) (groups : List Group) : Type 0 where
  pub places : P.groups ≡ map (λ g. g.places) groups
  pub checks : P.checks ≡ map (λ g. g.check.number) groups
