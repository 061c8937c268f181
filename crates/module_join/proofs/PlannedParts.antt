-- One more part with a plan that shows it after others.
use Rattle.std.proofs.Common.{List, [], ◌∷◌, ◌++◌}
use Rattle.module_join.specs.declared.part.Part.{Part}
use Rattle.module_join.specs.JoinParts.{planned_as, parts_as}
use Rattle.module_join.specs.JoinLaws.{IsPlanned, ArePlanned}

pub planned_push : (parts : List Part) (p : Part) → ArePlanned (parts_as parts) → IsPlanned (planned_as p) → ArePlanned (parts_as (parts ++ p ∷ []))
planned_push [] p are is = (is, tt)
planned_push (q ∷ parts) p are is = (are.0, planned_push parts p are.1 is)
