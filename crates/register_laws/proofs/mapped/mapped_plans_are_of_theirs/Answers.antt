use Rattle.register_laws.proofs.MappedPlans.{mapped_plans_are_of_theirs}
use Rattle.register_laws.proofs.mapped.mapped_plans_are_of_theirs.Goals as goal

pub returns : goal.returns
returns c = record { planned = mapped_plans_are_of_theirs }
