use Rattle.mapped_laws.proofs.MappedPlans.{mapped_plans_are_secure}
use Rattle.mapped_laws.proofs.laws.mapped_plans_are_secure.Goals as goal

pub returns : goal.returns
returns c = record { secure = mapped_plans_are_secure }
