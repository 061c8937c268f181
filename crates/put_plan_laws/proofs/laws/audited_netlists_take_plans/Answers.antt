use Rattle.put_plan_laws.proofs.KeptMappings.{audited_netlists_take_plans}
use Rattle.put_plan_laws.proofs.laws.audited_netlists_take_plans.Goals as goal

pub returns : goal.returns
returns c = record { secure = audited_netlists_take_plans }
