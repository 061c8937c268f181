use Rattle.put_plan_laws.proofs.AuditedTexts.{audited_texts_take_plans}
use Rattle.put_plan_laws.proofs.laws.audited_texts_take_plans.Goals as goal

pub returns : goal.returns
returns c = record { taken = audited_texts_take_plans }
