use Rattle.blif_write.proofs.RegistersTold.{register_plan-told}
use Rattle.blif_write.proofs.laws.register_plans_are_told.Goals as goal

pub returns : goal.returns
returns c = record {
  told = λ net plan watches checked told version places checks watched. register_plan-told net plan watches checked told version places checks watched;
}
