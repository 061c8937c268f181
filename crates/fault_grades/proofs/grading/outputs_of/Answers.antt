use Rattle.std.proofs.Common.{refl, ap}
use Rattle.fault_secure.specs.CodePlan.{CodePlan}
use Rattle.fault_grades.proofs.CellLemmas.{plan_nets}
use Rattle.fault_grades.proofs.grading.outputs_of.Goals as goal

pub returns : goal.returns
returns c = record {
  nets = plan_nets c.args.net.now.circuit c.args.plan.now c.outputs.result.now _ c.plan.inside.outputs refl (ap (λ (Q : CodePlan). Q.outputs) c.plan.view_is) c.outputs.ensures.outputs
      c.nets-nets.ensures.checked.closed.outputs c.requires.plan.rails;
}
