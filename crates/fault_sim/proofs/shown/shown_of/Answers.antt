use Rattle.std.proofs.Common.{refl, ap, ◌∙◌, subst}
use Rattle.fault_secure.specs.CodePlan.{CodePlan, IsWellMade}
use Rattle.fault_secure.proofs.PlanSizes.{few_checks}
use Rattle.fault_sim.proofs.ShownLemmas.{first_numbers, few_first, reads_of}
use Rattle.fault_sim.proofs.shown.shown_of.Goals as goal

pub returns : goal.returns
returns c =
    let N = c.args.net.now.circuit in
    let P = c.args.plan.now in
    let made = subst IsWellMade c.plan.view_is c.plan.invariant.well_made in
    let count = ap (λ (Q : CodePlan). Q.outputs) c.plan.view_is in
    record {
      shown = record {
        plan = refl;
        outputs = first_numbers c.outputs.result.now c.in_ok-outputs.outputs.items c.plan.inside.outputs P.outputs N.outputs c.in_ok-outputs.ensures.nets count c.outputs.ensures.outputs;
        latches = c.in_ok-latches.ensures.latches;
        next = c.in_ok-next.ensures.reads ∙ ap reads_of c.deref.ensures.value;
        few_outputs = few_first c.outputs.result.now c.in_ok-outputs.outputs.items c.plan.inside.outputs P.outputs c.in_ok-outputs.ensures.nets count made.most_outputs;
        few_checks = few_checks P made;
      };
    }
