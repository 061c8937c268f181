use Rattle.std.proofs.Common.{◌≡◌, List, map, sym, ap, ◌∙◌, subst, All, OnOk}
use Rattle.fault_secure.specs.CodePlan.{CodePlan}
use Rattle.tsc_net.specs.declared.plan.Group.{Group}
use Rattle.tsc_text.specs.Written.{WrittenLine}
use Rattle.blif_write.specs.Layout.{check_lines}
use Rattle.blif_write.specs.NamedPlan.{named_plan}
use Rattle.blif_write.specs.NetLines.{FitsGroup, line_of_group}
use Rattle.blif_write.specs.Steps.{after_lines}
use Rattle.blif_write.proofs.PlanFacts.{plan-groups-fit, check_lines-parity}
use Rattle.blif_write.proofs.plan_lines.push_check_lines.Goals as goal

pub push_groups-requires-clause-fit : goal.push_groups-requires-clause-fit
push_groups-requires-clause-fit c =
    let Fit : List Group → Type 0 = λ groups. All (FitsGroup c.args.net.now.circuit) groups in
    subst Fit (sym c.as_slice.ensures.whole)
    (plan-groups-fit c.args.net.now.circuit c.plan.inside c.args.plan.now c.plan.view_is c.in-Parity.is c.plan.invariant c.requires.shown c.requires.known)

pub returns-in-Parity : goal.returns-in-Parity
returns-in-Parity c =
    let net = c.args.net.now in
    let lines = λ (P : CodePlan). check_lines P.code (named_plan net P) in
    let same = ap (λ groups. map (line_of_group net) groups) c.as_slice.ensures.whole
    ∙ sym (check_lines-parity net c.plan.inside c.in-Parity.is (c.plan.invariant.same_checks c.in-Parity.is))
    ∙ ap lines c.plan.view_is in
    let Written : List WrittenLine → Type 0 = λ ls. OnOk c.push_groups.result (c.push_groups.new.out ≡ after_lines c.args.out.now ls) in
    record { lines = subst Written same c.push_groups.ensures.lines }
