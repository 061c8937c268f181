use Rattle.std.proofs.Common.{ℕ, subst}
use Rattle.fault_secure.specs.Circuit.{Circuit}
use Rattle.fault_secure.specs.CodePlan.{CodePlan, IsWellMade}
use Rattle.audit.specs.Laws.{IsPlanned}
use Rattle.wide_audit.specs.declared.verdict.WideVerdict.{WideVerdict}
use Rattle.wide_audit.specs.declared.verdict.WideVerdict.TheVariants.{Yes, No}
use Rattle.wide_audit.specs.WideVerdict.{IsWideVerdict}
use Rattle.wide_audit.specs.Laws.{IsSecureWhereYes, WideYesIsSecure}
use Rattle.wide_audit.proofs.auditing.audit_wide.Goals as goal

-- what a verdict says of security, by the law on a yes
where_yes : WideYesIsSecure → (rows : ℕ) (S N : Circuit) (P : CodePlan) (verdict : WideVerdict) → IsPlanned N P → IsWideVerdict rows S N P verdict → IsSecureWhereYes S N P verdict
where_yes law rows S N P Yes planned is = law rows S N P planned is
where_yes law rows S N P (No why) planned is = tt

pub returns-in-Ok-clause-secure : goal.returns-in-Ok-clause-secure
returns-in-Ok-clause-secure c =
    let planned : IsPlanned c.args.net.now.circuit c.args.plan.now = record {
      closed = c.nets-nets.ensures.checked.closed;
      acyclic = c.order-order.ensures.acyclic;
      well_made = subst IsWellMade c.plan.view_is c.plan.invariant.well_made;
      plan_of = c.requires.plan;
    } in
    where_yes c.wide_yes_is_secure.ensures.secure c.args.rows c.args.source.now.circuit c.args.net.now.circuit c.args.plan.now c.in-Ok.verdict planned c.in-Ok.ensures.verdict
