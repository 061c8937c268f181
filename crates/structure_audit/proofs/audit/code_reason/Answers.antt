use Rattle.std.proofs.Common.{◌≡◌, sym, ◌∙◌, ap, subst}
use Rattle.fault_secure.specs.declared.code.Code.TheVariants.{Berger, MOutOfN}
use Rattle.fault_secure.specs.CodePlan.{CodePlan, IsUnorderedCode}
use Rattle.structure_audit.proofs.audit.code_reason.Goals as goal

pub returns-in-Berger : goal.returns-in-Berger
returns-in-Berger c =
    let is : c.args.plan.now.code ≡ Berger = sym (ap (λ (P : CodePlan). P.code) c.plan.view_is) ∙ c.in-Berger.is in
    record { answer = c.sign_reason.ensures.answer c.args.plan.now (subst IsUnorderedCode (sym is) tt) c.requires.function }

pub returns-in-MOutOfN : goal.returns-in-MOutOfN
returns-in-MOutOfN c =
    let is : c.args.plan.now.code ≡ MOutOfN = sym (ap (λ (P : CodePlan). P.code) c.plan.view_is) ∙ c.in-MOutOfN.is in
    record { answer = c.sign_reason-in-MOutOfN.ensures.answer c.args.plan.now (subst IsUnorderedCode (sym is) tt) c.requires.function }
