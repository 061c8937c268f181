-- The answer of an exact audit: its verdict, and what that says where it is yes.
use Rattle.std.proofs.Common.{◌≡◌, ℕ, List, Result, IfOk, sym, subst}
use Rattle.fault_secure.specs.CodePlan.{CodePlan}
use Rattle.fault_secure.specs.Logic.{Logic}
use Rattle.tsc_net.specs.NetlistOf.{NetlistOf}
use Rattle.exact_audit.specs.ExactVerdict.{IsExactVerdict}
use Rattle.exact_audit.specs.ExactLaws.{IsAlarmSecureWhereYes}
use Rattle.point_laws.proofs.Heard.{alarm_secure_for_faults}
use Rattle.exact_audit.specs.declared.verdict.ExactVerdict.{ExactVerdict}
use Rattle.exact_audit.specs.declared.verdict.ExactVerdict.TheVariants.{Yes, No}
use Rattle.refusals.specs.declared.ending.Ending.{Ending}
use Rattle.netlist_answers.specs.declared.reply.Reply.{Reply}
use Rattle.exact_answers.specs.ExactReply.{IsExactReplyOf, IsShownWhereYes, exact_ending}
use Rattle.exact_answers.specs.ExactText.{exact_text}

-- what is alarm-secure where the verdict is yes shows each listed fault there
pub shown_where_yes : (M : Logic) (net : NetlistOf) (plan : CodePlan) (verdict : ExactVerdict) → IsAlarmSecureWhereYes M net.circuit plan verdict
    → IsShownWhereYes M net plan verdict
shown_where_yes M net plan Yes secure = (secure, λ f w xs vs us. alarm_secure_for_faults M net.circuit plan f w xs vs us secure)
shown_where_yes M net plan (No why) secure = tt

of_verdict : (M : Logic) (net : NetlistOf) (plan : CodePlan) (verdict : ExactVerdict) (answer : List ℕ)
    → IsExactVerdict M net.circuit plan verdict → IsShownWhereYes M net plan verdict → answer ≡ exact_text net verdict
    → IsExactReplyOf (exact_ending verdict) M net plan answer
of_verdict M net plan Yes answer right secure written = record { verdict = right; secure = secure.0; faults = secure.1; written = written }
of_verdict M net plan (No why) answer right secure written = record { reason = why; verdict = right; written = written }

pub reply_of : (M : Logic) (net : NetlistOf) (plan : CodePlan) (verdict : ExactVerdict) (ending : Ending) (answer : List ℕ)
    → IsExactVerdict M net.circuit plan verdict → IsShownWhereYes M net plan verdict → answer ≡ exact_text net verdict → ending ≡ exact_ending verdict
    → IsExactReplyOf ending M net plan answer
reply_of M net plan verdict ending answer right secure written ends =
    let D : Ending → Type 0 = λ e. IsExactReplyOf e M net plan answer in subst D (sym ends) (of_verdict M net plan verdict answer right secure written)

-- the same of a source, a netlist and a plan that are the same
pub reply_over : {E : Type 0} (r : Result Reply E) (M N : Logic) (net same : NetlistOf) (plan also : CodePlan) → M ≡ N → net ≡ same → plan ≡ also
    → IfOk r (λ reply. IsExactReplyOf reply.ending M net plan reply.bytes) → IfOk r (λ reply. IsExactReplyOf reply.ending N same also reply.bytes)
reply_over r M N net same plan also is_source is_net is_plan replied =
    let A : Logic → Type 0 = λ m. IfOk r (λ reply. IsExactReplyOf reply.ending m net plan reply.bytes) in
    let B : NetlistOf → Type 0 = λ n. IfOk r (λ reply. IsExactReplyOf reply.ending N n plan reply.bytes) in
    let C : CodePlan → Type 0 = λ p. IfOk r (λ reply. IsExactReplyOf reply.ending N same p reply.bytes) in
    subst C is_plan (subst B is_net (subst A is_source replied))
