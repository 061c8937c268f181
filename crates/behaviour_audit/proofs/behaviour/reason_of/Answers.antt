use Rattle.std.proofs.Common.{◌≡◌, ℕ, ◌*◌, ◌^◌, sym, ap, ap₂, ◌∙◌, subst}
use Rattle.behaviour_audit.specs.Trial.{IsFirstAnswer}
use Rattle.behaviour_audit.specs.declared.condition.Condition.TheVariants.{NextState, WordAndOutputs}
use Rattle.behaviour_audit.proofs.AnswerLemmas.{first_pass_answers, second_pass_answers}
use Rattle.behaviour_audit.proofs.behaviour.reason_of.Goals as goal
use Rattle.fault_secure.specs.Exposing.{point_count}

pub returns-then-is_some : goal.returns-then-is_some
returns-then-is_some c =
    let count : c.listed_states.result * c.width_of.result ≡ point_count c.args.audited.now.net.now.circuit c.args.audited.now.plan.now
    = ap₂ (λ (a b : ℕ). a * b) c.listed_states.ensures.states (c.width_of.ensures.width ∙ ap (λ (n : ℕ). 2 ^ n) c.inputs.ensures.count) in
    record {
      answer = first_pass_answers c.args.audited.now c.requires.trial.fit c.requires.starts c.first_wrong_next-next.result
          (subst (λ (n : ℕ). IsFirstAnswer NextState c.args.audited.now 0 n c.first_wrong_next-next.result) count c.first_wrong_next-next.ensures.first) (sym c.is_some.ensures ∙ c.if-is_some.true);
    }

pub returns : goal.returns
returns c =
    let count : c.listed_states.result * c.width_of.result ≡ point_count c.args.audited.now.net.now.circuit c.args.audited.now.plan.now
    = ap₂ (λ (a b : ℕ). a * b) c.listed_states.ensures.states (c.width_of.ensures.width ∙ ap (λ (n : ℕ). 2 ^ n) c.inputs.ensures.count) in
    record {
      answer = second_pass_answers c.args.audited.now c.requires.trial.fit c.requires.starts c.first_wrong_next-next.result c.first_reason.result
          (subst (λ (n : ℕ). IsFirstAnswer NextState c.args.audited.now 0 n c.first_wrong_next-next.result) count c.first_wrong_next-next.ensures.first) (sym c.is_some.ensures ∙ c.if-is_some.false)
          (subst (λ (n : ℕ). IsFirstAnswer WordAndOutputs c.args.audited.now 0 n c.first_reason.result) count c.first_reason.ensures.first);
    }
