-- A question whose refutation is followed: the answer is the yes of an exact audit.
use Rattle.std.proofs.Common.{◌≡◌, ℕ, List, None, sym, subst}
use Rattle.fault_secure.specs.CodePlan.{CodePlan}
use Rattle.fault_secure.specs.Logic.{Network}
use Rattle.fault_secure.specs.Settle.{Acyclic}
use Rattle.point_laws.proofs.Heard.{alarm_secure_for_faults}
use Rattle.refutations.specs.Clauses.{HaveNoModel}
use Rattle.exact_question.specs.Laws.{IsAsked, NoModelIsAlarmSecure, QuestionDecides}
use Rattle.exact_question.specs.Question.{question}
use Rattle.exact_answers.specs.ExactReply.{IsExactYes}
use Rattle.exact_answers.specs.ExactText.{exact_text}
use Rattle.exact_audit.specs.declared.verdict.ExactVerdict.TheVariants.{Yes}
use Rattle.tsc_net.specs.NetlistOf.{NetlistOf}
use Rattle.tsc_text.specs.TextLine.{TextLine}
use Rattle.refusals.specs.declared.ending.Ending.{Ending}
use Rattle.refusals.specs.declared.ending.Ending.TheVariants.{Finished, Rejected}
use Rattle.question_answers.specs.declared.reason.NoQuestion.{NoQuestion}
use Rattle.question_answers.specs.NoQuestion.{FitsQuestion, IsFirstMisfit, no_question_text}
use Rattle.proof_answers.specs.ProofReply.{IsProofReplyOf, IsProved}
use Rattle.proof_answers.specs.Refused.{question_fault}

module _ (S N : NetlistOf) (P : CodePlan) where
  -- a question without a model is what an exact audit says yes to
  pub is_exact_yes : (answer : List ℕ) → QuestionDecides → NoModelIsAlarmSecure → IsAsked S.circuit N.circuit P → Acyclic N.circuit → FitsQuestion S.circuit N.circuit P
      → HaveNoModel (question S.circuit N.circuit P) → answer ≡ exact_text N Yes → IsExactYes (Network S.circuit) N P answer
  is_exact_yes answer decides secure asked acyclic fits none written =
      let both = (decides S.circuit N.circuit P asked).0 none in
      let alarm = secure S.circuit N.circuit P asked acyclic none in
      record {
        verdict = (record { fits = fits.fits; follows = both.0 }, both.1);
        secure = alarm;
        faults = λ f w xs vs us. alarm_secure_for_faults (Network S.circuit) N.circuit P f w xs vs us alarm;
        written = written;
      }

  pub is_proved : (refutation : List TextLine) (ending : Ending) (answer : List ℕ) → QuestionDecides → NoModelIsAlarmSecure → IsAsked S.circuit N.circuit P → Acyclic N.circuit
      → FitsQuestion S.circuit N.circuit P → question_fault S.circuit N.circuit P refutation ≡ None → HaveNoModel (question S.circuit N.circuit P) → answer ≡ exact_text N Yes
      → ending ≡ Finished → IsProofReplyOf ending S N P refutation answer
  is_proved refutation ending answer decides secure asked acyclic fits followed none written ends =
      let A : Ending → Type 0 = λ e. IsProofReplyOf e S N P refutation answer in
      let proof : IsProved S N P refutation answer = record {
        fits = fits;
        asked = asked;
        followed = followed;
        refuted = none;
        exact = is_exact_yes answer decides secure asked acyclic fits none written;
      } in
      subst A (sym ends) proof

  pub is_not_asked : (refutation : List TextLine) (ending : Ending) (answer : List ℕ) (why : NoQuestion) → IsFirstMisfit S.circuit N.circuit P why
      → answer ≡ no_question_text why → ending ≡ Rejected → IsProofReplyOf ending S N P refutation answer
  is_not_asked refutation ending answer why misfit written ends =
      let A : Ending → Type 0 = λ e. IsProofReplyOf e S N P refutation answer in
      subst A (sym ends) (record { reason = why; misfit = misfit; written = written })
