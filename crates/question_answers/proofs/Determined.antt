-- What is answered to a text is determined by it.
use Rattle.std.proofs.Common.{◌≡◌, ℕ, List, refl, sym, ◌∙◌, ap}
use Rattle.fault_secure.specs.Circuit.{Circuit}
use Rattle.fault_secure.specs.CodePlan.{CodePlan}
use Rattle.fault_secure.specs.Logic.{Network}
use Rattle.audit.specs.Verdict.{FitsSource, HasOther}
use Rattle.audit.specs.declared.verdict.Shape.{Shape as What}
use Rattle.audit.specs.declared.verdict.Shape.TheVariants.{Inputs, Outputs, States}
use Rattle.tsc_net.specs.NetlistOf.{NetlistOf}
use Rattle.tsc_text.specs.Lines.{lines_of}
use Rattle.commands.specs.declared.source_format.SourceFormat.TheVariants.{Blif}
use Rattle.refusals.specs.declared.ending.Ending.{Ending}
use Rattle.refusals.specs.declared.ending.Ending.TheVariants.{Finished, Rejected}
use Rattle.text_sections.specs.Denoted.{behind_source, first_net, net_from, plan_from}
use Rattle.question_answers.specs.declared.reason.NoQuestion.{NoQuestion}
use Rattle.question_answers.specs.declared.reason.NoQuestion.TheVariants.{Shape, Latched, Parity}
use Rattle.question_answers.specs.NoQuestion.{IsFirstMisfit, no_question_text}
use Rattle.question_answers.specs.QuestionReply.{IsQuestion, IsNoQuestion, IsQuestionReplyOf}
use Rattle.question_answers.specs.Laws.{OneQuestionReply}

-- ---- a misfit excludes the others, and the question

module _ (C N : Circuit) (P : CodePlan) where
  -- what fits has no other shape
  pub fits_or_other : (what : What) → FitsSource (Network C) N P → HasOther (Network C) N P what → ⊥
  fits_or_other Inputs fits other = other fits.inputs
  fits_or_other Outputs fits other = other.1 fits.outputs
  fits_or_other States fits other = other.1.1 fits.states

  one_shape : (a b : What) → HasOther (Network C) N P a → HasOther (Network C) N P b → a ≡ b
  one_shape Inputs Inputs first second = refl
  one_shape Inputs Outputs first second = absurd (first second.0)
  one_shape Inputs States first second = absurd (first second.0)
  one_shape Outputs Inputs first second = absurd (second first.0)
  one_shape Outputs Outputs first second = refl
  one_shape Outputs States first second = absurd (first.1 second.1.0)
  one_shape States Inputs first second = absurd (second first.0)
  one_shape States Outputs first second = absurd (second.1 first.1.0)
  one_shape States States first second = refl

  -- there is one first misfit
  pub one_misfit : (a b : NoQuestion) → IsFirstMisfit C N P a → IsFirstMisfit C N P b → a ≡ b
  one_misfit (Shape a) (Shape b) first second = ap Shape (one_shape a b first second)
  one_misfit (Shape a) Latched first second = absurd (fits_or_other a second.0 first)
  one_misfit (Shape a) Parity first second = absurd (fits_or_other a second.0 first)
  one_misfit Latched (Shape b) first second = absurd (fits_or_other b first.0 second)
  one_misfit Latched Latched first second = refl
  one_misfit Latched Parity first second = absurd (first.1 second.1.0)
  one_misfit Parity (Shape b) first second = absurd (fits_or_other b first.0 second)
  one_misfit Parity Latched first second = absurd (second.1 first.1.0)
  one_misfit Parity Parity first second = refl

asked_or_not : (S N : NetlistOf) (P : CodePlan) (answer : List ℕ) (why : NoQuestion) → IsQuestion S N P answer → IsFirstMisfit S.circuit N.circuit P why → ⊥
asked_or_not S N P answer (Shape what) is misfit = fits_or_other S.circuit N.circuit P what is.fits misfit
asked_or_not S N P answer Latched is misfit = misfit.1 is.asked.latches
asked_or_not S N P answer Parity is misfit = misfit.1.1 is.asked.parity

-- ---- two answers

one_reply : (S N : NetlistOf) (P : CodePlan) (ends also : Ending) (answer other : List ℕ) → IsQuestionReplyOf ends S N P answer → IsQuestionReplyOf also S N P other
    → (ends ≡ also) × (answer ≡ other)
one_reply S N P Finished Finished answer other first second = (refl, first.written ∙ sym second.written)
one_reply S N P Finished Rejected answer other first second = absurd (asked_or_not S N P answer second.reason first second.misfit)
one_reply S N P Rejected Finished answer other first second = absurd (asked_or_not S N P other first.reason second first.misfit)
one_reply S N P Rejected Rejected answer other first second =
    (refl, first.written ∙ ap no_question_text (one_misfit S.circuit N.circuit P first.reason second.reason first.misfit second.misfit) ∙ sym second.written)

pub one_question_reply : OneQuestionReply
one_question_reply text ends also answer other first second =
    let lines = lines_of text in
    one_reply (first_net lines) (net_from lines (behind_source Blif lines)) (plan_from lines (behind_source Blif lines)) ends also answer other first second
