-- What is answered to a text is determined by it.
use Rattle.std.proofs.Common.{◌≡◌, ℕ, List, refl, sym, ◌∙◌, ap}
use Rattle.fault_secure.specs.CodePlan.{CodePlan}
use Rattle.tsc_net.specs.NetlistOf.{NetlistOf}
use Rattle.tsc_text.specs.Lines.{lines_of}
use Rattle.tsc_text.specs.TextLine.{TextLine}
use Rattle.commands.specs.declared.source_format.SourceFormat.TheVariants.{Blif}
use Rattle.refusals.specs.declared.ending.Ending.{Ending}
use Rattle.refusals.specs.declared.ending.Ending.TheVariants.{Finished, Rejected}
use Rattle.text_sections.specs.Denoted.{behind_source, first_net, net_from, plan_from}
use Rattle.question_answers.specs.NoQuestion.{no_question_text}
use Rattle.question_answers.proofs.Determined.{one_misfit}
use Rattle.proof_answers.specs.ProofReply.{IsProofReplyOf}
use Rattle.proof_answers.specs.Refused.{refutation_after}
use Rattle.proof_answers.specs.Laws.{OneProofReply}
use Rattle.proof_answers.proofs.Fits.{misfit_excludes}

one_reply : (S N : NetlistOf) (P : CodePlan) (refutation : List TextLine) (ends also : Ending) (answer other : List ℕ)
    → IsProofReplyOf ends S N P refutation answer → IsProofReplyOf also S N P refutation other → (ends ≡ also) × (answer ≡ other)
one_reply S N P refutation Finished Finished answer other first second = (refl, first.exact.written ∙ sym second.exact.written)
one_reply S N P refutation Finished Rejected answer other first second = absurd (misfit_excludes S.circuit N.circuit P second.reason second.misfit first.fits)
one_reply S N P refutation Rejected Finished answer other first second = absurd (misfit_excludes S.circuit N.circuit P first.reason first.misfit second.fits)
one_reply S N P refutation Rejected Rejected answer other first second =
    (refl, first.written ∙ ap no_question_text (one_misfit S.circuit N.circuit P first.reason second.reason first.misfit second.misfit) ∙ sym second.written)

pub one_proof_reply : OneProofReply
one_proof_reply text ends also answer other first second =
    let lines = lines_of text in
    let from = behind_source Blif lines in
    one_reply (first_net lines) (net_from lines from) (plan_from lines from) (refutation_after lines from) ends also answer other first second
