-- A text of a network and a netlist that is asked about: what is refused of it, and its answer.
use Rattle.std.proofs.Common.{◌≡◌, ℕ, List, None, Result, IfOk, ap, subst}
use Rattle.fault_secure.specs.CodePlan.{CodePlan}
use Rattle.tsc_net.specs.NetlistOf.{NetlistOf}
use Rattle.tsc_text.specs.Bytes.{bad_line}
use Rattle.tsc_text.specs.Lines.{lines_of}
use Rattle.tsc_text.specs.TextLine.{TextLine}
use Rattle.commands.specs.declared.source_format.SourceFormat.TheVariants.{Blif}
use Rattle.netlist_answers.specs.declared.reply.Reply.{Reply}
use Rattle.refusals.specs.declared.refusal.Refusal.{Refusal}
use Rattle.text_sections.specs.Denoted.{behind_source}
use Rattle.text_sections.specs.Refused.{IsRefusedBy, byte_refusal, first_of, netlist_refusal, source_refusal}
use Rattle.text_sections.proofs.SectionLemmas.{allowed_both, refused_first, refused_later}
use Rattle.question_answers.specs.QuestionReply.{IsQuestionReplyOf}
use Rattle.question_answers.specs.Refused.{question_lines_refusal, question_refusal}

-- ---- what is refused

-- a text whose bytes are refused
pub refused_bytes : (text : List ℕ) (given : Refusal) → IsRefusedBy (byte_refusal (bad_line text)) given → IsRefusedBy (question_refusal text) given
refused_bytes text given refused = refused_first (byte_refusal (bad_line text)) (question_lines_refusal (lines_of text)) given refused

-- a text whose bytes are allowed, for its lines
pub refused_lines : (text : List ℕ) (lines : List TextLine) (given : Refusal) → lines ≡ lines_of text → bad_line text ≡ None
    → IsRefusedBy (question_lines_refusal lines) given → IsRefusedBy (question_refusal text) given
refused_lines text lines given are sound refused =
    let P : List TextLine → Type 0 = λ l. IsRefusedBy (first_of (byte_refusal (bad_line text)) (question_lines_refusal l)) given in
    subst P are (refused_later (byte_refusal (bad_line text)) (question_lines_refusal lines) given (ap byte_refusal sound) refused)

pub allowed_lines : (text : List ℕ) (lines : List TextLine) → lines ≡ lines_of text → bad_line text ≡ None → question_lines_refusal lines ≡ None → question_refusal text ≡ None
allowed_lines text lines are sound allowed =
    let P : List TextLine → Type 0 = λ l. first_of (byte_refusal (bad_line text)) (question_lines_refusal l) ≡ None in
    subst P are (allowed_both (byte_refusal (bad_line text)) (question_lines_refusal lines) (ap byte_refusal sound) allowed)

-- lines whose network is refused
pub refused_source : (lines : List TextLine) (given : Refusal) → IsRefusedBy (source_refusal Blif lines) given → IsRefusedBy (question_lines_refusal lines) given
refused_source lines given refused = refused_first (source_refusal Blif lines) (netlist_refusal lines (behind_source Blif lines)) given refused

-- lines whose network is allowed, for the netlist after it
pub refused_behind : (lines : List TextLine) (at : ℕ) (given : Refusal) → at ≡ behind_source Blif lines → source_refusal Blif lines ≡ None
    → IsRefusedBy (netlist_refusal lines at) given → IsRefusedBy (question_lines_refusal lines) given
refused_behind lines at given is_at none refused =
    let P : ℕ → Type 0 = λ n. IsRefusedBy (first_of (source_refusal Blif lines) (netlist_refusal lines n)) given in
    subst P is_at (refused_later (source_refusal Blif lines) (netlist_refusal lines at) given none refused)

pub allowed_behind : (lines : List TextLine) (at : ℕ) → at ≡ behind_source Blif lines → source_refusal Blif lines ≡ None → netlist_refusal lines at ≡ None
    → question_lines_refusal lines ≡ None
allowed_behind lines at is_at none allowed =
    let P : ℕ → Type 0 = λ n. first_of (source_refusal Blif lines) (netlist_refusal lines n) ≡ None in
    subst P is_at (allowed_both (source_refusal Blif lines) (netlist_refusal lines at) none allowed)

-- ---- its answer

-- the same answer of a network, a netlist and a plan that are the same
pub reply_over : {E : Type 0} (r : Result Reply E) (S T N M : NetlistOf) (P Q : CodePlan) → S ≡ T → N ≡ M → P ≡ Q
    → IfOk r (λ reply. IsQuestionReplyOf reply.ending S N P reply.bytes) → IfOk r (λ reply. IsQuestionReplyOf reply.ending T M Q reply.bytes)
reply_over r S T N M P Q is_source is_net is_plan replied =
    let A : NetlistOf → Type 0 = λ s. IfOk r (λ reply. IsQuestionReplyOf reply.ending s N P reply.bytes) in
    let B : NetlistOf → Type 0 = λ n. IfOk r (λ reply. IsQuestionReplyOf reply.ending T n P reply.bytes) in
    let C : CodePlan → Type 0 = λ p. IfOk r (λ reply. IsQuestionReplyOf reply.ending T M p reply.bytes) in
    subst C is_plan (subst B is_net (subst A is_source replied))

-- the same of one answer
pub one_over : (reply : Reply) (S N M : NetlistOf) (P Q : CodePlan) → N ≡ M → P ≡ Q → IsQuestionReplyOf reply.ending S N P reply.bytes → IsQuestionReplyOf reply.ending S M Q reply.bytes
one_over reply S N M P Q is_net is_plan replied =
    let B : NetlistOf → Type 0 = λ n. IsQuestionReplyOf reply.ending S n P reply.bytes in
    let C : CodePlan → Type 0 = λ p. IsQuestionReplyOf reply.ending S M p reply.bytes in
    subst C is_plan (subst B is_net replied)
