-- A text that is audited: what is refused of it, and its answer.
use Rattle.std.proofs.Common.{◌≡◌, ℕ, List, None, Result, IfOk, sym, ap, subst}
use Rattle.audit.specs.Laws.{IsSecureWhereYes}
use Rattle.audit.specs.Verdict.{IsVerdict}
use Rattle.audit.specs.declared.verdict.Verdict.{Verdict}
use Rattle.audit.specs.declared.verdict.Verdict.TheVariants.{Yes, No}
use Rattle.fault_secure.specs.CodePlan.{CodePlan}
use Rattle.fault_secure.specs.Logic.{Logic}
use Rattle.tsc_net.specs.NetlistOf.{NetlistOf}
use Rattle.tsc_text.specs.Bytes.{bad_line}
use Rattle.tsc_text.specs.Lines.{lines_of}
use Rattle.tsc_text.specs.TextLine.{TextLine}
use Rattle.netlist_answers.specs.Audited.{ending_of}
use Rattle.netlist_answers.specs.declared.reply.Reply.{Reply}
use Rattle.netlist_answers.specs.Answers.{IsVerdictReplyOf}
use Rattle.text_sections.specs.Denoted.{behind_source, source_of}
use Rattle.text_sections.specs.Refused.{IsRefusedBy, byte_refusal, first_of, source_refusal}
use Rattle.netlist_answers.specs.Refused.{audit_behind_refusal, audit_lines_refusal, audit_refusal}
use Rattle.netlist_answers.specs.VerdictText.{verdict_text}
use Rattle.refusals.specs.declared.ending.Ending.{Ending}
use Rattle.refusals.specs.declared.refusal.Refusal.{Refusal}
use Rattle.commands.specs.declared.source_format.SourceFormat.{SourceFormat}
use Rattle.text_sections.proofs.SectionLemmas.{allowed_both, refused_first, refused_later}

-- ---- what is refused

-- a text whose bytes are allowed, for its lines
pub refused_bytes : (format : SourceFormat) (text : List ℕ) (given : Refusal)
    → IsRefusedBy (byte_refusal (bad_line text)) given → IsRefusedBy (audit_refusal format text) given
refused_bytes format text given refused = refused_first (byte_refusal (bad_line text)) (audit_lines_refusal format (lines_of text)) given refused

-- a text whose bytes are allowed, for its lines
pub refused_lines : (format : SourceFormat) (text : List ℕ) (lines : List TextLine) (given : Refusal) → lines ≡ lines_of text → bad_line text ≡ None
    → IsRefusedBy (audit_lines_refusal format lines) given → IsRefusedBy (audit_refusal format text) given
refused_lines format text lines given are sound refused =
    let P : List TextLine → Type 0 = λ l. IsRefusedBy (first_of (byte_refusal (bad_line text)) (audit_lines_refusal format l)) given in
    subst P are (refused_later (byte_refusal (bad_line text)) (audit_lines_refusal format lines) given (ap byte_refusal sound) refused)

-- where nothing refuses the bytes of a text or its lines, an audit of the text is not refused
pub allowed_lines : (format : SourceFormat) (text : List ℕ) (lines : List TextLine) → lines ≡ lines_of text → bad_line text ≡ None
    → audit_lines_refusal format lines ≡ None → audit_refusal format text ≡ None
allowed_lines format text lines are sound allowed =
    let P : List TextLine → Type 0 = λ l. first_of (byte_refusal (bad_line text)) (audit_lines_refusal format l) ≡ None in
    subst P are (allowed_both (byte_refusal (bad_line text)) (audit_lines_refusal format lines) (ap byte_refusal sound) allowed)

-- lines whose source is allowed, for what stands behind it
pub refused_behind : (format : SourceFormat) (lines : List TextLine) (at : ℕ) (M : Logic) (given : Refusal) → at ≡ behind_source format lines → M ≡ source_of format lines
    → source_refusal format lines ≡ None → IsRefusedBy (audit_behind_refusal lines at M) given → IsRefusedBy (audit_lines_refusal format lines) given
refused_behind format lines at M given is_at is_source none refused =
    let P : ℕ → Type 0 = λ n. IsRefusedBy (first_of (source_refusal format lines) (audit_behind_refusal lines n M)) given in
    let Q : Logic → Type 0 = λ m. IsRefusedBy (first_of (source_refusal format lines) (audit_behind_refusal lines (behind_source format lines) m)) given in
    subst Q is_source (subst P is_at (refused_later (source_refusal format lines) (audit_behind_refusal lines at M) given none refused))

-- where nothing refuses the source or what stands after it, an audit of the lines is not refused
pub allowed_behind : (format : SourceFormat) (lines : List TextLine) (at : ℕ) (M : Logic) → at ≡ behind_source format lines → M ≡ source_of format lines
    → source_refusal format lines ≡ None → audit_behind_refusal lines at M ≡ None → audit_lines_refusal format lines ≡ None
allowed_behind format lines at M is_at is_source none allowed =
    let P : ℕ → Type 0 = λ n. first_of (source_refusal format lines) (audit_behind_refusal lines n M) ≡ None in
    let Q : Logic → Type 0 = λ m. first_of (source_refusal format lines) (audit_behind_refusal lines (behind_source format lines) m) ≡ None in
    subst Q is_source (subst P is_at (allowed_both (source_refusal format lines) (audit_behind_refusal lines at M) none allowed))

-- ---- what is answered

-- the verdict on a netlist with its plan, what it says where it is yes, and its text are the answer
of_verdict : (M : Logic) (net : NetlistOf) (plan : CodePlan) (verdict : Verdict) (answer : List ℕ)
    → IsVerdict M net.circuit plan verdict → IsSecureWhereYes M net.circuit plan verdict → answer ≡ verdict_text net verdict
    → IsVerdictReplyOf (ending_of verdict) M net plan answer
of_verdict M net plan Yes answer right secure written = record { verdict = right; cells = secure.0; secure = secure.1; written = written }
of_verdict M net plan (No reason) answer right secure written = record { reason = reason; verdict = right; written = written }

pub reply_of : (M : Logic) (net : NetlistOf) (plan : CodePlan) (verdict : Verdict) (ending : Ending) (answer : List ℕ)
    → IsVerdict M net.circuit plan verdict → IsSecureWhereYes M net.circuit plan verdict → answer ≡ verdict_text net verdict → ending ≡ ending_of verdict
    → IsVerdictReplyOf ending M net plan answer
reply_of M net plan verdict ending answer right secure written ends =
    let D : Ending → Type 0 = λ e. IsVerdictReplyOf e M net plan answer in subst D (sym ends) (of_verdict M net plan verdict answer right secure written)

-- the same of a netlist and a plan that are the same
pub reply_over : {E : Type 0} (r : Result Reply E) (M N : Logic) (net same : NetlistOf) (plan also : CodePlan) → M ≡ N → net ≡ same → plan ≡ also
    → IfOk r (λ reply. IsVerdictReplyOf reply.ending M net plan reply.bytes) → IfOk r (λ reply. IsVerdictReplyOf reply.ending N same also reply.bytes)
reply_over r M N net same plan also is_source is_net is_plan replied =
    let A : Logic → Type 0 = λ m. IfOk r (λ reply. IsVerdictReplyOf reply.ending m net plan reply.bytes) in
    let B : NetlistOf → Type 0 = λ n. IfOk r (λ reply. IsVerdictReplyOf reply.ending N n plan reply.bytes) in
    let C : CodePlan → Type 0 = λ p. IfOk r (λ reply. IsVerdictReplyOf reply.ending N same p reply.bytes) in
    subst C is_plan (subst B is_net (subst A is_source replied))
