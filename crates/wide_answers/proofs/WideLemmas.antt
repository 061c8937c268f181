-- A text that is audited whatever the number of inputs: what is refused of it, what stops an answer, and the answer.
use Rattle.std.proofs.Common.{◌≡◌, ℕ, ◌<◌, Bool, List, [], ◌∷◌, length, map, codes, None, Some, Result, IfOk, refl, sym, ap, subst, arith}
use Rattle.fault_secure.specs.Circuit.{Circuit}
use Rattle.fault_secure.specs.CodePlan.{CodePlan}
use Rattle.tsc_text.specs.Bytes.{bad_line}
use Rattle.tsc_text.specs.Lines.{lines_of}
use Rattle.tsc_text.specs.TextLine.{TextLine}
use Rattle.tsc_net.specs.NetlistOf.{NetlistOf}
use Rattle.sim_text.specs.StepLine.{bits_word, digit}
use Rattle.wide_audit.specs.WideVerdict.{IsSpent, IsWideError, IsWideVerdict}
use Rattle.wide_audit.specs.Laws.{IsSecureWhereYes}
use Rattle.wide_audit.specs.declared.verdict.WideError.{WideError}
use Rattle.wide_audit.specs.declared.verdict.WideError.TheVariants.{Spent, Memory as NoMemory}
use Rattle.wide_audit.specs.declared.verdict.WideVerdict.{WideVerdict}
use Rattle.wide_audit.specs.declared.verdict.WideVerdict.TheVariants.{Yes, No}
use Rattle.refusals.specs.declared.ending.Ending.{Ending}
use Rattle.refusals.specs.declared.limit.OwnLimit.TheVariants.{Rows}
use Rattle.refusals.specs.declared.refusal.Refusal.{Refusal}
use Rattle.commands.specs.declared.source_format.SourceFormat.TheVariants.{Blif}
use Rattle.netlist_answers.specs.declared.reply.Reply.{Reply}
use Rattle.text_sections.specs.Denoted.{behind_source, netlist_in, second_netlist_in, second_plan_in}
use Rattle.text_sections.specs.Refused.{IsRefusedBy, StopsBeyond, byte_refusal, first_of, netlist_refusal, source_refusal}
use Rattle.text_sections.proofs.SectionLemmas.{allowed_both, refused_later}
use Rattle.text_sections.proofs.StopLemmas.{stops_there}
use Rattle.wide_answers.specs.WideSections.{wide_lines_refusal, wide_refusal}
use Rattle.wide_answers.specs.WideText.{wide_text}
use Rattle.wide_answers.specs.WideReply.{IsWideReply, IsWideReplyOf, NeedsMoreRows, StopsJudged, StopsWide, refusal_by, wide_ending}

-- ---- what is refused

-- a text whose bytes are allowed, for its lines
pub refused_lines : (text : List ℕ) (lines : List TextLine) (given : Refusal) → lines ≡ lines_of text → bad_line text ≡ None
    → IsRefusedBy (wide_lines_refusal lines) given → IsRefusedBy (wide_refusal text) given
refused_lines text lines given are sound refused =
    let P : List TextLine → Type 0 = λ l. IsRefusedBy (first_of (byte_refusal (bad_line text)) (wide_lines_refusal l)) given in
    subst P are (refused_later (byte_refusal (bad_line text)) (wide_lines_refusal lines) given (ap byte_refusal sound) refused)

-- where nothing refuses the bytes of a text or its lines, a wide audit of the text is not refused
pub allowed_lines : (text : List ℕ) (lines : List TextLine) → lines ≡ lines_of text → bad_line text ≡ None
    → wide_lines_refusal lines ≡ None → wide_refusal text ≡ None
allowed_lines text lines are sound allowed =
    let P : List TextLine → Type 0 = λ l. first_of (byte_refusal (bad_line text)) (wide_lines_refusal l) ≡ None in
    subst P are (allowed_both (byte_refusal (bad_line text)) (wide_lines_refusal lines) (ap byte_refusal sound) allowed)

-- lines whose network is allowed, for what stands behind it
module _ (lines : List TextLine) (at : ℕ) (is : at ≡ behind_source Blif lines) (none : source_refusal Blif lines ≡ None) where
  pub refused_behind : (given : Refusal) → IsRefusedBy (netlist_refusal lines at) given → IsRefusedBy (wide_lines_refusal lines) given
  refused_behind given refused =
      let P : ℕ → Type 0 = λ n. IsRefusedBy (first_of (source_refusal Blif lines) (netlist_refusal lines n)) given in
      subst P is (refused_later (source_refusal Blif lines) (netlist_refusal lines at) given none refused)

  -- where nothing refuses the netlist after it either, a wide audit of the lines is not refused
  pub allowed_behind : netlist_refusal lines at ≡ None → wide_lines_refusal lines ≡ None
  allowed_behind allowed =
      let P : ℕ → Type 0 = λ n. first_of (source_refusal Blif lines) (netlist_refusal lines n) ≡ None in
      subst P is (allowed_both (source_refusal Blif lines) (netlist_refusal lines at) none allowed)

-- ---- what is answered

-- bits as a word, where there is one
pub some_word : (bits : List Bool) → 0 < length bits → bits_word bits ≡ map digit bits
some_word [] some = absurd (omega arith)
some_word (b ∷ bits) some = refl

pub no_word : (bits : List Bool) → length bits ≡ 0 → bits_word bits ≡ codes "."
no_word [] none = refl
no_word (b ∷ bits) none = absurd (omega arith)

-- the verdict, what it says where it is yes, and its text are the answer
of_verdict : (rows : ℕ) (S : Circuit) (net : NetlistOf) (plan : CodePlan) (verdict : WideVerdict) (answer : List ℕ)
    → IsWideVerdict rows S net.circuit plan verdict → IsSecureWhereYes S net.circuit plan verdict → answer ≡ wide_text net verdict
    → IsWideReplyOf (wide_ending verdict) rows S net plan answer
of_verdict rows S net plan Yes answer right secure written = record { verdict = right; cells = secure.0; secure = secure.1; written = written }
of_verdict rows S net plan (No why) answer right secure written = record { reason = why; verdict = right; written = written }

pub reply_of : (rows : ℕ) (S : Circuit) (net : NetlistOf) (plan : CodePlan) (verdict : WideVerdict) (ending : Ending) (answer : List ℕ)
    → IsWideVerdict rows S net.circuit plan verdict → IsSecureWhereYes S net.circuit plan verdict → answer ≡ wide_text net verdict → ending ≡ wide_ending verdict
    → IsWideReplyOf ending rows S net plan answer
reply_of rows S net plan verdict ending answer right secure written ends =
    let D : Ending → Type 0 = λ e. IsWideReplyOf e rows S net plan answer in subst D (sym ends) (of_verdict rows S net plan verdict answer right secure written)

-- and what stops a verdict stops an answer
stops_by : (rows : ℕ) (S : Circuit) (net : NetlistOf) (plan : CodePlan) (error : WideError) → IsWideError rows S net.circuit plan error → StopsJudged rows S net plan (refusal_by error)
stops_by rows S net plan (Spent said) why = (ap Rows why.0, refl, why.1)
stops_by rows S net plan (NoMemory error) why = tt

pub stops_so : (rows : ℕ) (S : Circuit) (net : NetlistOf) (plan : CodePlan) (error : WideError) (refusal : Refusal) → refusal ≡ refusal_by error → IsWideError rows S net.circuit plan error
    → StopsJudged rows S net plan refusal
stops_so rows S net plan error refusal is why = subst (StopsJudged rows S net plan) (sym is) (stops_by rows S net plan error why)

-- ---- the netlists of the text are those that were read

module _ (text : List ℕ) (rows same_rows : ℕ) (S N : NetlistOf) (P : CodePlan) (counted : rows ≡ same_rows) (source : S ≡ netlist_in text)
    (net : N ≡ second_netlist_in Blif text) (plan : P ≡ second_plan_in Blif text) where
  pub replied : (r : Result Reply Refusal) → IfOk r (λ reply. IsWideReplyOf reply.ending rows S.circuit N P reply.bytes)
      → IfOk r (λ reply. IsWideReply reply.ending same_rows text reply.bytes)
  replied r answers =
      let A : ℕ → Type 0 = λ n. IfOk r (λ reply. IsWideReplyOf reply.ending n S.circuit N P reply.bytes) in
      let B : NetlistOf → Type 0 = λ s. IfOk r (λ reply. IsWideReplyOf reply.ending same_rows s.circuit N P reply.bytes) in
      let C : NetlistOf → Type 0 = λ n. IfOk r (λ reply. IsWideReplyOf reply.ending same_rows (netlist_in text).circuit n P reply.bytes) in
      let D : CodePlan → Type 0 = λ p. IfOk r (λ reply. IsWideReplyOf reply.ending same_rows (netlist_in text).circuit (second_netlist_in Blif text) p reply.bytes) in
      subst D plan (subst C net (subst B source (subst A counted answers)))

  spent_there : IsSpent rows S.circuit N.circuit P → IsSpent same_rows (netlist_in text).circuit (second_netlist_in Blif text).circuit (second_plan_in Blif text)
  spent_there spent =
      let A : ℕ → Type 0 = λ n. IsSpent n S.circuit N.circuit P in
      let B : NetlistOf → Type 0 = λ s. IsSpent same_rows s.circuit N.circuit P in
      let C : NetlistOf → Type 0 = λ n. IsSpent same_rows (netlist_in text).circuit n.circuit P in
      let D : CodePlan → Type 0 = λ p. IsSpent same_rows (netlist_in text).circuit (second_netlist_in Blif text).circuit p in
      subst D plan (subst C net (subst B source (subst A counted spent)))

  pub stopped : (given : Refusal) → wide_refusal text ≡ None → StopsJudged rows S.circuit N P given → StopsWide same_rows text given
  stopped given allowed stops =
      let A : ℕ → Type 0 = λ n. StopsBeyond (Some (Rows n)) (wide_refusal text) (NeedsMoreRows same_rows text) given in
      subst A counted (stops_there (Rows rows) (wide_refusal text) (IsSpent rows S.circuit N.circuit P) (NeedsMoreRows same_rows text) given allowed spent_there stops)
