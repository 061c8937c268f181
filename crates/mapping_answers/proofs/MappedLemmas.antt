-- A text of two netlists: what is refused of it, what stops an answer, and the answer.
use Rattle.std.proofs.Common.{◌≡◌, ℕ, Bool, true, false, List, None, Result, IfOk, refl, sym, ap, subst}
use Rattle.fault_secure.specs.Settle.{Acyclic}
use Rattle.tsc_text.specs.Bytes.{bad_line}
use Rattle.tsc_text.specs.Lines.{lines_of}
use Rattle.tsc_text.specs.TextLine.{TextLine}
use Rattle.tsc_net.specs.NetlistOf.{NetlistOf, named_of}
use Rattle.blif_read.specs.declared.kinds.Kind.TheVariants.{AnyPlan, Unplanned}
use Rattle.mapping_audit.specs.MappedAnswer.{IsMappedAnswer, IsSecureWhereYes}
use Rattle.mapping_audit.specs.declared.answer.MappedAnswer.{MappedAnswer}
use Rattle.mapping_audit.specs.declared.answer.MappedAnswer.TheVariants.{Yes, No, Wide}
use Rattle.mapping_audit.specs.declared.reason.MappedReason.TheVariants.{Inputs, Latches, Outputs, Net, NoBlock, NoPin, NoCover}
use Rattle.refusals.specs.declared.ending.Ending.TheVariants.{Finished}
use Rattle.refusals.specs.declared.limit.OwnLimit.TheVariants.{Pins}
use Rattle.refusals.specs.declared.refusal.Refusal.{Refusal}
use Rattle.netlist_answers.specs.declared.reply.Reply.{Reply}
use Rattle.text_sections.specs.Denoted.{first_section, netlist_in}
use Rattle.text_sections.specs.Refused.{IsRefusedBy, behind_refusal, byte_refusal, first_of, first_refusal}
use Rattle.text_sections.proofs.SectionLemmas.{allowed_both, refused_later}
use Rattle.text_sections.proofs.StopLemmas.{stops_there}
use Rattle.mapping_answers.specs.MappedClocks.{text_has_other_clock}
use Rattle.mapping_answers.specs.MappedSections.{mapped_in, mapped_lines_refusal, mapped_refusal}
use Rattle.mapping_answers.specs.MappedText.{yes_text}
use Rattle.mapping_answers.specs.MappedReply.{IsReplyOn, HasWideCover, HasWideCoverIn, IsMappedReply, IsMappingOf, StopsMapped, StopsPair}

-- ---- what is refused

-- a text whose bytes are allowed, for its lines
pub refused_lines : (text : List ℕ) (lines : List TextLine) (given : Refusal) → lines ≡ lines_of text → bad_line text ≡ None
    → IsRefusedBy (mapped_lines_refusal lines) given → IsRefusedBy (mapped_refusal text) given
refused_lines text lines given are sound refused =
    let P : List TextLine → Type 0 = λ l. IsRefusedBy (first_of (byte_refusal (bad_line text)) (mapped_lines_refusal l)) given in
    subst P are (refused_later (byte_refusal (bad_line text)) (mapped_lines_refusal lines) given (ap byte_refusal sound) refused)

-- where nothing refuses the bytes of a text or its lines, `audit mapped` of the text is not refused
pub allowed_lines : (text : List ℕ) (lines : List TextLine) → lines ≡ lines_of text → bad_line text ≡ None
    → mapped_lines_refusal lines ≡ None → mapped_refusal text ≡ None
allowed_lines text lines are sound allowed =
    let P : List TextLine → Type 0 = λ l. first_of (byte_refusal (bad_line text)) (mapped_lines_refusal l) ≡ None in
    subst P are (allowed_both (byte_refusal (bad_line text)) (mapped_lines_refusal lines) (ap byte_refusal sound) allowed)

-- lines whose first netlist is allowed, for what stands behind it
module _ (lines : List TextLine) (at : ℕ) (is : at ≡ (first_section lines).next) (none : first_refusal AnyPlan lines ≡ None) where
  pub refused_behind : (given : Refusal) → IsRefusedBy (behind_refusal Unplanned lines at) given → IsRefusedBy (mapped_lines_refusal lines) given
  refused_behind given refused =
      let P : ℕ → Type 0 = λ n. IsRefusedBy (first_of (first_refusal AnyPlan lines) (behind_refusal Unplanned lines n)) given in
      subst P is (refused_later (first_refusal AnyPlan lines) (behind_refusal Unplanned lines at) given none refused)

  -- where nothing refuses the netlist after it either, `audit mapped` of the lines is not refused
  pub allowed_behind : behind_refusal Unplanned lines at ≡ None → mapped_lines_refusal lines ≡ None
  allowed_behind allowed =
      let P : ℕ → Type 0 = λ n. first_of (first_refusal AnyPlan lines) (behind_refusal Unplanned lines n) ≡ None in
      subst P is (allowed_both (first_refusal AnyPlan lines) (behind_refusal Unplanned lines at) none allowed)

-- ---- what is answered

-- a yes is a mapping
pub is_mapping : (N G : NetlistOf) → IsMappedAnswer N G Yes → IsSecureWhereYes N G Yes → Acyclic G.circuit → IsMappingOf N G
is_mapping N G answer secure acyclic = record { names = answer.0; reads = answer.1; secure = secure refl answer.1; acyclic = acyclic }

pub yes_replied : (N G : NetlistOf) (reply : Reply) (bytes : List ℕ) → reply ≡ record { bytes = bytes; ending = Finished } → IsMappingOf N G → bytes ≡ yes_text
    → IsReplyOn false reply.ending N G reply.bytes
yes_replied N G reply bytes is mapping written =
    let P : Reply → Type 0 = λ r. IsReplyOn false r.ending N G r.bytes in subst P (sym is) (record { clocks = refl; mapping = mapping; written = written })

-- where the first reason is another one than the inputs, these are the same
pub same_inputs : (N G : NetlistOf) (answer : MappedAnswer) → IsMappedAnswer N G answer → (answer ≡ No Inputs → ⊥) → (named_of N).inputs ≡ (named_of G).inputs
same_inputs N G Yes is other = is.0.inputs
same_inputs N G (No Inputs) is other = absurd (other refl)
same_inputs N G (No Latches) is other = is.0
same_inputs N G (No Outputs) is other = is.0
same_inputs N G (No (Net node)) is other = is.0
same_inputs N G (No (NoBlock gate)) is other = is.0.inputs
same_inputs N G (No (NoPin gate pin)) is other = is.0.inputs
same_inputs N G (No (NoCover node value width)) is other = is.0.inputs
same_inputs N G (Wide node) is other = is.0.inputs

-- ---- the netlists of the text are those that were read

module _ (text : List ℕ) (b : Bool) (N G : NetlistOf) (clocks : b ≡ text_has_other_clock text) (plain : N ≡ netlist_in text) (mapped : G ≡ mapped_in text) where
  pub replied : (r : Result Reply Refusal) → IfOk r (λ reply. IsReplyOn b reply.ending N G reply.bytes)
      → IfOk r (λ reply. IsMappedReply reply.ending text reply.bytes)
  replied r answers =
      let A : NetlistOf → Type 0 = λ n. IfOk r (λ reply. IsReplyOn b reply.ending n G reply.bytes) in
      let B : NetlistOf → Type 0 = λ g. IfOk r (λ reply. IsReplyOn b reply.ending (netlist_in text) g reply.bytes) in
      let C : Bool → Type 0 = λ c. IfOk r (λ reply. IsReplyOn c reply.ending (netlist_in text) (mapped_in text) reply.bytes) in
      subst C clocks (subst B mapped (subst A plain answers))

  wide_there : HasWideCover b N G → HasWideCoverIn text
  wide_there wide =
      let A : NetlistOf → Type 0 = λ n. HasWideCover b n G in
      let B : NetlistOf → Type 0 = λ g. HasWideCover b (netlist_in text) g in
      let C : Bool → Type 0 = λ c. HasWideCover c (netlist_in text) (mapped_in text) in
      subst C clocks (subst B mapped (subst A plain wide))

  pub stopped : (given : Refusal) → mapped_refusal text ≡ None → StopsPair b N G given → StopsMapped text given
  stopped given allowed stops =
      stops_there Pins (mapped_refusal text) (HasWideCover b N G) (HasWideCoverIn text) given allowed wide_there stops
