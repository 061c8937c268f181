-- The answers of `audit mapped` to a text that nothing refuses.
use Rattle.std.proofs.Common.{◌≡◌, ◌⊎◌, ℕ, Bool, true, false, if◌then◌else◌, nat_lt, List, length, Option, None, Some, inl, inr, refl, sym, ap, subst, ◌∙◌}
use Rattle.std.specs.Option.{unwrap_or}
use Rattle.tsc_text.specs.Bytes.{bad_line}
use Rattle.tsc_text.specs.Lines.{lines_of}
use Rattle.tsc_text.specs.TextLine.{TextLine}
use Rattle.fault_secure.specs.CodePlan.{CodePlan}
use Rattle.tsc_net.specs.NetlistOf.{NetlistOf, IsBuilt, named_of}
use Rattle.blif_read.specs.Denotes.{plan_text, plan_at, refusal, refusal_of_plan}
use Rattle.blif_read.specs.PlanText.{plan_with}
use Rattle.blif_read.specs.Refusal.{netlist_refusal}
use Rattle.blif_read.specs.declared.kinds.Kind.TheVariants.{AnyPlan, Netlist, Unplanned}
use Rattle.mapping_laws.specs.Mapping.{moved_plan}
use Rattle.mapping_reading.specs.Pins.{at_of}
use Rattle.mapping_reading.specs.NamedMapping.{moved_by_name}
use Rattle.mapping_audit.specs.declared.reason.MappedReason.{MappedReason}
use Rattle.mapping_audit.specs.declared.reason.MappedReason.TheVariants.{Inputs, Latches, Outputs, Net, NoBlock, NoPin, NoCover}
use Rattle.mapping_audit.specs.declared.answer.MappedAnswer.{MappedAnswer}
use Rattle.mapping_audit.specs.declared.answer.MappedAnswer.TheVariants.{Yes, No, Wide}
use Rattle.mapping_audit.proofs.Determined.{one_answer}
use Rattle.refusals.specs.declared.ending.Ending.{Ending}
use Rattle.refusals.specs.declared.ending.Ending.TheVariants.{Finished, Rejected}
use Rattle.refusals.specs.declared.text_refusal.TextRefusal.TheVariants.{NoNetlist}
use Rattle.text_sections.specs.Denoted.{first_lines, first_section, lines_from, netlist_in, no_plan, plan_in}
use Rattle.text_sections.specs.Refused.{behind_refusal, byte_refusal, first_refusal, last_refusal}
use Rattle.text_sections.proofs.SectionLemmas.{first_allowed, none_first, none_later, section_allowed}
use Rattle.mapping_answers.specs.MappedClocks.{text_has_other_clock}
use Rattle.mapping_answers.specs.MappedReply.{HasWideCover, IsClockReason, IsClockedAnswer, IsReplyOn, IsYes}
use Rattle.mapping_answers.specs.MappedSections.{mapped_in, mapped_lines_refusal, mapped_refusal}
use Rattle.mapping_answers.specs.MappedText.{no_text}
use Rattle.mapped_laws.specs.MappedLaws.{ArePutInto}
use Rattle.mapped_laws.specs.MappedReplies.{MappedRepliesAreDetermined, MappedTextsAreSecure, mapped_plan, mapped_section}
use Rattle.mapped_laws.proofs.BuiltNetlists.{section_is_built}
use Rattle.mapped_laws.proofs.PlanMoved.{IsAllowed, is_allowed}
use Rattle.mapped_laws.proofs.PlanWords.{both_allowed, put_plan_lines_move}
use Rattle.mapped_laws.proofs.MappedPlans.{put_plan_lines_are_secure}

-- ---- the netlists of a text that nothing refuses

-- nothing refuses what stands behind the first section as the last one
behind_allowed : (lines : List TextLine) (from : ℕ) → behind_refusal Unplanned lines from ≡ None → last_refusal Unplanned lines from ≡ None
behind_allowed lines from e = by (nat_lt from (length lines)) e
  where
    by : (b : Bool) → (if b then last_refusal Unplanned lines from else Some NoNetlist) ≡ None → last_refusal Unplanned lines from ≡ None
    by true e = e
    by false e = cc

module _ (text : List ℕ) (allowed : mapped_refusal text ≡ None) where
  abbrev lines : List TextLine
  lines = lines_of text

  lines_allowed : mapped_lines_refusal lines ≡ None
  lines_allowed = none_later (byte_refusal (bad_line text)) (mapped_lines_refusal lines) allowed

  -- nothing refuses the first netlist of a text that `audit mapped` doesn't refuse
  pub first_is_allowed : refusal AnyPlan (first_lines lines) ≡ None
  first_is_allowed = first_allowed AnyPlan lines 0
      (none_first (first_refusal AnyPlan lines) (behind_refusal Unplanned lines (first_section lines).next) lines_allowed)

  second_is_allowed : refusal Unplanned (lines_from lines (first_section lines).next) ≡ None
  second_is_allowed = section_allowed Unplanned lines (first_section lines).next
      (behind_allowed lines (first_section lines).next
      (none_later (first_refusal AnyPlan lines) (behind_refusal Unplanned lines (first_section lines).next) lines_allowed))

  pub plain_is_built : IsBuilt (netlist_in text)
  plain_is_built = section_is_built AnyPlan (first_lines lines) first_is_allowed

  pub mapped_is_built : IsBuilt (mapped_in text)
  mapped_is_built = section_is_built Unplanned (lines_from lines (first_section lines).next) second_is_allowed

-- ---- one answer

-- the reason of a no
abbrev reason_in : MappedAnswer → MappedReason
reason_in Yes = Inputs
reason_in (No reason) = reason
reason_in (Wide node) = Inputs

yes_or_no : (reason : MappedReason) → Yes ≡ No reason → ⊥
yes_or_no reason e = cc

yes_or_wide : (node : ℕ) → Yes ≡ Wide node → ⊥
yes_or_wide node e = cc

no_or_wide : (reason : MappedReason) (node : ℕ) → No reason ≡ Wide node → ⊥
no_or_wide reason node e = cc

-- a reason where some latch has another clock: the inputs differ, or the latches do
abbrev OneOfTwo : NetlistOf → NetlistOf → MappedReason → Type 0
OneOfTwo N G reason =
    ((reason ≡ Inputs) × ((named_of N).inputs ≡ (named_of G).inputs → ⊥)) ⊎ ((reason ≡ Latches) × ((named_of N).inputs ≡ (named_of G).inputs))

one_of_two : (N G : NetlistOf) (reason : MappedReason) → IsClockReason N G reason → OneOfTwo N G reason
one_of_two N G Inputs is = inl (refl, is)
one_of_two N G Latches is = inr (refl, is)
one_of_two N G Outputs is = absurd is
one_of_two N G (Net node) is = absurd is
one_of_two N G (NoBlock gate) is = absurd is
one_of_two N G (NoPin gate pin) is = absurd is
one_of_two N G (NoCover node value width) is = absurd is

one_reason : (N G : NetlistOf) (a b : MappedReason) → OneOfTwo N G a → OneOfTwo N G b → a ≡ b
one_reason N G a b (inl one) (inl other) = one.0 ∙ sym other.0
one_reason N G a b (inl one) (inr other) = absurd (one.1 other.1)
one_reason N G a b (inr one) (inl other) = absurd (other.1 one.1)
one_reason N G a b (inr one) (inr other) = one.0 ∙ sym other.0

module _ (N G : NetlistOf) (first : IsBuilt N) (second : IsBuilt G) where
  abbrev Replies : Ending → Ending → List ℕ → List ℕ → Type 0
  Replies ending another answer other = (ending ≡ another) × (answer ≡ other)

  one_clocked : (clocks : Bool) (a b : MappedAnswer) → IsClockedAnswer clocks N G a → IsClockedAnswer clocks N G b → a ≡ b
  one_clocked false a b is also = one_answer N G a b first second is also
  one_clocked true Yes b is also = absurd is
  one_clocked true (Wide node) b is also = absurd is
  one_clocked true (No reason) Yes is also = absurd also
  one_clocked true (No reason) (Wide node) is also = absurd also
  one_clocked true (No reason) (No other) is also =
      ap (λ r. No r) (one_reason N G reason other (one_of_two N G reason is) (one_of_two N G other also))

  -- a yes is the answer Yes
  yes_clocked : (clocks : Bool) (answer : List ℕ) → IsYes clocks N G answer → IsClockedAnswer clocks N G Yes
  yes_clocked clocks answer accepted =
      let P : Bool → Type 0 = λ c. IsClockedAnswer c N G Yes in subst P (sym accepted.clocks) (accepted.mapping.names, accepted.mapping.reads)

  one_reply : (clocks : Bool) (ending another : Ending) (answer other : List ℕ) → IsReplyOn clocks ending N G answer → IsReplyOn clocks another N G other
      → Replies ending another answer other
  one_reply clocks Finished Finished answer other accepted also = (refl, accepted.written ∙ sym also.written)
  one_reply clocks Finished Rejected answer other accepted rejected =
      absurd (yes_or_no rejected.reason (one_clocked clocks Yes (No rejected.reason) (yes_clocked clocks answer accepted) rejected.first))
  one_reply clocks Rejected Finished answer other rejected accepted =
      absurd (yes_or_no rejected.reason (one_clocked clocks Yes (No rejected.reason) (yes_clocked clocks other accepted) rejected.first))
  one_reply clocks Rejected Rejected answer other rejected also =
      let e : No rejected.reason ≡ No also.reason = one_clocked clocks (No rejected.reason) (No also.reason) rejected.first also.first in
      (refl, rejected.written ∙ ap (λ a. no_text N G (reason_in a)) e ∙ sym also.written)

  no_limit : (clocks : Bool) (ending : Ending) (answer : List ℕ) → IsReplyOn clocks ending N G answer → HasWideCover clocks N G → ⊥
  no_limit clocks Finished answer accepted wide =
      yes_or_wide wide.0 (one_clocked clocks Yes (Wide wide.0) (yes_clocked clocks answer accepted) wide.1)
  no_limit clocks Rejected answer rejected wide =
      no_or_wide rejected.reason wide.0 (one_clocked clocks (No rejected.reason) (Wide wide.0) rejected.first wide.1)

-- a text that `audit mapped` doesn't refuse has at most one reply, and none where a cover is too wide
pub mapped_replies_are_determined : MappedRepliesAreDetermined
mapped_replies_are_determined text allowed =
    let N = netlist_in text in
    let G = mapped_in text in
    let first = plain_is_built text allowed in
    let second = mapped_is_built text allowed in
    record {
      one = one_reply N G first second (text_has_other_clock text);
      no_limit = no_limit N G first second (text_has_other_clock text);
    }

-- ---- plan lines of the text

-- what is told where there is no plan isn't told of one that is there
told : (o : Option CodePlan) (P : CodePlan) → o ≡ Some P → o ≡ Some (unwrap_or o no_plan)
told o P e = e ∙ ap (λ Q. Some Q) (sym (ap (λ o. unwrap_or o no_plan) e))

pub mapped_texts_are_secure : MappedTextsAreSecure
mapped_texts_are_secure M text allowed none is words secure =
    let N = netlist_in text in
    let G = mapped_in text in
    let section = first_lines (lines_of text) in
    let second = mapped_section text in
    let put : ArePutInto Unplanned section second = record { allowed = none; readable = second_is_allowed text allowed; words = words; names = is.names } in
    let plan : IsAllowed section N = is_allowed section N (both_allowed (netlist_refusal Netlist section) (refusal_of_plan Netlist section) none).1 in
    let planned : plan_text Netlist section N ≡ Some (plan_in text) =
    told (plan_text Netlist section N) (plan_with plan.head section N) (ap (λ o. plan_at o section N) plan.is) in
    let stated : plan_text Netlist second G ≡ Some (mapped_plan text) =
    told (plan_text Netlist second G) (moved_plan (at_of G.circuit (moved_by_name N G)) (plan_in text))
    (put_plan_lines_move Unplanned section second (plan_in text) put planned) in
    put_plan_lines_are_secure M Unplanned section second (plan_in text) (mapped_plan text) put is.reads planned stated secure
