-- A text of netlists that are joined: what is refused of it, and the answer.
use Rattle.std.proofs.Common.{◌≡◌, ℕ, ◌<◌, ◌≤◌, List, [], ◌∷◌, All, length, None, Result, Ok, Err, IfOk, OnOk, refl, sym, ap, subst, ◌∙◌, arith}
use Rattle.std.proofs.lemmas.List.{length-map}
use Rattle.std.proofs.lemmas.List.Elements.{All-head, All-tail}
use Rattle.tsc_text.specs.Bytes.{bad_line}
use Rattle.tsc_text.specs.Lines.{lines_of}
use Rattle.tsc_text.specs.Section.{section_lines}
use Rattle.tsc_text.specs.TextLine.{TextLine}
use Rattle.tsc_text.specs.declared.section.Section.{Section}
use Rattle.tsc_net.specs.NetlistOf.{NetlistOf, netlist_of}
use Rattle.blif_read.specs.Clocks.{clock_text}
use Rattle.blif_read.specs.Denotes.{refusal}
use Rattle.blif_read.specs.NamedText.{named_text}
use Rattle.blif_read.specs.declared.kinds.Kind.{Kind}
use Rattle.blif_read.specs.declared.kinds.Kind.TheVariants.{AnyPlan}
use Rattle.blif_write.specs.Told.{IsTellable, IsToldClock}
use Rattle.module_join.specs.JointNet.{PlannedOf, joint_clock}
use Rattle.module_join.specs.JoinLaws.{ArePlanned, ReadPlanShows}
use Rattle.module_join.specs.JoinParts.{parts_as, planned_as}
use Rattle.module_join.specs.declared.part.Part.{Part}
use Rattle.joint_text.specs.JointText.{joint_bytes}
use Rattle.joint_text.specs.JointTextLaws.{AreTellable, JointTextTells, JointTextIsCellSecure, JointTextIsFaultSecure, JointTextIsSecureForSources, JointTextIsFaultSecureForSources}
use Rattle.refusals.specs.declared.refusal.Refusal.{Refusal}
use Rattle.text_sections.specs.Refused.{IsRefusedBy, byte_refusal, first_of}
use Rattle.text_sections.proofs.LimitLemmas.{few_nets}
use Rattle.text_sections.proofs.SectionLemmas.{allowed_both, refused_later}
use Rattle.part_reading.specs.PartClocks.{AreClockedBy}
use Rattle.part_reading.specs.PartRefusal.{parts_refusal}
use Rattle.part_reading.specs.Parts.{IsPartOf, parts_of}
use Rattle.joint_answers.specs.JointParts.{join_lines_refusal, join_refusal, joint_refusal, parts_in}
use Rattle.joint_answers.specs.JointReply.{IsJointReply}

-- ---- what is refused

-- a text whose bytes are allowed, for its lines
pub refused_lines : (text : List ℕ) (lines : List TextLine) (given : Refusal) → lines ≡ lines_of text → bad_line text ≡ None
    → IsRefusedBy (join_lines_refusal lines) given → IsRefusedBy (join_refusal text) given
refused_lines text lines given are sound refused =
    let P : List TextLine → Type 0 = λ l. IsRefusedBy (first_of (byte_refusal (bad_line text)) (join_lines_refusal l)) given in
    subst P are (refused_later (byte_refusal (bad_line text)) (join_lines_refusal lines) given (ap byte_refusal sound) refused)

pub allowed_lines : (text : List ℕ) (lines : List TextLine) → lines ≡ lines_of text → bad_line text ≡ None
    → join_lines_refusal lines ≡ None → join_refusal text ≡ None
allowed_lines text lines are sound allowed =
    let P : List TextLine → Type 0 = λ l. first_of (byte_refusal (bad_line text)) (join_lines_refusal l) ≡ None in
    subst P are (allowed_both (byte_refusal (bad_line text)) (join_lines_refusal lines) (ap byte_refusal sound) allowed)

-- lines whose netlists are allowed, for the limits of their joint
module _ (lines : List TextLine) (parts : List Part) (are : parts ≡ parts_of lines) (none : parts_refusal lines ≡ None) where
  pub refused_joint : (given : Refusal) → IsRefusedBy (joint_refusal (parts_as parts)) given → IsRefusedBy (join_lines_refusal lines) given
  refused_joint given refused =
      let P : List Part → Type 0 = λ p. IsRefusedBy (joint_refusal (parts_as p)) given in
      refused_later (parts_refusal lines) (joint_refusal (parts_as (parts_of lines))) given none (subst P are refused)

  pub allowed_joint : joint_refusal (parts_as parts) ≡ None → join_lines_refusal lines ≡ None
  allowed_joint allowed =
      let P : List Part → Type 0 = λ p. joint_refusal (parts_as p) ≡ None in
      allowed_both (parts_refusal lines) (joint_refusal (parts_as (parts_of lines))) none (subst P are allowed)

-- ---- the parts

-- each was built, and has a plan that shows it
pub are_planned : ReadPlanShows → (lines : List TextLine) (parts : List Part) → All (IsPartOf lines) parts → ArePlanned (parts_as parts)
are_planned shows lines [] are = tt
are_planned shows lines (part ∷ parts) are =
    let is = All-head (IsPartOf lines) part parts are in (
      record { built = is.built; plan = shows AnyPlan (section_lines lines is.section) part.net part.plan is.plan },
      are_planned shows lines parts (All-tail (IsPartOf lines) part parts are),
    )

-- what is read a text can tell
abbrev ReadIsTellable : Type 0
ReadIsTellable = (text : List ℕ) (lines : List TextLine) (section : Section) (kind : Kind) (net : NetlistOf) → bad_line text ≡ None
    → lines ≡ lines_of text → refusal kind (section_lines lines section) ≡ None → net ≡ netlist_of (named_text (section_lines lines section))
    → IsTellable net × IsToldClock (clock_text kind (section_lines lines section))

-- so it can tell each part
are_tellable : ReadIsTellable → (text : List ℕ) (lines : List TextLine) (parts : List Part) → lines ≡ lines_of text → bad_line text ≡ None
    → All (IsPartOf lines) parts → AreTellable (parts_as parts)
are_tellable can text lines [] from sound are = tt
are_tellable can text lines (part ∷ parts) from sound are =
    let is = All-head (IsPartOf lines) part parts are in
    let told = can text lines is.section AnyPlan part.net sound from is.allowed is.denoted in (
      record {
        net = told.0;
        few = few_nets AnyPlan (section_lines lines is.section) part.net is.denoted is.allowed;
        clock = subst IsToldClock (sym is.clocked) told.1;
      },
      are_tellable can text lines parts from sound (All-tail (IsPartOf lines) part parts are),
    )

-- ---- the answer

-- what is known of texts that are read and of texts of joints
pub record AreTold : Type 0 where
  pub can : ReadIsTellable
  pub shows : ReadPlanShows
  pub tells : JointTextTells
  pub cells : JointTextIsCellSecure
  pub secure : JointTextIsFaultSecure
  pub cells_for_sources : JointTextIsSecureForSources
  pub secure_for_sources : JointTextIsFaultSecureForSources

-- the parts are of these lines, some and few, and have one clock
record AreParts (lines : List TextLine) : Type 0 where
  planned : All (IsPartOf lines) (parts_of lines)
  some : 0 < length (parts_of lines)
  few : length (parts_of lines) ≤ 64
  clocked : AreClockedBy (joint_clock (parts_as (parts_of lines))) (parts_as (parts_of lines))

module _ (known : AreTold) (text : List ℕ) (lines : List TextLine) (are : lines ≡ lines_of text) (sound : bad_line text ≡ None) where
  replied : AreParts lines → IsJointReply text (joint_bytes (parts_in text))
  replied given =
      let is = subst AreParts are given in
      let parts = parts_of (lines_of text) in
      let count = length-map parts planned_as in
      let above : 0 < length (parts_in text) = (let s = is.some in omega (arith, s, count)) in
      let below : length (parts_in text) ≤ 64 = (let f = is.few in omega (arith, f, count)) in
      let built = are_planned known.shows (lines_of text) parts is.planned in
      let tellable = are_tellable known.can text (lines_of text) parts refl sound is.planned in
      record {
        written = refl;
        planned_parts = built;
        clocked = is.clocked;
        told = known.tells (parts_in text) above below built tellable;
        cells = λ M each_secure. known.cells M (parts_in text) above below built tellable each_secure;
        secure = λ M each_secure. known.secure M (parts_in text) above below built tellable each_secure;
        cells_for_sources = λ source each_secure. known.cells_for_sources source (parts_in text) above below built tellable each_secure;
        secure_for_sources = λ source each_secure. known.secure_for_sources source (parts_in text) above below built tellable each_secure;
      }

  -- where there is a joint
  pub answered : (r : Result (List PlannedOf) Refusal) → OnOk r (All (IsPartOf lines) (parts_of lines)) → OnOk r (0 < length (parts_of lines))
      → OnOk r (length (parts_of lines) ≤ 64) → OnOk r (AreClockedBy (joint_clock (parts_as (parts_of lines))) (parts_as (parts_of lines)))
      → IfOk r (λ joint. joint ≡ parts_as (parts_of lines)) → IfOk r (λ joint. IsJointReply text (joint_bytes joint))
  answered (Err given) planned some few clocked is = tt
  answered (Ok joint) planned some few clocked is =
      let P : List PlannedOf → Type 0 = λ parts. IsJointReply text (joint_bytes parts) in
      subst P (sym (is ∙ ap (λ l. parts_as (parts_of l)) are))
      (replied (record { planned = planned; some = some; few = few; clocked = clocked }))
