-- What a synthesis answers, twice in a row, is a mapping of itself.
use Rattle.std.proofs.Common.{◌≡◌, ℕ, ◌<◌, ◌≤◌, Bool, true, false, if◌then◌else◌, nat_lt, List, [], ◌∷◌, ◌++◌, length, map, Option, None, Some, refl, sym, ap, subst, ◌∙◌, arith}
use Rattle.std.specs.List.{flat_map, position_or_len}
use Rattle.tsc_text.specs.Bytes.{bad_line}
use Rattle.tsc_text.specs.Joined.{moved}
use Rattle.tsc_text.specs.Lines.{lines_of, physical_lines}
use Rattle.tsc_text.specs.Section.{is_end_line, section_of}
use Rattle.tsc_text.specs.TextLine.{TextLine}
use Rattle.tsc_text.specs.Written.{WrittenLine}
use Rattle.tsc_text.specs.declared.section.End.TheVariants.{Blif as BlifEnd}
use Rattle.fault_secure.specs.CodePlan.{CodePlan}
use Rattle.fault_secure.specs.SoundStructure.{HasSoundStructure}
use Rattle.tsc_net.specs.NetlistOf.{NetlistOf, IsBuilt, named_of, netlist_of}
use Rattle.tsc_net.specs.Order.{fan_ins}
use Rattle.tsc_net.proofs.AcyclicLemmas.{whole_is_order}
use Rattle.blif_read.specs.Denotes.{refusal}
use Rattle.blif_read.specs.NamedText.{named_text}
use Rattle.blif_read.specs.declared.kinds.Kind.TheVariants.{AnyPlan, Netlist, Unplanned}
use Rattle.blif_write.specs.IsReadAs.{IsReadAs, all_lines}
use Rattle.blif_write.specs.Layout.{inputs_line, latch_line, model_line, netlist_text, node_lines, outputs_line, plan_lines}
use Rattle.blif_write.specs.NamedPlan.{named_plan}
use Rattle.blif_write.proofs.ReadLaw.{is-read-as}
use Rattle.blif_write.proofs.ReadWritable.{read-writable}
use Rattle.blif_write.proofs.WholeOrder.{whole-acyclic}
use Rattle.mapping_reading.proofs.NamesMoved.{names_stay_secure}
use Rattle.commands.specs.declared.command.Command.TheVariants.{AuditMapped}
use Rattle.refusals.specs.declared.ending.Ending.TheVariants.{Finished, Rejected}
use Rattle.refusals.specs.declared.text_refusal.TextRefusal.TheVariants.{NoNetlist}
use Rattle.text_sections.specs.Denoted.{first_lines, first_net, first_section, lines_from, net_from, netlist_in, plan_in}
use Rattle.text_sections.specs.Refused.{behind_refusal, byte_refusal, last_refusal, left_behind, left_over, lines_refusal, refusal_from, section_refusal, text_refusal}
use Rattle.text_sections.proofs.AnyPlans.{any_first}
use Rattle.text_sections.proofs.LimitLemmas.{few_latches}
use Rattle.text_sections.proofs.SectionLemmas.{allowed_both, none_first, none_later, section_allowed}
use Rattle.text_sections.proofs.StateLemmas.{behind_listed}
use Rattle.mapping_answers.specs.MappedClocks.{has_other_clock, lines_have_other_clock, text_has_other_clock}
use Rattle.mapping_answers.specs.MappedReply.{IsMappingOf, IsYes}
use Rattle.mapping_answers.specs.MappedSections.{mapped_in, mapped_net, mapped_refusal}
use Rattle.mapping_answers.specs.MappedText.{yes_text}
use Rattle.mapping_answers.proofs.MappedLemmas.{allowed_behind, allowed_lines, is_mapping}
use Rattle.answers.specs.Commands.{IsAnswer, IsNo, PassesLimit}
use Rattle.mapped_laws.specs.MappedReplies.{HasOneReply}
use Rattle.mapped_laws.proofs.BuiltNetlists.{section_is_built}
use Rattle.mapped_laws.proofs.OneReply.{mapped_replies_are_determined}
use Rattle.mapped_laws.proofs.OwnAnswer.{netlists_are_mapped_to_themselves}
use Rattle.mapped_laws.proofs.PassedOver.{plan_lines_may_be_passed_over}
use Rattle.answer_laws.proofs.BehindSource.{allowed_in_a_row, lines_in_a_row, lines_kept, netlist_allowed, next_kept, second_lines, second_net}
use Rattle.own_mapping_laws.specs.OwnMappings.{AnswersAreTheirOwnMappings, IsItsOwnMapping, LooseAnswersAreTheirOwnMappings, MachineAnswersAreTheirOwnMappings}
use Rattle.own_mapping_laws.proofs.OwnClocks.{clocks_moved, own_clocks}
use Rattle.own_mapping_laws.proofs.WholeText.{body_complete, body_fed, end_within, ended_body}

-- ---- parts

bytes_allowed : (bad : Option ℕ) → byte_refusal bad ≡ None → bad ≡ None
bytes_allowed None none = refl
bytes_allowed (Some line) none = cc

-- a last section that nothing refuses as a netlist with its plan is refused by nothing where its plan lines are passed over
passed_over : (lines : List TextLine) (from : ℕ) → behind_refusal Netlist lines from ≡ None → behind_refusal Unplanned lines from ≡ None
passed_over lines from e = by (nat_lt from (length lines)) e
  where
    by : (b : Bool) → (if b then last_refusal Netlist lines from else Some NoNetlist) ≡ None
        → (if b then last_refusal Unplanned lines from else Some NoNetlist) ≡ None
    by false none = cc
    by true none =
        allowed_both (refusal_from Unplanned lines from) (left_behind lines from)
        (ap (section_refusal Unplanned) (plan_lines_may_be_passed_over (lines_from lines from) (section_allowed Netlist lines from none)))
        (none_later (refusal_from Netlist lines from) (left_behind lines from) none)

-- the section of lines with an end line ends before the last
ended_before : (lines : List TextLine) → position_or_len (is_end_line BlifEnd) lines < length lines → (section_of lines 0 BlifEnd).past < length lines
ended_before lines there = omega (arith, there)

-- a yes is no no
finished_or_rejected : Finished ≡ Rejected → ⊥
finished_or_rejected e = cc

-- a built netlist is a mapping of itself
own_mapping : (N : NetlistOf) → IsBuilt N → IsMappingOf N N
own_mapping N built =
    is_mapping N N (netlists_are_mapped_to_themselves N built)
    (λ e read. names_stay_secure N N _ built.closed (whole_is_order (fan_ins N.circuit) (whole-acyclic N.circuit built.closed built.acyclic)) read.reads)
    built.acyclic

-- ---- a text that is exactly that of its netlist with its plan
module _ (answer : List ℕ) (readable : text_refusal Netlist answer ≡ None) (written : answer ≡ netlist_text (netlist_in answer) (plan_in answer))
    (structure : HasSoundStructure (netlist_in answer).circuit (plan_in answer)) where
  abbrev N : NetlistOf
  N = netlist_in answer

  abbrev P : CodePlan
  P = plan_in answer

  abbrev lines : List TextLine
  lines = lines_of answer

  -- it has no line with a bad byte
  pub bytes : bad_line answer ≡ None
  bytes = bytes_allowed (bad_line answer) (none_first (byte_refusal (bad_line answer)) (lines_refusal Netlist lines) readable)

  all_allowed : lines_refusal Netlist lines ≡ None
  all_allowed = none_later (byte_refusal (bad_line answer)) (lines_refusal Netlist lines) readable

  -- nothing refuses its first section as a netlist with its plan
  pub section : refusal Netlist (first_lines lines) ≡ None
  section = section_allowed Netlist lines 0 all_allowed

  built : IsBuilt N
  built = section_is_built Netlist (first_lines lines) section

  -- ---- its lines

  pub read : IsReadAs (netlist_text N P) N P
  read = is-read-as N P built structure.well_made structure.plan_of
      (read-writable answer lines (first_section lines) Netlist N (few_latches Netlist (first_lines lines) N refl section) bytes refl section refl)

  pub laid : lines ≡ all_lines N P
  laid = ap lines_of written ∙ read.lines

  -- its first section takes all its lines
  pub whole : length lines ≤ (first_section lines).next
  whole =
      let IsWhole : List TextLine → Type 0 = λ ls. length ls ≤ (first_section ls).next in
      let there : IsWhole (all_lines N P) = omega (arith, read.ends) in
      subst IsWhole (sym laid) there

  -- the lines behind the first one
  abbrev later_lines : List WrittenLine
  later_lines = (((inputs_line (named_of N).inputs ∷ outputs_line (named_of N).outputs ∷ []) ++ plan_lines (named_plan N P)) ++ map latch_line (named_of N).latches)
      ++ flat_map node_lines (named_of N).nodes

  abbrev first_line : WrittenLine
  first_line = model_line (named_of N).model

  -- its first section has an end line
  pub ended : (section_of lines 0 BlifEnd).past < length lines
  ended =
      let IsEnded : List TextLine → Type 0 = λ ls. (section_of ls 0 BlifEnd).past < length ls in
      let there : IsEnded (all_lines N P) = ended_before (all_lines N P) (end_within 1 (first_line ∷ later_lines)) in
      subst IsEnded (sym laid) there

  -- ---- another text behind it

  -- how many numbers further on the lines of a text after it begin
  abbrev pub more : ℕ
  more = length (physical_lines (ended_body first_line later_lines))

  -- the lines of it and of another text are its own, and those of the other one by later numbers
  pub behind_it : (rest : List ℕ) → lines_of (answer ++ rest) ≡ lines ++ moved more (lines_of rest)
  behind_it rest = lines_in_a_row (ended_body first_line later_lines) answer rest (written ∙ body_fed first_line later_lines) (body_complete first_line later_lines)

  -- ---- twice in a row

  abbrev joined : List TextLine
  joined = lines ++ moved more lines

  joined_lines : lines_of (answer ++ answer) ≡ joined
  joined_lines = behind_it answer

  next : (first_section joined).next ≡ length lines
  next = next_kept BlifEnd lines (moved more lines) ended whole

  kept : first_lines joined ≡ first_lines lines
  kept = lines_kept BlifEnd lines (moved more lines) ended

  allowed : mapped_refusal (answer ++ answer) ≡ None
  allowed =
      allowed_lines (answer ++ answer) joined (sym joined_lines) (allowed_in_a_row answer answer bytes bytes)
      (allowed_behind joined (length lines) (sym next)
      (ap (λ ls. section_refusal AnyPlan (refusal AnyPlan ls)) kept ∙ any_first lines (none_first (refusal_from Netlist lines 0) (left_over lines) all_allowed))
      (passed_over joined (length lines) (behind_listed joined (length lines) (netlist_allowed more lines lines all_allowed))))

  -- both netlists are the answer's
  same_first : netlist_in (answer ++ answer) ≡ N
  same_first = ap first_net joined_lines ∙ ap (λ ls. netlist_of (named_text ls)) kept

  same_second : mapped_in (answer ++ answer) ≡ N
  same_second = ap mapped_net joined_lines ∙ (ap (net_from joined) next ∙ second_net more lines lines)

  -- and so are the clocks of both
  same_clocks : text_has_other_clock (answer ++ answer) ≡ false
  same_clocks =
      ap lines_have_other_clock joined_lines
      ∙ (ap (λ ls. has_other_clock ls (lines_from joined (first_section joined).next)) kept
      ∙ (ap (λ n. has_other_clock (first_lines lines) (lines_from joined n)) next
      ∙ (ap (has_other_clock (first_lines lines)) (second_lines more lines lines)
      ∙ (clocks_moved more (first_lines lines) (first_lines lines) ∙ own_clocks (first_lines lines)))))

  yes : IsAnswer AuditMapped (answer ++ answer) yes_text
  yes =
      let A : NetlistOf → Type 0 = λ n. IsYes false n (mapped_in (answer ++ answer)) yes_text in
      let B : NetlistOf → Type 0 = λ g. IsYes false N g yes_text in
      let C : Bool → Type 0 = λ c. IsYes c (netlist_in (answer ++ answer)) (mapped_in (answer ++ answer)) yes_text in
      let made : IsYes false N N yes_text = record { clocks = refl; mapping = own_mapping N built; written = refl } in
      subst C (sym same_clocks) (subst A (sym same_first) (subst B (sym same_second) made))

  one : HasOneReply (answer ++ answer)
  one = mapped_replies_are_determined (answer ++ answer) allowed

  never_no : (reply : List ℕ) → IsNo AuditMapped (answer ++ answer) reply → ⊥
  never_no reply rejected = finished_or_rejected (one.one Finished Rejected yes_text reply yes rejected).0

  no_limit : PassesLimit AuditMapped (answer ++ answer) → ⊥
  no_limit wide = one.no_limit Finished yes_text yes wide

  own : IsItsOwnMapping answer
  own = record { allowed = allowed; yes = yes; never_no = never_no; no_limit = no_limit }

pub answers_are_their_own_mappings : AnswersAreTheirOwnMappings
answers_are_their_own_mappings way text answer made = own answer made.readable made.written made.secure.checking.structure

pub machine_answers_are_their_own_mappings : MachineAnswersAreTheirOwnMappings
machine_answers_are_their_own_mappings code text answer made = own answer made.readable made.written made.secure.checking.structure

pub loose_answers_are_their_own_mappings : LooseAnswersAreTheirOwnMappings
loose_answers_are_their_own_mappings way text answer made = own answer made.readable made.written made.secure.checking.structure
