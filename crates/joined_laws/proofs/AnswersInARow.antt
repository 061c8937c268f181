-- Netlists that were written, one after another in one text: its sections denote them, and nothing of them is refused.
use Rattle.std.proofs.Common.{◌≡◌, ℕ, ◌<◌, ◌≤◌, Bool, true, false, List, [], ◌∷◌, ◌++◌, drop, length, map, Option, None, refl, sym, subst, ap, ap₂, ◌∙◌, arith, length-append}
use Rattle.std.specs.List.{concat}
use Rattle.std.specs.Option.{unwrap_or}
use Rattle.std.proofs.Math.Seq.{drop-append_seam}
use Rattle.tsc_text.specs.Bytes.{bad_line}
use Rattle.tsc_text.specs.Joined.{moved, moved_line}
use Rattle.tsc_text.specs.Lines.{lines_of}
use Rattle.tsc_text.specs.Section.{is_end_line, section_of}
use Rattle.tsc_text.specs.TextLine.{TextLine}
use Rattle.tsc_text.specs.declared.section.End.TheVariants.{Blif as BlifEnd}
use Rattle.fault_secure.specs.CodePlan.{CodePlan}
use Rattle.fault_secure.specs.SoundStructure.{HasSoundStructure}
use Rattle.tsc_net.specs.NetlistOf.{NetlistOf, named_of, netlist_of}
use Rattle.blif_read.specs.Clocks.{clock_text}
use Rattle.blif_read.specs.Denotes.{plan_text, refusal}
use Rattle.blif_read.specs.NamedText.{named_text}
use Rattle.blif_read.specs.declared.clocks.Clock.{Clock}
use Rattle.blif_read.specs.declared.kinds.Kind.TheVariants.{AnyPlan, Netlist}
use Rattle.blif_write.specs.IsReadAs.{lines_before_end}
use Rattle.blif_write.specs.Layout.{netlist_text, plan_lines}
use Rattle.blif_write.specs.NamedPlan.{named_plan}
use Rattle.module_join.specs.JointNet.{clock_or}
use Rattle.module_join.specs.declared.part.Part.{Part}
use Rattle.text_sections.specs.Denoted.{first_lines, first_section, netlist_in, no_plan, plan_in}
use Rattle.text_sections.specs.Refused.{section_refusal, text_refusal}
use Rattle.text_sections.proofs.AnyPlans.{any_plan_is, netlists_are_any}
use Rattle.text_sections.proofs.SectionLemmas.{allowed_both}
use Rattle.part_reading.specs.PartRefusal.{part_refusal, sections_refusal}
use Rattle.part_reading.specs.Parts.{planned_of, sections_behind, sections_of, with_line}
use Rattle.part_reading.proofs.PartLemmas.{next_section}
use Rattle.part_reading.proofs.PartMade.{part_allowed}
use Rattle.answer_laws.proofs.BehindSource.{allowed_in_a_row, lines_kept, next_kept}
use Rattle.answer_laws.proofs.Renumbered.{named_moved, plan_moved, refusal_moved}
use Rattle.own_mapping_laws.proofs.OwnMapping as own
use Rattle.joined_laws.proofs.Clockless.{AreClockless, clock_moved, clockless_moved, no_clock_line, plan-marked, written_clockless}

-- ---- sections whose plan lists their states, and whose latches have no clock

-- nothing refuses a section as a netlist whose plan lists its states, and none of its latches has a clock
pub record IsListed (section : List TextLine) : Type 0 where
  pub allowed : refusal Netlist section ≡ None
  pub clockless : AreClockless section

abbrev pub AreListed : List (List TextLine) → Type 0
AreListed [] = Unit {0}
AreListed (section ∷ sections) = IsListed section × AreListed sections

-- nothing refuses them as parts, whatever clock was seen
pub all_allowed : (seen : Option Clock) (sections : List (List TextLine)) → AreListed sections → sections_refusal seen sections ≡ None
all_allowed seen [] are = refl
all_allowed seen (section ∷ sections) are =
    let any : section_refusal AnyPlan (refusal AnyPlan section) ≡ None = ap (section_refusal AnyPlan) (netlists_are_any section are.0.allowed) in
    allowed_both (part_refusal seen section) (sections_refusal (clock_or seen (clock_text AnyPlan section)) sections)
    (part_allowed seen section any (no_clock_line seen section are.0.clockless)) (all_allowed (clock_or seen (clock_text AnyPlan section)) sections are.1)

-- ---- sections of lines that are numbered higher

-- a netlist with what is read of its plan, and its clock
abbrev part_with : NetlistOf → Option CodePlan → Option Clock → Part
part_with net plan clock = record { net = net; plan = unwrap_or plan no_plan; clock = clock }

module _ (more : ℕ) where
  with_line_moved : (b : Bool) (line : TextLine) (sections : List (List TextLine))
      → with_line b (moved_line more line) (map (moved more) sections) ≡ map (moved more) (with_line b line sections)
  with_line_moved true line sections = refl
  with_line_moved false line [] = refl
  with_line_moved false line (section ∷ sections) = refl

  sections_moved : (lines : List TextLine) → sections_behind (moved more lines) ≡ map (moved more) (sections_behind lines)
  sections_moved [] = refl
  sections_moved (line ∷ lines) =
      ap (with_line (is_end_line BlifEnd line) (moved_line more line)) (sections_moved lines)
      ∙ with_line_moved (is_end_line BlifEnd line) line (sections_behind lines)

  -- of what nothing is refused, nothing is
  listed_moved : (section : List TextLine) → IsListed section → IsListed (moved more section)
  listed_moved section is = record { allowed = refusal_moved more section is.allowed; clockless = clockless_moved more section ∙ is.clockless }

  all_listed_moved : (sections : List (List TextLine)) → AreListed sections → AreListed (map (moved more) sections)
  all_listed_moved [] are = tt
  all_listed_moved (section ∷ sections) are = (listed_moved section are.0, all_listed_moved sections are.1)

  -- they denote the same
  planned_moved : (section : List TextLine) → IsListed section → planned_of (moved more section) ≡ planned_of section
  planned_moved section is =
      let net = netlist_of (named_text section) in
      let there = netlist_of (named_text (moved more section)) in
      let nets : there ≡ net = ap netlist_of (named_moved more section) in
      let plans : plan_text AnyPlan (moved more section) there ≡ plan_text AnyPlan section net =
      any_plan_is (moved more section) (listed_moved section is).allowed
      ∙ (ap (plan_text Netlist (moved more section)) nets
      ∙ (plan_moved more net section ∙ sym (any_plan_is section is.allowed))) in
      ap₂ (λ n p. part_with n p (clock_text AnyPlan (moved more section))) nets plans
      ∙ ap (part_with net (plan_text AnyPlan section net)) (clock_moved more section)

  all_planned_moved : (sections : List (List TextLine)) → AreListed sections → map planned_of (map (moved more) sections) ≡ map planned_of sections
  all_planned_moved [] are = refl
  all_planned_moved (section ∷ sections) are = ap₂ (λ (p : Part) (ps : List Part). p ∷ ps) (planned_moved section are.0) (all_planned_moved sections are.1)

-- ---- a netlist that was written, and lines after it

-- the first of the sections of lines that have an end line at their end, and further lines after it
first_and_rest : (lines later : List TextLine) → (section_of lines 0 BlifEnd).past < length lines → length lines ≤ (first_section lines).next
    → sections_behind (lines ++ later) ≡ first_lines lines ∷ sections_behind later
first_and_rest lines later ended whole =
    let joined = lines ++ later in
    next_section joined 0 (omega (arith, ended, length-append lines later))
    ∙ ap₂ (λ section rest. section ∷ sections_behind rest) (lines_kept BlifEnd lines later ended)
    (ap (λ n. drop n joined) (next_kept BlifEnd lines later ended whole) ∙ drop-append_seam lines later)

-- nothing refuses the text as a netlist, and it is exactly that of the netlist and the plan that it denotes
pub record IsWritten (answer : List ℕ) : Type 0 where
  pub readable : text_refusal Netlist answer ≡ None
  pub written : answer ≡ netlist_text (netlist_in answer) (plan_in answer)
  pub structure : HasSoundStructure (netlist_in answer).circuit (plan_in answer)

abbrev pub AreWritten : List (List ℕ) → Type 0
AreWritten [] = Unit {0}
AreWritten (answer ∷ answers) = IsWritten answer × AreWritten answers

-- the netlist with its plan that a text denotes
abbrev pub planned_in : List ℕ → Part
planned_in answer = planned_of (first_lines (lines_of answer))

module _ (answer rest : List ℕ) (is : IsWritten answer) where
  abbrev more : ℕ
  more = own.more answer is.readable is.written is.structure

  cut : sections_behind (lines_of (answer ++ rest)) ≡ first_lines (lines_of answer) ∷ map (moved more) (sections_behind (lines_of rest))
  cut =
      ap sections_behind (own.behind_it answer is.readable is.written is.structure rest)
      ∙ (first_and_rest (lines_of answer) (moved more (lines_of rest))
      (own.ended answer is.readable is.written is.structure) (own.whole answer is.readable is.written is.structure)
      ∙ ap (λ sections. first_lines (lines_of answer) ∷ sections) (sections_moved more (lines_of rest)))

  -- its section lists its states, and has no clock
  first_listed : IsListed (first_lines (lines_of answer))
  first_listed =
      let N = netlist_in answer in
      let P = plan_in answer in
      let same : first_lines (lines_of answer) ≡ lines_before_end N P =
      ap first_lines (own.laid answer is.readable is.written is.structure) ∙ (own.read answer is.readable is.written is.structure).section in
      record {
        allowed = own.section answer is.readable is.written is.structure;
        clockless = subst AreClockless (sym same) (written_clockless (named_of N) (plan_lines (named_plan N P)) (plan-marked (named_plan N P)));
      }

  one_more : AreListed (sections_behind (lines_of rest))
      → map planned_of (sections_behind (lines_of (answer ++ rest))) ≡ planned_in answer ∷ map planned_of (sections_behind (lines_of rest))
  one_more are =
      ap (map planned_of) cut ∙ ap (λ (ps : List Part). planned_in answer ∷ ps) (all_planned_moved more (sections_behind (lines_of rest)) are)

  one_listed : AreListed (sections_behind (lines_of rest)) → AreListed (sections_behind (lines_of (answer ++ rest)))
  one_listed are = subst AreListed (sym cut) (first_listed, all_listed_moved more (sections_behind (lines_of rest)) are)

-- ---- all of them

pub bytes_in_a_row : (answers : List (List ℕ)) → AreWritten answers → bad_line (concat answers) ≡ None
bytes_in_a_row [] are = refl
bytes_in_a_row (answer ∷ answers) are =
    allowed_in_a_row answer (concat answers) (own.bytes answer are.0.readable are.0.written are.0.structure) (bytes_in_a_row answers are.1)

listed_in_a_row : (answers : List (List ℕ)) → AreWritten answers → AreListed (sections_behind (lines_of (concat answers)))
listed_in_a_row [] are = tt
listed_in_a_row (answer ∷ answers) are = one_listed answer (concat answers) are.0 (listed_in_a_row answers are.1)

pub parts_in_a_row : (answers : List (List ℕ)) → AreWritten answers → map planned_of (sections_behind (lines_of (concat answers))) ≡ map planned_in answers
parts_in_a_row [] are = refl
parts_in_a_row (answer ∷ answers) are =
    one_more answer (concat answers) are.0 (listed_in_a_row answers are.1) ∙ ap (λ (ps : List Part). planned_in answer ∷ ps) (parts_in_a_row answers are.1)

pub allowed_parts : (answers : List (List ℕ)) → AreWritten answers → sections_refusal None (sections_behind (lines_of (concat answers))) ≡ None
allowed_parts answers are = all_allowed None (sections_behind (lines_of (concat answers))) (listed_in_a_row answers are)

-- where there is a section, there is a line
pub some_sections : (lines : List TextLine) → 0 < length (sections_behind lines) → sections_of lines ≡ sections_behind lines
some_sections [] some = absurd (omega (arith, some))
some_sections (line ∷ lines) some = refl
