-- A section behind another in one text: where the first ends, and what the second denotes.
use Rattle.std.proofs.Common.{◌≡◌, ℕ, ◌+◌, ◌<◌, ◌≤◌, Bool, true, false, cond, not, List, [], ◌∷◌, ◌++◌, drop, length, None, Some, refl, sym, ◌∙◌, ap, ap₂, arith, inl, inr}
use Rattle.std.specs.Prelude.{nat_lt, take, if◌then◌else◌}
use Rattle.std.specs.List.{position_or_len, prefix_len}
use Rattle.std.specs.Option.{unwrap_or}
use Rattle.std.proofs.Math.Seq.{drop-append_seam}
use Rattle.std.proofs.lemmas.Bool.{cases_lt, lt-ltb, le-ltb}
use Rattle.std.proofs.lemmas.List.{append-nil, append_assoc, length-append, length-map, take-append-le, take-map}
use Rattle.tsc_text.specs.Bytes.{bad_line, bad_line_from, is_allowed, number_after}
use Rattle.tsc_text.specs.Joined.{HasNoOpenLine, moved, moved_line}
use Rattle.tsc_text.specs.Lines.{lines_of, physical_lines}
use Rattle.tsc_text.specs.Section.{is_end_line, section_of, section_lines}
use Rattle.tsc_text.specs.TextLine.{TextLine, the_line}
use Rattle.tsc_text.specs.declared.section.End.{End}
use Rattle.tsc_text.specs.declared.section.End.TheVariants.{Blif as BlifEnd, Kiss as KissEnd}
use Rattle.tsc_text.proofs.JoinedTexts.{lines_of-append}
use Rattle.tsc_net.specs.NetlistOf.{netlist_of}
use Rattle.fault_secure.specs.Logic.{Loose, Network, States}
use Rattle.blif_read.specs.Denotes.{plan_text, refusal}
use Rattle.blif_read.specs.NamedText.{named_text}
use Rattle.blif_read.specs.declared.kinds.Kind.TheVariants.{Source, Netlist}
use Rattle.kiss_read.specs.Refusal.{refusal as kiss_refusal}
use Rattle.kiss_read.specs.TableText.{machine_text}
use Rattle.pla_read.specs.Loose.{free_text}
use Rattle.pla_read.specs.Networks.{value_text}
use Rattle.pla_read.specs.Refusal.{refusal as table_refusal}
use Rattle.refusals.specs.declared.text_refusal.TextRefusal.TheVariants.{AfterTheEnd}
use Rattle.commands.specs.declared.source_format.SourceFormat.{SourceFormat}
use Rattle.commands.specs.declared.source_format.SourceFormat.TheVariants.{Blif, Kiss, Pla}
use Rattle.text_sections.specs.Denoted.{behind_source, first_lines, first_net, first_plan, first_section, lines_from, machine_lines, machine_section, net_from, no_plan, plan_from, section_from, source_of}
use Rattle.text_sections.specs.Refused.{behind_machine, first_table_refusal, last_netlist_refusal, left_behind, left_over, lines_refusal, machine_lines_refusal, machine_refusal, netlist_refusal, pla_lines_refusal, pla_refusal, refusal_from, section_refusal, source_refusal}
use Rattle.text_sections.proofs.BehindLemmas.{allowed_last}
use Rattle.text_sections.proofs.StateLemmas.{listed_last}
use Rattle.part_reading.proofs.PartLemmas.{range_is}
use Rattle.answer_laws.proofs.Renumbered.{named_moved, plan_moved, refusal_moved}
use Rattle.text_sections.proofs.SectionLemmas.{allowed_both, none_behind, none_first, none_later, section_allowed}
use Rattle.answer_laws.proofs.AnswerLemmas.{some_left}

-- ---- two texts in a row: their bytes and their lines

-- bytes that a text may hold, it may hold from any line on
any_line : (n m : ℕ) (bytes : List ℕ) → bad_line_from n bytes ≡ None → bad_line_from m bytes ≡ None
any_line n m [] none = refl
any_line n m (b ∷ bytes) none = step (is_allowed b) none (λ later. any_line (number_after n b) (number_after m b) bytes later)
  where
    step : (allowed : Bool) → cond allowed (bad_line_from (number_after n b) bytes) (Some n) ≡ None
        → (bad_line_from (number_after n b) bytes ≡ None → bad_line_from (number_after m b) bytes ≡ None)
        → cond allowed (bad_line_from (number_after m b) bytes) (Some m) ≡ None
    step true none later = later none
    step false none later = cc

bytes_in_a_row : (n : ℕ) (first second : List ℕ) → bad_line_from n first ≡ None → bad_line second ≡ None → bad_line_from n (first ++ second) ≡ None
bytes_in_a_row n [] second none also = any_line 1 n second also
bytes_in_a_row n (b ∷ first) second none also = step (is_allowed b) none (λ later. bytes_in_a_row (number_after n b) first second later also)
  where
    step : (allowed : Bool) → cond allowed (bad_line_from (number_after n b) first) (Some n) ≡ None
        → (bad_line_from (number_after n b) first ≡ None → bad_line_from (number_after n b) (first ++ second) ≡ None)
        → cond allowed (bad_line_from (number_after n b) (first ++ second)) (Some n) ≡ None
    step true none later = later none
    step false none later = cc

-- two texts without a bad byte have none in a row
pub allowed_in_a_row : (first second : List ℕ) → bad_line first ≡ None → bad_line second ≡ None → bad_line (first ++ second) ≡ None
allowed_in_a_row first second none also = bytes_in_a_row 1 first second none also

-- a text that ends in an LF behind a complete line, and one behind it
pub lines_in_a_row : (body text second : List ℕ) → text ≡ body ++ 10 ∷ [] → HasNoOpenLine body
    → lines_of (text ++ second) ≡ lines_of text ++ moved (length (physical_lines body)) (lines_of second)
lines_in_a_row body text second fed complete =
    let more = length (physical_lines body) in
    let ends : lines_of text ≡ lines_of body = ap lines_of fed ∙ (lines_of-append body [] complete ∙ append-nil (lines_of body)) in
    ap (λ t. lines_of (t ++ second)) fed
    ∙ (ap lines_of (append_assoc body (10 ∷ []) second)
    ∙ (lines_of-append body second complete
    ∙ ap (λ lines. lines ++ moved more (lines_of second)) (sym ends)))

-- ---- sections by their end lines

-- the lines before the first end line
abbrev before_end : End → List TextLine → List TextLine
before_end end lines = take (position_or_len (is_end_line end) lines) lines

next_is : (past count : ℕ) → past < count → cond (nat_lt past count) (past + 1) past ≡ past + 1
next_is past count lt = ap (λ b. cond b (past + 1) past) (lt-ltb past count lt)

none_next : (past count : ℕ) → count ≤ past → cond (nat_lt past count) (past + 1) past ≡ past
none_next past count le = ap (λ b. cond b (past + 1) past) (le-ltb past count le)

-- the first place that doesn't pass is that of the first of two lists, where it is one of that
first_place : (p : TextLine → Bool) (first second : List TextLine) → prefix_len p first < length first → prefix_len p (first ++ second) ≡ prefix_len p first
first_place p [] second there = absurd (omega (arith, there))
first_place p (line ∷ first) second there = step (p line) there (λ later. first_place p first second later)
  where
    step : (passes : Bool) → cond passes (1 + prefix_len p first) 0 < length (line ∷ first)
        → (prefix_len p first < length first → prefix_len p (first ++ second) ≡ prefix_len p first)
        → cond passes (1 + prefix_len p (first ++ second)) 0 ≡ cond passes (1 + prefix_len p first) 0
    step true there later = ap (λ (n : ℕ). 1 + n) (later (omega (arith, there)))
    step false there later = refl

-- an end line doesn't depend on its number
end_moved : (end : End) (more : ℕ) (lines : List TextLine) → position_or_len (is_end_line end) (moved more lines) ≡ position_or_len (is_end_line end) lines
end_moved end more [] = refl
end_moved end more (line ∷ lines) = ap (λ (n : ℕ). cond (not (is_end_line end line)) (1 + n) 0) (end_moved end more lines)

-- ---- the first section of lines that have its end line, where more lines stand behind them
module _ (end : End) (first second : List TextLine) (ended : (section_of first 0 end).past < length first) where
  end_place : position_or_len (is_end_line end) (first ++ second) ≡ position_or_len (is_end_line end) first
  end_place = first_place (λ line. not (is_end_line end line)) first second (omega (arith, ended))

  -- the first section keeps its lines
  pub lines_kept : section_lines (first ++ second) (section_of (first ++ second) 0 end) ≡ section_lines first (section_of first 0 end)
  lines_kept =
      let count = position_or_len (is_end_line end) first in
      range_is (first ++ second) 0 (position_or_len (is_end_line end) (first ++ second))
      ∙ (ap (λ n. take n (first ++ second)) end_place
      ∙ (take-append-le count first second (omega (arith, ended))
      ∙ sym (range_is first 0 count)))

  -- where it ends with the first lines, what comes next begins right after them
  pub next_kept : length first ≤ (section_of first 0 end).next → (section_of (first ++ second) 0 end).next ≡ length first
  next_kept whole =
      let count = position_or_len (is_end_line end) first in
      let here = next_is (0 + count) (length first) ended in
      let there = next_is (0 + position_or_len (is_end_line end) (first ++ second)) (length (first ++ second)) (omega (arith, end_place, ended, length-append first second)) in
      omega (arith, end_place, ended, whole, here, there)

-- ---- the last section, where lines stand before it
module _ (more : ℕ) (first second : List TextLine) where
  abbrev both_lines : List TextLine
  both_lines = first ++ moved more second

  behind : drop (length first) both_lines ≡ moved more second
  behind = drop-append_seam first (moved more second)

  -- the lines of its section
  pub second_lines : lines_from both_lines (length first) ≡ moved more (first_lines second)
  second_lines =
      let count = position_or_len (is_end_line BlifEnd) second in
      range_is both_lines (length first) (position_or_len (is_end_line BlifEnd) (drop (length first) both_lines))
      ∙ (ap (before_end BlifEnd) behind
      ∙ (ap (λ n. take n (moved more second)) (end_moved BlifEnd more second)
      ∙ (take-map (moved_line more) count second
      ∙ ap (moved more) (sym (range_is second 0 count)))))

  -- what it denotes
  pub second_net : net_from both_lines (length first) ≡ first_net second
  second_net = ap (λ lines. netlist_of (named_text lines)) second_lines ∙ ap netlist_of (named_moved more (first_lines second))

  -- the plan that it states is the one that it stated alone
  pub second_plan : plan_from both_lines (length first) ≡ first_plan second
  second_plan =
      ap₂ (λ lines net. unwrap_or (plan_text Netlist lines net) no_plan) second_lines second_net
      ∙ ap (λ plan. unwrap_or plan no_plan) (plan_moved more (first_net second) (first_lines second))

  -- and what is refused of it
  second_allowed : refusal Netlist (first_lines second) ≡ None → refusal_from Netlist both_lines (length first) ≡ None
  second_allowed allowed =
      ap (λ lines. section_refusal Netlist (refusal Netlist lines)) second_lines
      ∙ ap (section_refusal Netlist) (refusal_moved more (first_lines second) allowed)

  second_place : position_or_len (is_end_line BlifEnd) (drop (length first) both_lines) ≡ position_or_len (is_end_line BlifEnd) second
  second_place = ap (position_or_len (is_end_line BlifEnd)) behind ∙ end_moved BlifEnd more second

  whole_length : length both_lines ≡ length first + length second
  whole_length = length-append first (moved more second) ∙ ap (λ (n : ℕ). length first + n) (length-map second (moved_line more))

  second_whole : length second ≤ (first_section second).next → length both_lines ≤ (section_from both_lines (length first)).next
  second_whole whole =
      let count = position_or_len (is_end_line BlifEnd) second in
      let past = length first + position_or_len (is_end_line BlifEnd) (drop (length first) both_lines) in
      elim (cases_lt count (length second)) [
        | inl there ↦
            (let here = next_is (0 + count) (length second) (omega (arith, there)) in
            let later = next_is past (length both_lines) (omega (arith, there, second_place, whole_length)) in
            omega (arith, here, later, whole, there, second_place, whole_length))
        | inr none ↦
            (let later = none_next past (length both_lines) (omega (arith, none, second_place, whole_length)) in
            omega (arith, later, none, second_place, whole_length))
      ]

-- where nothing is refused, the section is whole
whole_of : (next count number : ℕ) → (if nat_lt next count then Some (AfterTheEnd number) else None) ≡ None → count ≤ next
whole_of next count number none = elim (cases_lt next count) [
  | inl left ↦ absurd (some_left (nat_lt next count) (AfterTheEnd number) (lt-ltb next count left) none)
  | inr past ↦ past
]

-- lines that nothing refuses as a netlist are some
some_lines : (lines : List TextLine) → refusal Netlist (first_lines lines) ≡ None → 0 < length lines
some_lines [] allowed = cc
some_lines (line ∷ lines) allowed = omega arith

-- so a netlist that nothing refuses is refused by nothing behind other lines
pub netlist_allowed : (more : ℕ) (first second : List TextLine) → lines_refusal Netlist second ≡ None
    → netlist_refusal (first ++ moved more second) (length first) ≡ None
netlist_allowed more first second allowed =
    let lines = first ++ moved more second in
    let from = length first in
    let sound : refusal Netlist (first_lines second) ≡ None = section_allowed Netlist second 0 allowed in
    let whole : length second ≤ (first_section second).next =
    whole_of (first_section second).next (length second) (the_line second (first_section second).next).number
    (none_later (refusal_from Netlist second 0) (left_over second) allowed) in
    allowed_last (last_netlist_refusal lines from) lines from (omega (arith, some_lines second sound, whole_length more first second))
    (listed_last lines from (allowed_both (refusal_from Netlist lines from) (left_behind lines from) (second_allowed more first second sound)
    (none_behind (section_from lines from).next (length lines) (AfterTheEnd (the_line lines (section_from lines from).next).number)
    (second_whole more first second whole))))

-- ---- the source, where more lines stand behind it

-- nothing refuses the source that lines begin with, it is what they denoted alone, and it ends behind the first ones
pub record IsKept (format : SourceFormat) (first second : List TextLine) : Type 0 where
  pub allowed : source_refusal format (first ++ second) ≡ None
  pub source : source_of format (first ++ second) ≡ source_of format first
  pub ends : behind_source format (first ++ second) ≡ length first

-- a network that nothing refuses and that has its end line is kept where more lines follow
pub network_kept : (first second : List TextLine) → lines_refusal Source first ≡ None → (section_of first 0 BlifEnd).past < length first
    → IsKept Blif first second
network_kept first second allowed ended =
    let kept = lines_kept BlifEnd first second ended in
    let whole : length first ≤ (first_section first).next =
    whole_of (first_section first).next (length first) (the_line first (first_section first).next).number
    (none_later (refusal_from Source first 0) (left_over first) allowed) in
    record {
      allowed = ap (λ lines. section_refusal Source (refusal Source lines)) kept ∙ none_first (refusal_from Source first 0) (left_over first) allowed;
      source = ap (λ lines. Network (netlist_of (named_text lines)).circuit) kept;
      ends = next_kept BlifEnd first second ended whole;
    }

pub machine_kept : (first second : List TextLine) → machine_lines_refusal first ≡ None → (section_of first 0 KissEnd).past < length first
    → IsKept Kiss first second
machine_kept first second allowed ended =
    let kept = lines_kept KissEnd first second ended in
    let whole : length first ≤ (machine_section first).next =
    whole_of (machine_section first).next (length first) (the_line first (machine_section first).next).number
    (none_later (machine_refusal (kiss_refusal (machine_lines first))) (behind_machine first) allowed) in
    record {
      allowed = ap (λ lines. machine_refusal (kiss_refusal lines)) kept
          ∙ none_first (machine_refusal (kiss_refusal (machine_lines first))) (behind_machine first) allowed;
      source = ap (λ lines. States (machine_text lines).table) kept;
      ends = next_kept KissEnd first second ended whole;
    }

pub table_kept : (first second : List TextLine) → pla_lines_refusal first ≡ None → (section_of first 0 KissEnd).past < length first
    → IsKept Pla first second
table_kept first second allowed ended =
    let kept = lines_kept KissEnd first second ended in
    let whole : length first ≤ (machine_section first).next =
    whole_of (machine_section first).next (length first) (the_line first (machine_section first).next).number
    (none_later (first_table_refusal first) (behind_machine first) allowed) in
    record {
      allowed = ap (λ lines. pla_refusal (table_refusal lines)) kept ∙ none_first (first_table_refusal first) (behind_machine first) allowed;
      source = ap (λ lines. Loose (netlist_of (value_text lines)).circuit (netlist_of (free_text lines)).circuit) kept;
      ends = next_kept KissEnd first second ended whole;
    }
