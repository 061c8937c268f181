-- A text that denotes a machine: its section, and what is refused of it.
use Rattle.std.proofs.Common.{◌≡◌, ℕ, ◌≤◌, ◌<◌, not, List, length, Option, None, Some, sym, ◌∙◌, ap, subst, arith}
use Rattle.std.specs.List.{position_or_len}
use Rattle.std.proofs.lemmas.List.Sums.{prefix_len-le-length}
use Rattle.tsc_text.specs.Lines.{lines_of}
use Rattle.tsc_text.specs.TextLine.{TextLine, the_line}
use Rattle.tsc_text.specs.Section.{is_end_line, IsSectionOf, section_lines}
use Rattle.tsc_text.specs.declared.section.End.TheVariants.{Kiss as KissEnd}
use Rattle.tsc_text.specs.declared.section.Section.{Section}
use Rattle.tsc_net.specs.MachineView.{MachineOf}
use Rattle.kiss_read.specs.Refusal.{refusal, IsRefusedBy as IsRefusedByError}
use Rattle.kiss_read.specs.TableText.{machine_text}
use Rattle.kiss_read.specs.declared.error.KissError.{KissError}
use Rattle.kiss_read.specs.declared.error.KissError.TheVariants as kiss
use Rattle.refusals.specs.declared.refusal.Refusal.{Refusal}
use Rattle.refusals.specs.declared.text_refusal.TextRefusal.{TextRefusal}
use Rattle.refusals.specs.declared.text_refusal.TextRefusal.TheVariants.{AfterTheEnd}
use Rattle.text_sections.specs.Denoted.{machine_in, machine_lines, machine_section}
use Rattle.text_sections.specs.Refused.{IsRefusedBy, as_machine_refusal, behind_machine, first_of, machine_refusal}
use Rattle.text_sections.proofs.SectionLemmas.{behind, next_within, none_behind}

-- the section is one of the lines
first_is_section : (lines : List TextLine) → IsSectionOf lines (machine_section lines)
first_is_section lines =
    let within : position_or_len (is_end_line KissEnd) lines ≤ length lines = prefix_len-le-length (λ line. not (is_end_line KissEnd line)) lines in
    record { order = omega arith; within = omega arith }

pub is_section : (lines : List TextLine) (section : Section) → section ≡ machine_section lines → IsSectionOf lines section
is_section lines section is = let P : Section → Type 0 = λ s. IsSectionOf lines s in subst P (sym is) (first_is_section lines)

-- what stands behind it begins within the lines
pub behind_within : (lines : List TextLine) (section : Section) → section ≡ machine_section lines → section.next ≤ length lines
behind_within lines section is =
    let P : Section → Type 0 = λ s. s.next ≤ length lines in
    subst P (sym is) (next_within (machine_section lines).past (length lines) (first_is_section lines).within)

-- a machine that is refused by an error is refused
refused_machine : (first : Option KissError) (error : KissError) → IsRefusedByError first error → IsRefusedBy (machine_refusal first) (as_machine_refusal error)
refused_machine first (kiss.Header line) refused = ap machine_refusal refused
refused_machine first (kiss.Unsupported line) refused = ap machine_refusal refused
refused_machine first (kiss.RowShape line) refused = ap machine_refusal refused
refused_machine first (kiss.Limit line which) refused = ap machine_refusal refused
refused_machine first kiss.NoRows refused = ap machine_refusal refused
refused_machine first (kiss.NoReset line) refused = ap machine_refusal refused
refused_machine first (kiss.Conflict earlier later) refused = ap machine_refusal refused
refused_machine first (kiss.Memory error) refused = tt

pub refused_of : (lines : List TextLine) (section : Section) (error : KissError) (given : Refusal)
    → section ≡ machine_section lines → IsRefusedByError (refusal (section_lines lines section)) error → given ≡ as_machine_refusal error
    → IsRefusedBy (machine_refusal (refusal (machine_lines lines))) given
refused_of lines section error given is refused same =
    let P : Section → Type 0 = λ s. IsRefusedByError (refusal (section_lines lines s)) error in
    let Q : Refusal → Type 0 = λ r. IsRefusedBy (machine_refusal (refusal (machine_lines lines))) r in
    subst Q (sym same) (refused_machine (refusal (machine_lines lines)) error (subst P is refused))

pub allowed_of : (lines : List TextLine) (section : Section) → section ≡ machine_section lines → refusal (section_lines lines section) ≡ None
    → machine_refusal (refusal (machine_lines lines)) ≡ None
allowed_of lines section is sound =
    let P : Section → Type 0 = λ s. refusal (section_lines lines s) ≡ None in
    let none : refusal (machine_lines lines) ≡ None = subst P is sound in
    ap machine_refusal none

-- what a section denotes, seen as the first one
pub denoted_of : {A : Type 0} (f : List TextLine → A) (lines : List TextLine) (section : Section) (given : A)
    → section ≡ machine_section lines → given ≡ f (section_lines lines section) → given ≡ f (machine_lines lines)
denoted_of f lines section given is same = same ∙ ap (λ s. f (section_lines lines s)) is

-- where what the lines begin with is not refused, they are refused for what stands behind it alone
only_behind : (lines : List TextLine) (first given : Option TextRefusal) → first ≡ None → behind_machine lines ≡ given → first_of first (behind_machine lines) ≡ given
only_behind lines first given none left = ap (λ r. first_of r (behind_machine lines)) none ∙ left

pub left_behind : (lines : List TextLine) (first : Option TextRefusal) (section : Section) (count number : ℕ)
    → section ≡ machine_section lines → first ≡ None
    → section.next < count → count ≡ length lines → number ≡ (the_line lines section.next).number
    → first_of first (behind_machine lines) ≡ Some (AfterTheEnd number)
left_behind lines first section count number is none lt counted numbered =
    let P : Section → Type 0 = λ s. s.next < length lines in
    let there : section.next < length lines = omega arith in
    let Q : Section → Type 0 = λ s. number ≡ (the_line lines s.next).number in
    let number_is : number ≡ (the_line lines (machine_section lines).next).number = subst Q is numbered in
    only_behind lines first (Some (AfterTheEnd number)) none
    (behind (machine_section lines).next (length lines) (AfterTheEnd (the_line lines (machine_section lines).next).number) (subst P is there)
    ∙ ap (λ n. Some (AfterTheEnd n)) (sym number_is))

pub none_left : (lines : List TextLine) (first : Option TextRefusal) (section : Section) (count : ℕ)
    → section ≡ machine_section lines → first ≡ None
    → count ≤ section.next → count ≡ length lines → first_of first (behind_machine lines) ≡ None
none_left lines first section count is none le counted =
    let P : Section → Type 0 = λ s. length lines ≤ s.next in
    let there : length lines ≤ section.next = omega arith in
    only_behind lines first None none
    (none_behind (machine_section lines).next (length lines) (AfterTheEnd (the_line lines (machine_section lines).next).number) (subst P is there))

-- what the lines of a text denote
pub table_in : (lines : List TextLine) (text : List ℕ) (machine : MachineOf) → machine ≡ machine_text (machine_lines lines) → lines ≡ lines_of text
    → machine.table ≡ machine_in text
table_in lines text machine is are = ap (λ m. m.table) is ∙ ap (λ l. (machine_text (machine_lines l)).table) are
