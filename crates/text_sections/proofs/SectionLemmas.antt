-- A section of a text, and the refusal of a text of one section.
use Rattle.std.proofs.Common.{◌≡◌, ℕ, ◌+◌, ◌≤◌, ◌<◌, not, List, length, drop, length-drop, Option, None, Some, refl, sym, ◌∙◌, ap, subst, arith}
use Rattle.std.specs.Prelude.{if◌then◌else◌, cond, nat_lt}
use Rattle.std.specs.List.{position_or_len}
use Rattle.std.proofs.lemmas.List.Sums.{prefix_len-le-length}
use Rattle.std.proofs.lemmas.Bool.{lt-ltb, le-ltb}
use Rattle.std.proofs.lemmas.Grind.{common_steps}
use Rattle.tsc_text.specs.Bytes.{bad_line}
use Rattle.tsc_text.specs.Lines.{lines_of}
use Rattle.tsc_text.specs.TextLine.{TextLine, the_line}
use Rattle.tsc_text.specs.Section.{is_end_line, IsSectionOf, section_lines}
use Rattle.tsc_text.specs.declared.section.End.TheVariants.{Blif as BlifEnd}
use Rattle.tsc_text.specs.declared.section.Section.{Section}
use Rattle.blif_read.specs.Denotes.{refusal}
use Rattle.blif_read.specs.declared.kinds.Kind.{Kind}
use Rattle.blif_read.specs.Refusal.{IsRefusedBy as IsRefusedByError}
use Rattle.blif_read.specs.declared.error.BlifError.{BlifError}
use Rattle.blif_read.specs.declared.error.BlifError.TheVariants.{Unsupported, WordCount, RowOutside, RowShape, Mixed, LatchInSource, LatchClock, LatchInit, PlanShape, Limit, Net, NoPlan, PlanName, Memory as NoMemory}
use Rattle.refusals.specs.declared.refusal.Refusal.{Refusal}
use Rattle.refusals.specs.declared.text_refusal.TextRefusal.{TextRefusal}
use Rattle.refusals.specs.declared.refusal.Refusal.TheVariants.{Memory, Text}
use Rattle.refusals.specs.declared.text_refusal.TextRefusal.TheVariants.{AfterTheEnd}
use Rattle.text_sections.specs.Refused.{IsRefusedBy, as_refusal, byte_refusal, first_of, last_refusal, left_behind, lines_refusal, refusal_from, section_refusal, text_refusal}
use Rattle.text_sections.specs.Denoted.{lines_from, section_from}

-- the section from a place on is one of the lines
section_is_one : (lines : List TextLine) (from : ℕ) → from ≤ length lines → IsSectionOf lines (section_from lines from)
section_is_one lines from within =
    let last : position_or_len (is_end_line BlifEnd) (drop from lines) ≤ length (drop from lines) = prefix_len-le-length (λ line. not (is_end_line BlifEnd line)) (drop from lines) in
    record { order = omega arith; within = omega (arith, within, last, length-drop from lines) }

-- what is refused first is refused, and what is refused after nothing else was
pub refused_first : (first later : Option TextRefusal) (given : Refusal) → IsRefusedBy first given → IsRefusedBy (first_of first later) given
refused_first first later (Memory error) refused = tt
refused_first first later (Text given) refused = ap (λ r. first_of r later) refused
refused_first first later given refused = absurd refused

-- where the first of two refusals is none, the two in order refuse what the later one refuses
pub refused_later : (first later : Option TextRefusal) (given : Refusal) → first ≡ None → IsRefusedBy later given → IsRefusedBy (first_of first later) given
refused_later first later given none refused =
    let P : Option TextRefusal → Type 0 = λ r. IsRefusedBy (first_of r later) given in subst P (sym none) refused

-- where each of two refusals is none, the two in order are none
pub allowed_both : (first later : Option TextRefusal) → first ≡ None → later ≡ None → first_of first later ≡ None
allowed_both first later none also = ap (λ r. first_of r later) none ∙ also

-- of two refusals that are none together, each is none
pub none_first : (first later : Option TextRefusal) → first_of first later ≡ None → first ≡ None
none_first None later e = refl
none_first (Some refusal) later e = cc

-- where two refusals in order are none, the later one is none
pub none_later : (first later : Option TextRefusal) → first_of first later ≡ None → later ≡ None
none_later None later e = e
none_later (Some refusal) later e = cc

-- the same of a text, of whose lines it is known what they are
pub refused_lines : (kind : Kind) (text : List ℕ) (lines : List TextLine) (given : Refusal)
    → lines ≡ lines_of text → bad_line text ≡ None → IsRefusedBy (lines_refusal kind lines) given → IsRefusedBy (text_refusal kind text) given
refused_lines kind text lines given are sound refused =
    let P : List TextLine → Type 0 = λ l. IsRefusedBy (lines_refusal kind l) given in
    refused_later (byte_refusal (bad_line text)) (lines_refusal kind (lines_of text)) given (ap byte_refusal sound) (subst P are refused)

-- where nothing refuses the bytes of a text or its lines, nothing refuses the text
pub allowed_lines : (kind : Kind) (text : List ℕ) (lines : List TextLine)
    → lines ≡ lines_of text → bad_line text ≡ None → lines_refusal kind lines ≡ None → text_refusal kind text ≡ None
allowed_lines kind text lines are sound allowed =
    allowed_both (byte_refusal (bad_line text)) (lines_refusal kind (lines_of text)) (ap byte_refusal sound) (ap (lines_refusal kind) (sym are) ∙ allowed)

-- a section that is refused by an error is refused
refused_section : (kind : Kind) (first : Option BlifError) (error : BlifError)
    → IsRefusedByError first error → IsRefusedBy (section_refusal kind first) (as_refusal kind error)
refused_section kind first (NoMemory error) refused = tt
refused_section kind first (Unsupported line) refused = ap (section_refusal kind) refused
refused_section kind first (WordCount line) refused = ap (section_refusal kind) refused
refused_section kind first (RowOutside line) refused = ap (section_refusal kind) refused
refused_section kind first (RowShape line) refused = ap (section_refusal kind) refused
refused_section kind first (Mixed line) refused = ap (section_refusal kind) refused
refused_section kind first (LatchInSource line) refused = ap (section_refusal kind) refused
refused_section kind first (LatchClock line) refused = ap (section_refusal kind) refused
refused_section kind first (LatchInit line) refused = ap (section_refusal kind) refused
refused_section kind first (PlanShape line) refused = ap (section_refusal kind) refused
refused_section kind first (Limit line which) refused = ap (section_refusal kind) refused
refused_section kind first (Net error) refused = ap (section_refusal kind) refused
refused_section kind first NoPlan refused = ap (section_refusal kind) refused
refused_section kind first (PlanName line) refused = ap (section_refusal kind) refused

-- a line that stands behind the section, and none
pub behind : (next count : ℕ) (refusal : TextRefusal) → next < count → (if nat_lt next count then Some refusal else None) ≡ Some refusal
behind next count refusal lt = ap (λ b. if b then Some refusal else None) (lt-ltb next count lt)

-- where the section ends with the lines, no line stands after it
pub none_behind : (next count : ℕ) (refusal : TextRefusal) → count ≤ next → (if nat_lt next count then Some refusal else None) ≡ None
none_behind next count refusal le = ap (λ b. if b then Some refusal else None) (le-ltb next count le)

-- the next section begins within the lines
pub next_within : (past count : ℕ) → past ≤ count → cond (nat_lt past count) (past + 1) past ≤ count
next_within past count le = grind (arith, common_steps)

-- the section of the lines from a place on
module _ (lines : List TextLine) (from : ℕ) (section : Section) (is : section ≡ section_from lines from) where
  -- it is one of the lines
  pub is_section : from ≤ length lines → IsSectionOf lines section
  is_section within = let P : Section → Type 0 = λ s. IsSectionOf lines s in subst P (sym is) (section_is_one lines from within)

  -- it is refused where it is read and refused, and else allowed
  pub refused_text_of : (kind : Kind) (error : BlifError) (given : Refusal)
      → IsRefusedByError (refusal kind (section_lines lines section)) error → given ≡ as_refusal kind error → IsRefusedBy (refusal_from kind lines from) given
  refused_text_of kind error given refused same =
      let P : Section → Type 0 = λ s. IsRefusedByError (refusal kind (section_lines lines s)) error in
      let Q : Refusal → Type 0 = λ r. IsRefusedBy (refusal_from kind lines from) r in
      subst Q (sym same) (refused_section kind (refusal kind (lines_from lines from)) error (subst P is refused))

  -- where nothing refuses its lines, the section is not refused
  pub allowed_text_of : (kind : Kind) → refusal kind (section_lines lines section) ≡ None → refusal_from kind lines from ≡ None
  allowed_text_of kind sound =
      let P : Section → Type 0 = λ s. refusal kind (section_lines lines s) ≡ None in
      let none : refusal kind (lines_from lines from) ≡ None = subst P is sound in
      ap (section_refusal kind) none

  -- where it is not refused, the lines are refused for what stands behind it alone
  only_behind : (kind : Kind) (given : Option TextRefusal) → refusal_from kind lines from ≡ None → left_behind lines from ≡ given → last_refusal kind lines from ≡ given
  only_behind kind given none left = ap (λ r. first_of r (left_behind lines from)) none ∙ left

  -- a line that stands after the section, and none
  pub line_left : (count number : ℕ) → section.next < count → count ≡ length lines → number ≡ (the_line lines section.next).number
      → left_behind lines from ≡ Some (AfterTheEnd number)
  line_left count number lt counted numbered =
      let P : Section → Type 0 = λ s. s.next < length lines in
      let there : section.next < length lines = omega arith in
      let Q : Section → Type 0 = λ s. number ≡ (the_line lines s.next).number in
      let number_is : number ≡ (the_line lines (section_from lines from).next).number = subst Q is numbered in
      behind (section_from lines from).next (length lines) (AfterTheEnd (the_line lines (section_from lines from).next).number) (subst P is there)
      ∙ ap (λ n. Some (AfterTheEnd n)) (sym number_is)

  pub no_line_left : (count : ℕ) → count ≤ section.next → count ≡ length lines → left_behind lines from ≡ None
  no_line_left count le counted =
      let P : Section → Type 0 = λ s. length lines ≤ s.next in
      let there : length lines ≤ section.next = omega arith in
      none_behind (section_from lines from).next (length lines) (AfterTheEnd (the_line lines (section_from lines from).next).number) (subst P is there)

  -- where the section is not refused and a line stands after it, that refuses the lines from that place on
  pub some_left : (kind : Kind) (count number : ℕ) → refusal_from kind lines from ≡ None
      → section.next < count → count ≡ length lines → number ≡ (the_line lines section.next).number → last_refusal kind lines from ≡ Some (AfterTheEnd number)
  some_left kind count number none lt counted numbered =
      only_behind kind (Some (AfterTheEnd number)) none (line_left count number lt counted numbered)

  -- where the section is not refused and no line stands after it, nothing refuses the lines from that place on
  pub none_left : (kind : Kind) (count : ℕ) → refusal_from kind lines from ≡ None → count ≤ section.next → count ≡ length lines → last_refusal kind lines from ≡ None
  none_left kind count none le counted = only_behind kind None none (no_line_left count le counted)

  -- what stands behind it begins within the lines
  pub behind_within : from ≤ length lines → section.next ≤ length lines
  behind_within within =
      let P : Section → Type 0 = λ s. s.next ≤ length lines in
      subst P (sym is) (next_within (section_from lines from).past (length lines) (section_is_one lines from within).within)

-- where the section from a place on is not refused, nothing of it is
pub first_allowed : (kind : Kind) (lines : List TextLine) (from : ℕ) → refusal_from kind lines from ≡ None → refusal kind (lines_from lines from) ≡ None
first_allowed kind lines from allowed = by (refusal kind (lines_from lines from)) allowed
  where
    by : (first : Option BlifError) → section_refusal kind first ≡ None → first ≡ None
    by None e = refl
    by (Some error) e = cc

-- where the lines are not refused, their section is not
pub section_allowed : (kind : Kind) (lines : List TextLine) (from : ℕ) → last_refusal kind lines from ≡ None → refusal kind (lines_from lines from) ≡ None
section_allowed kind lines from allowed =
    first_allowed kind lines from (none_first (refusal_from kind lines from) (left_behind lines from) allowed)
