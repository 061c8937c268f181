-- A text that denotes a table: what is refused of it.
use Rattle.std.proofs.Common.{◌≡◌, List, Option, None, sym, ap, subst}
use Rattle.tsc_text.specs.TextLine.{TextLine}
use Rattle.tsc_text.specs.Section.{section_lines}
use Rattle.tsc_text.specs.declared.section.Section.{Section}
use Rattle.pla_read.specs.Refusal.{refusal, IsRefusedBy as IsRefusedByError}
use Rattle.pla_read.specs.declared.error.PlaError.{PlaError}
use Rattle.pla_read.specs.declared.error.PlaError.TheVariants as pla
use Rattle.refusals.specs.declared.refusal.Refusal.{Refusal}
use Rattle.text_sections.specs.Denoted.{machine_lines, machine_section}
use Rattle.text_sections.specs.Refused.{IsRefusedBy, as_pla_refusal, first_table_refusal, pla_refusal}

-- a table that is refused by an error is refused
refused_table : (first : Option PlaError) (error : PlaError) → IsRefusedByError first error → IsRefusedBy (pla_refusal first) (as_pla_refusal error)
refused_table first (pla.Header line) refused = ap pla_refusal refused
refused_table first (pla.Unsupported line) refused = ap pla_refusal refused
refused_table first (pla.RowShape line) refused = ap pla_refusal refused
refused_table first (pla.Limit line which) refused = ap pla_refusal refused
refused_table first (pla.Memory error) refused = tt

pub refused_of : (lines : List TextLine) (section : Section) (error : PlaError) (given : Refusal)
    → section ≡ machine_section lines → IsRefusedByError (refusal (section_lines lines section)) error → given ≡ as_pla_refusal error
    → IsRefusedBy (first_table_refusal lines) given
refused_of lines section error given is refused same =
    let P : Section → Type 0 = λ s. IsRefusedByError (refusal (section_lines lines s)) error in
    let Q : Refusal → Type 0 = λ r. IsRefusedBy (first_table_refusal lines) r in
    subst Q (sym same) (refused_table (refusal (machine_lines lines)) error (subst P is refused))

pub allowed_of : (lines : List TextLine) (section : Section) → section ≡ machine_section lines → refusal (section_lines lines section) ≡ None
    → first_table_refusal lines ≡ None
allowed_of lines section is sound =
    let P : Section → Type 0 = λ s. refusal (section_lines lines s) ≡ None in
    let none : refusal (machine_lines lines) ≡ None = subst P is sound in
    ap pla_refusal none

-- what holds over the section's lines holds over those of the first section
pub over_first : (P : List TextLine → Type 0) (lines : List TextLine) (section : Section) → section ≡ machine_section lines → P (section_lines lines section) → P (machine_lines lines)
over_first P lines section is holds = subst (λ (s : Section). P (section_lines lines s)) is holds
