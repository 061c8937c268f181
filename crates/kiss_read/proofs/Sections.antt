-- The first section of a text.
use Rattle.std.proofs.Common.{◌≡◌, ◌≤◌, not, List, length, sym, subst, arith}
use Rattle.std.specs.List.{position_or_len}
use Rattle.std.proofs.lemmas.List.Sums.{prefix_len-le-length}
use Rattle.tsc_text.specs.TextLine.{TextLine}
use Rattle.tsc_text.specs.Section.{is_end_line, section_of, IsSectionOf}
use Rattle.tsc_text.specs.declared.section.End.TheVariants.{Kiss}
use Rattle.tsc_text.specs.declared.section.Section.{Section}

first_is_section : (lines : List TextLine) → IsSectionOf lines (section_of lines 0 Kiss)
first_is_section lines =
    let within : position_or_len (is_end_line Kiss) lines ≤ length lines = prefix_len-le-length (λ line. not (is_end_line Kiss line)) lines in
    record { order = omega arith; within = omega arith }

-- the first section is one of the lines
pub is_section : (lines : List TextLine) (section : Section) → section ≡ section_of lines 0 Kiss → IsSectionOf lines section
is_section lines section is = let P : Section → Type 0 = λ s. IsSectionOf lines s in subst P (sym is) (first_is_section lines)
