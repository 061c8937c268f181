-- Plan lines without a fault, as far as the plan needs it.
use Rattle.std.specs.Prelude.{◌≡◌, ℕ, ◌≤◌, true, List, [], ◌∷◌, length}
use Rattle.tsc_text.specs.TextLine.{TextLine, the_word}
use Rattle.blif_read.specs.PlanLines.{is_bits}
use Rattle.blif_read.specs.PlanText.{kind_in_plan}
use Rattle.blif_read.specs.declared.plan_lines.PlanKind.{PlanKind}
use Rattle.blif_read.specs.declared.plan_lines.PlanKind.TheVariants.{GroupLine, StateLine}

-- a group has an output, a state only bits
abbrev pub IsPlannedAt : PlanKind → TextLine → Type 0
IsPlannedAt GroupLine line = 3 ≤ length line.words
IsPlannedAt StateLine line = is_bits (the_word line 1) ≡ true
IsPlannedAt _ line = Unit {0}

abbrev pub ArePlanned : List TextLine → Type 0
ArePlanned [] = Unit {0}
ArePlanned (line ∷ lines) = IsPlannedAt (kind_in_plan line) line × ArePlanned lines

-- each word has that many characters
abbrev pub AreWide : ℕ → List (List ℕ) → Type 0
AreWide width [] = Unit {0}
AreWide width (word ∷ words) = (length word ≡ width) × AreWide width words
