-- The kinds of the lines of a KISS2 text, by their first words.
use Rattle.std.specs.Prelude.{ℕ, Bool, true, false, if◌then◌else◌, List, codes}
use Rattle.std.specs.Str.{bytes_eq}
use Rattle.tsc_text.specs.TextLine.{TextLine, the_word}
use Rattle.tsc_text.specs.Bytes.{begins_with_dot}
use Rattle.kiss_read.specs.declared.kinds.LineKind.{LineKind}
use Rattle.kiss_read.specs.declared.kinds.LineKind.TheVariants.{PlanLine, Inputs, Outputs, Products, StateCount, Reset, InputNames, OutputNames, OtherDirective, Row}

-- the kind of a line with this first word that is no plan line
abbrev pub kind_of_word : List ℕ → LineKind
kind_of_word word =
    if bytes_eq word (codes ".i") then Inputs
    else (if bytes_eq word (codes ".o") then Outputs
    else (if bytes_eq word (codes ".p") then Products
    else (if bytes_eq word (codes ".s") then StateCount
    else (if bytes_eq word (codes ".r") then Reset
    else (if bytes_eq word (codes ".ilb") then InputNames
    else (if bytes_eq word (codes ".ob") then OutputNames
    else (if begins_with_dot word then OtherDirective else Row)))))))

-- the kind of a line
abbrev pub kind_of : TextLine → LineKind
kind_of line = if line.is_plan then PlanLine else kind_of_word (the_word line 0)

-- the two kinds are the same
abbrev pub same_kind : LineKind → LineKind → Bool
same_kind PlanLine PlanLine = true
same_kind Inputs Inputs = true
same_kind Outputs Outputs = true
same_kind Products Products = true
same_kind StateCount StateCount = true
same_kind Reset Reset = true
same_kind InputNames InputNames = true
same_kind OutputNames OutputNames = true
same_kind OtherDirective OtherDirective = true
same_kind Row Row = true
same_kind _ _ = false
