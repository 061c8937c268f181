-- What the refusal of a section is, part by part.
use Rattle.std.proofs.Common.{◌≡◌, ℕ, Option, Some, sym, ap, ◌∙◌}
use Rattle.table_lines.specs.declared.cause.Cause.{Cause}
use Rattle.table_lines.specs.declared.cause.LineFault.{LineFault}
use Rattle.kiss_read.specs.Refusal.{cause_refusal, refusal_of_line, IsRefusedBy}
use Rattle.kiss_read.specs.declared.error.KissError.{KissError}
use Rattle.kiss_read.specs.declared.error.KissError.TheVariants.{Header, Unsupported, RowShape, Limit, NoRows, NoReset, Conflict, Memory}

-- the section is refused by its refusal
pub refused_is : (refusal : Option KissError) (error : KissError) → refusal ≡ Some error → IsRefusedBy refusal error
refused_is refusal (Header line) e = e
refused_is refusal (Unsupported line) e = e
refused_is refusal (RowShape line) e = e
refused_is refusal (Limit line which) e = e
refused_is refusal NoRows e = e
refused_is refusal (NoReset line) e = e
refused_is refusal (Conflict earlier later) e = e
refused_is refusal (Memory error) e = tt

pub line_refused : (whole : Option LineFault) (line : ℕ) (why : Cause) (error : KissError) → whole ≡ Some (record { line = line; cause = why })
    → error ≡ cause_refusal line why → IsRefusedBy (refusal_of_line whole) error
line_refused whole line why error e f = refused_is (refusal_of_line whole) error (ap refusal_of_line e ∙ ap Some (sym f))
