-- Why a text has no lines.
use Rattle.std.specs.Prelude.{◌≡◌, List, ℕ, Some}
use Rattle.tsc_text.specs.declared.error.TextError.{TextError}
use Rattle.tsc_text.specs.declared.error.TextError.TheVariants.{BadByte, Memory}
use Rattle.tsc_text.specs.Bytes.{bad_line}

-- why a text has no lines: a byte that it may not hold stands first in this physical line, or memory was missing
abbrev pub Refuses : List ℕ → TextError → Type 0
Refuses text (BadByte line) = bad_line text ≡ Some line
Refuses text (Memory _) = Unit {0}
