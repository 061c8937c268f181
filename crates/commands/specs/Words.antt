-- Words by position, those of the commands without parts, and the names of the ways of synthesis.
use Rattle.std.specs.Prelude.{ℕ, Bool, ◌&&◌, ◌==◌, if◌then◌else◌, List, [], length, slice_index_or, codes, nat_le, Option, None, Some, option_and_then}
use Rattle.std.specs.Str.{bytes_eq}
use Rattle.tsc_text.specs.Number.{number_of}
use Rattle.fault_secure.specs.declared.code.Code.{Code}
use Rattle.fault_secure.specs.declared.code.Code.TheVariants.{Berger, MOutOfN}
use Rattle.synth_ways.specs.declared.way.Way.{Way}
use Rattle.synth_ways.specs.declared.way.Way.TheVariants as way
use Rattle.commands.specs.declared.source_format.SourceFormat.{SourceFormat}
use Rattle.commands.specs.declared.source_format.SourceFormat.TheVariants.{Blif, Kiss, Pla}
use Rattle.commands.specs.declared.machine_code.MachineCode.{MachineCode}
use Rattle.commands.specs.declared.machine_code.MachineCode.TheVariants.{Berger as BergerCode, MOutOfN as MOutOfNCode}

-- the word at a place
abbrev pub word_at : List (List ℕ) → ℕ → List ℕ
word_at words place = slice_index_or words place []

-- the word at a place is this text
abbrev pub word_is : List (List ℕ) → ℕ → List ℕ → Bool
word_is words place text = bytes_eq (word_at words place) text

-- the word is this
abbrev pub is_only : List (List ℕ) → List ℕ → Bool
is_only words first = length words == 1 && word_is words 0 first

-- the words are these two
abbrev pub are_two : List (List ℕ) → List ℕ → List ℕ → Bool
are_two words first second = length words == 2 && (word_is words 0 first && word_is words 1 second)

-- there are three words, and the first are these two
abbrev pub begin_so : List (List ℕ) → List ℕ → List ℕ → Bool
begin_so words first second = length words == 3 && (word_is words 0 first && word_is words 1 second)

-- the way of synthesis that a word names
abbrev pub way_named : List ℕ → Option Way
way_named word =
    if bytes_eq word (codes "parity") then Some way.Parity
    else if bytes_eq word (codes "duplex") then Some way.Duplex
    else if bytes_eq word (codes "berger") then Some way.Berger
    else if bytes_eq word (codes "mofn") then Some way.MOutOfN
    else None

-- a number of rows that a wide audit may use: from 2 to 4,194,304
abbrev pub within_rows : ℕ → Option ℕ
within_rows rows = if nat_le 2 rows && nat_le rows 4194304 then Some rows else None

-- the one that a word names
abbrev pub rows_named : List ℕ → Option ℕ
rows_named word = option_and_then within_rows (number_of word)

-- the format of a source that a word names
abbrev pub format_named : List ℕ → Option SourceFormat
format_named word =
    if bytes_eq word (codes "blif") then Some Blif
    else if bytes_eq word (codes "kiss") then Some Kiss
    else if bytes_eq word (codes "pla") then Some Pla
    else None

-- there are two words, and the first is `make`
abbrev pub is_make : List (List ℕ) → Bool
is_make words = length words == 2 && word_is words 0 (codes "make")

-- the code of a machine's netlist that a word names
abbrev pub machine_code_named : List ℕ → Option MachineCode
machine_code_named word =
    if bytes_eq word (codes "berger") then Some BergerCode
    else if bytes_eq word (codes "mofn") then Some MOutOfNCode
    else None

-- it is one of the codes
abbrev pub code_of : MachineCode → Code
code_of BergerCode = Berger
code_of MOutOfNCode = MOutOfN
