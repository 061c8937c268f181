-- The lines of a plan: their kinds by the first words, and their shape.
use Rattle.std.specs.Prelude.{ℕ, Bool, false, not, ◌&&◌, ◌||◌, ◌==◌, if◌then◌else◌, List, codes, length, nat_le}
use Rattle.std.specs.List.{list_all}
use Rattle.std.specs.Str.{bytes_eq}
use Rattle.tsc_text.specs.TextLine.{TextLine, the_word}
use Rattle.blif_read.specs.declared.plan_lines.PlanKind.{PlanKind}
use Rattle.blif_read.specs.declared.plan_lines.PlanKind.TheVariants.{CodeLine, GroupLine, CheckLine, StateLine, WatchLine, OtherLine}

-- the word is a version
abbrev pub is_version : List ℕ → Bool
is_version word = bytes_eq word (codes "1") || bytes_eq word (codes "2")

-- the word names a code
abbrev pub is_code : List ℕ → Bool
is_code word = bytes_eq word (codes "parity") || (bytes_eq word (codes "berger") || bytes_eq word (codes "mofn"))

-- the word has only the characters `0` and `1`
abbrev pub is_bits : List ℕ → Bool
is_bits word = list_all (λ character. character == 48 || character == 49) word

-- the kind of a plan line with this first word
abbrev pub plan_kind : List ℕ → PlanKind
plan_kind word =
    if is_version word then CodeLine
    else (if bytes_eq word (codes "group") then GroupLine
    else (if bytes_eq word (codes "check") then CheckLine
    else (if bytes_eq word (codes "state") then StateLine
    else (if bytes_eq word (codes "watch") then WatchLine else OtherLine))))

-- a plan line of this kind has its place and its words: the code line comes first and alone so, and has a code. A group has an output
-- and a check; checks have a name; a state has one word of bits
abbrev pub has_plan_shape : PlanKind → Bool → TextLine → Bool
has_plan_shape CodeLine has_plan line = not has_plan && (length line.words == 2 && is_code (the_word line 1))
has_plan_shape GroupLine has_plan line = has_plan && nat_le 3 (length line.words)
has_plan_shape CheckLine has_plan line = has_plan && nat_le 2 (length line.words)
has_plan_shape StateLine has_plan line = has_plan && (length line.words == 2 && is_bits (the_word line 1))
has_plan_shape WatchLine has_plan line = false
has_plan_shape OtherLine has_plan line = false

-- the same where something may be watched: a list of registers, and a check
abbrev pub has_any_shape : PlanKind → Bool → TextLine → Bool
has_any_shape WatchLine has_plan line = has_plan && nat_le 3 (length line.words)
has_any_shape kind has_plan line = has_plan_shape kind has_plan line
