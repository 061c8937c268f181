-- The step lines after a netlist: one word of as many bits as the netlist has inputs, or `.` where it has none.
use Rattle.std.specs.Prelude.{ℕ, ◌==◌, Bool, not, ◌&&◌, ◌||◌, if◌then◌else◌, List, [], ◌∷◌, codes, length, map, Option, None, Some}
use Rattle.std.specs.List.{list_all}
use Rattle.std.specs.Str.{bytes_eq}
use Rattle.tsc_text.specs.TextLine.{TextLine, the_word}

-- the character is `0` or `1`
abbrev pub is_bit : ℕ → Bool
is_bit character = character == 48 || character == 49

-- the bit that a character stands for: `1` is true, any other is false
abbrev pub bit_of : ℕ → Bool
bit_of character = character == 49

-- the word is one step's input bits
abbrev pub is_step_word : ℕ → List ℕ → Bool
is_step_word inputs word =
    if inputs == 0 then bytes_eq word (codes ".") else (length word == inputs && list_all is_bit word)

-- the line is a step's; a plan line is none
abbrev pub is_step_line : ℕ → TextLine → Bool
is_step_line inputs line = (not line.is_plan && length line.words == 1) && is_step_word inputs (the_word line 0)

-- the number of the first of these lines that is no step's
abbrev pub first_misshapen : ℕ → List TextLine → Option ℕ
first_misshapen inputs [] = None
first_misshapen inputs (line ∷ lines) = if is_step_line inputs line then first_misshapen inputs lines else Some line.number

-- the input bits of a step, the first input first
abbrev pub step_bits : ℕ → TextLine → List Bool
step_bits inputs line = if inputs == 0 then [] else map bit_of (the_word line 0)

-- the input bits of all steps
abbrev pub all_steps : ℕ → List TextLine → List (List Bool)
all_steps inputs lines = map (step_bits inputs) lines
