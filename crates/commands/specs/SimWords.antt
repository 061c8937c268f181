-- What the words of a simulation name: no fault, or a stem or a pin by its net's name, the value that it is held at, and when.
use Rattle.std.specs.Prelude.{ℕ, Bool, true, false, ◌&&◌, ◌||◌, ◌==◌, if◌then◌else◌, List, codes, length, Option, None, Some, option_and_then, option_map}
use Rattle.std.specs.Option.{is_some}
use Rattle.std.specs.Str.{bytes_eq}
use Rattle.tsc_text.specs.Number.{number_of}
use Rattle.commands.specs.declared.sim_words.SimFault.{SimFault}
use Rattle.commands.specs.declared.sim_words.SimFault.TheVariants.{NoFault, Stem, Pin}
use Rattle.commands.specs.WhenWords.{when_of}
use Rattle.commands.specs.Words.{word_at, word_is}

-- there are so many words, of which the first is `sim` and the second this
abbrev pub is_sim : List (List ℕ) → ℕ → List ℕ → Bool
is_sim words count kind = length words == count && (word_is words 0 (codes "sim") && word_is words 1 kind)

-- the value that a word names: `0` or `1`
abbrev pub held_of : List ℕ → Option Bool
held_of word = if bytes_eq word (codes "0") then Some false else if bytes_eq word (codes "1") then Some true else None

-- `sim stem NET V WHEN`
abbrev pub stem_of : List (List ℕ) → Option SimFault
stem_of words =
    option_and_then (λ held. option_map (λ spans. Stem (word_at words 2) held spans) (when_of (word_at words 4))) (held_of (word_at words 3))

-- `sim pin NET INDEX V WHEN`, with this index
abbrev pub pin_held : List (List ℕ) → ℕ → Option SimFault
pin_held words index =
    option_and_then (λ held. option_map (λ spans. Pin (word_at words 2) index held spans) (when_of (word_at words 5))) (held_of (word_at words 4))

-- `sim pin NET INDEX V WHEN`, with the index that the word names
abbrev pub pin_of : List (List ℕ) → Option SimFault
pin_of words = option_and_then (pin_held words) (number_of (word_at words 3))

-- the words have the form `sim stem NET V WHEN` or `sim pin NET INDEX V WHEN`, with a value, and at a pin an index that is a number:
-- only to read these may memory be missing
abbrev pub has_fault_form : List (List ℕ) → Bool
has_fault_form words =
    (is_sim words 5 (codes "stem") && is_some (held_of (word_at words 3)))
    || (is_sim words 6 (codes "pin") && (is_some (number_of (word_at words 3)) && is_some (held_of (word_at words 4))))

-- the fault of a simulation, where the words name one
abbrev pub sim_fault : List (List ℕ) → Option SimFault
sim_fault words =
    if is_sim words 2 (codes "none") then Some NoFault
    else if is_sim words 5 (codes "stem") then stem_of words
    else if is_sim words 6 (codes "pin") then pin_of words
    else None
