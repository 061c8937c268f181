-- Parts of a machine's netlist as they begin: the names of inputs and outputs, the inputs, and the latches.
use Rattle.std.specs.Prelude.{◌≡◌, ℕ, ◌+◌, ◌-◌, ◌*◌, List, [], ◌++◌, codes, map, take, length, None}
use Rattle.std.specs.Fn.{iterate}
use Rattle.std.specs.List.{range_with_len}
use Rattle.tsc_bits.specs.Bits.{bit_worth}
use Rattle.tsc_net.specs.Named.{NamedLatch}
use Rattle.tsc_net.specs.Names.{text_at}
use Rattle.tsc_net.specs.Parts.{PartsOf, with_fresh, fresh_text, free_number}
use Rattle.state_code.specs.Words.{IsLeastWeight, state_words}
use Rattle.state_code.specs.declared.words.StateCode.{StateCode}

-- the parts with some more names
abbrev pub with_names : PartsOf → List (List ℕ) → PartsOf
with_names p texts = record p { names = p.names ++ texts }

-- the parts whose inputs are the first names, so many of them
abbrev pub with_inputs : PartsOf → ℕ → PartsOf
with_inputs p count = let N = p.named in record p { named = record N { inputs = take count p.names } }

-- the latch at a place of so many, over names of which those from number `first` on are what the latches give and as many after
-- them what they read. It holds its bit of the word, whose most significant one is the first latch's
abbrev pub latch_at : List (List ℕ) → ℕ → ℕ → ℕ → ℕ → NamedLatch
latch_at names first count word place = record { reads = text_at names (first + count + place); out = text_at names (first + place); init = bit_worth (count - 1 - place) word }

-- the parts with the first latches of so many
abbrev pub with_latches : PartsOf → ℕ → ℕ → ℕ → ℕ → PartsOf
with_latches p first count word places =
    let N = p.named in record p { named = record N { latches = N.latches ++ map (latch_at p.names first count word) (range_with_len 0 places) } }

-- the parts with the model's name, the names of inputs and outputs, and the inputs
abbrev pub shown_parts : List (List ℕ) → List (List ℕ) → PartsOf
shown_parts inputs outputs = record { names = inputs ++ outputs; named = record { model = codes "machine"; inputs = inputs; outputs = []; latches = []; nodes = [] }; fresh = None }

-- the parts of a machine's netlist before gates are written: so many fresh names come, and the latches, which give the first fresh
-- names and read the next ones
abbrev pub machine_parts : List (List ℕ) → List (List ℕ) → ℕ → ℕ → ℕ → PartsOf
machine_parts inputs outputs count word fresh = with_latches (iterate with_fresh fresh (shown_parts inputs outputs)) (length inputs + length outputs) count word count

-- the text of the fresh name with this count
abbrev pub fresh_at : List (List ℕ) → List (List ℕ) → ℕ → List ℕ
fresh_at inputs outputs count = fresh_text (free_number (inputs ++ outputs)) count

-- the names of the places after the outputs: the fresh ones after those of the latches for the checks, and what the latches read
abbrev pub hidden_texts : List (List ℕ) → List (List ℕ) → ℕ → ℕ → List (List ℕ)
hidden_texts inputs outputs latches checks =
    map (fresh_at inputs outputs) (range_with_len (2 * latches) checks) ++ map (fresh_at inputs outputs) (range_with_len latches latches)

-- the words are those of so many states
pub record IsCodeOf (states : ℕ) (code : StateCode) : Type 0 where
  pub half : code.n ≡ 2 * code.m
  pub least : IsLeastWeight states code.m
  pub width : code.words.width ≡ code.n
  pub words : code.words.words ≡ state_words code.n code.m states
