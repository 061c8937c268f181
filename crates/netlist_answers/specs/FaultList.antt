-- The fault list: one line per listed fault of a netlist, and their number.
use Rattle.std.specs.Prelude.{ℕ, zero, suc, ◌+◌, Bool, List, [], ◌∷◌, ◌++◌, codes, length}
use Rattle.std.specs.Fmt.{decimal}
use Rattle.std.specs.List.{flat_map}
use Rattle.fault_secure.specs.Listed.{listed_faults}
use Rattle.tsc_net.specs.Names.{text_at}
use Rattle.tsc_net.specs.NetlistOf.{NetlistOf}
use Rattle.fault_secure.specs.StuckAt.{StuckAt, NoFault, Stem, Pin}
use Rattle.blif_write.specs.Layout.{bit_character}

-- a blank and the held value
abbrev pub held_end : Bool → List ℕ
held_end held = 32 ∷ bit_character held ∷ []

-- `stem NET V`
abbrev pub stem_words : List ℕ → Bool → List ℕ
stem_words net held = codes "stem " ++ (net ++ held_end held)

-- `pin NET INDEX V`
abbrev pub pin_words : List ℕ → ℕ → Bool → List ℕ
pin_words net index held = codes "pin " ++ (net ++ (32 ∷ (decimal index ++ held_end held)))

-- a fault in words, where these are the names of the nets
abbrev pub fault_words : List (List ℕ) → StuckAt → List ℕ
fault_words names NoFault = []
fault_words names (Stem net held) = stem_words (text_at names net) held
fault_words names (Pin driver index held) = pin_words (text_at names driver) index held

-- the line of a fault
abbrev pub fault_line : List (List ℕ) → StuckAt → List ℕ
fault_line names fault = fault_words names fault ++ 10 ∷ []

-- `total COUNT`
abbrev pub total_line : ℕ → List ℕ
total_line count = codes "total " ++ (decimal count ++ 10 ∷ [])

-- the line of each listed fault, in order, and their number
abbrev pub fault_list : NetlistOf → List ℕ
fault_list net =
    flat_map (fault_line net.names) (listed_faults net.circuit) ++ total_line (length (listed_faults net.circuit))

-- the lines of both faults of the stem of a net with this name
abbrev pub stem_lines : List ℕ → List ℕ
stem_lines net = codes "stem " ++ (net ++ (codes " 0" ++ 10 ∷ (codes "stem " ++ (net ++ (codes " 1" ++ 10 ∷ [])))))

-- the lines of both faults of a pin
abbrev pub pin_lines : List ℕ → ℕ → List ℕ
pin_lines net index =
    codes "pin " ++ (net ++ (32 ∷ (decimal index ++ (codes " 0" ++ 10 ∷ (codes "pin " ++ (net ++ (32 ∷ (decimal index ++ (codes " 1" ++ 10 ∷ [])))))))))

-- the lines of the faults of so many pins from number `pin` on
abbrev pub pins_lines : List ℕ → ℕ → ℕ → List ℕ
pins_lines net pin zero = []
pins_lines net pin (suc pins) = pin_lines net pin ++ pins_lines net (pin + 1) pins

-- the lines of the faults of a latch or node that drives a net with this name and has so many pins
abbrev pub driver_lines : List ℕ → ℕ → List ℕ
driver_lines net pins = stem_lines net ++ pins_lines net 0 pins
