-- Single stuck-at faults: the stem of a net, or one pin of a node or a latch, held at a bit.
use Rattle.std.specs.Prelude.{ℕ, ◌+◌, ◌-◌, ◌==◌, nat_lt, nat_le, Bool, true, false, ◌&&◌, if◌then◌else◌, length}
use Rattle.fault_secure.specs.Circuit.{Circuit, node, nets}

-- no fault, or a single one: a stem or a pin that is held at a bit
pub data StuckAt : Type 0 where
  NoFault : StuckAt
  -- the net, wherever it is read, is held at the bit
  Stem : ℕ → Bool → StuckAt
  -- the pin with this index of the node or latch that drives the first net reads the bit, whatever its net has
  Pin : ℕ → ℕ → Bool → StuckAt

-- the bit that a net has: the held one where the fault is its stem
abbrev pub on_stem : StuckAt → ℕ → Bool → Bool
on_stem NoFault net b = b
on_stem (Stem at held) net b = if at == net then held else b
on_stem (Pin driver index held) net b = b

-- the bit that a pin reads: the held one where the fault is this pin
abbrev pub on_pin : StuckAt → ℕ → ℕ → Bool → Bool
on_pin NoFault driver index b = b
on_pin (Stem at held) driver index b = b
on_pin (Pin at place held) driver index b = if (at == driver) && (place == index) then held else b

-- how many pins the node or latch that drives a net has; an input has none
abbrev pub pins_of : Circuit → ℕ → ℕ
pins_of N net =
    if nat_lt net N.inputs then 0
    else if nat_lt net (N.inputs + length N.latches) then 1
    else length (node N (net - (N.inputs + length N.latches))).reads

-- the listed faults: both values of the stem of every net that is no input, and of every pin of every node and latch
abbrev pub is_listed : Circuit → StuckAt → Bool
is_listed N NoFault = false
is_listed N (Stem net held) = nat_le N.inputs net && nat_lt net (nets N)
is_listed N (Pin driver index held) = nat_lt driver (nets N) && nat_lt index (pins_of N driver)

-- the fault where it is present, none elsewhere
abbrev pub present : Bool → StuckAt → StuckAt
present true f = f
present false f = NoFault

-- the net of the cell at which a fault is: its stem, or what drives it has the fault's pin
abbrev pub fault_cell : StuckAt → ℕ
fault_cell NoFault = 0
fault_cell (Stem net held) = net
fault_cell (Pin driver index held) = driver
