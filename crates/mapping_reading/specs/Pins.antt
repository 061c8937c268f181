-- The pins of gates: which nets they may be at.
use Rattle.std.specs.Prelude.{◌≡◌, ℕ, ◌<◌, ◌||◌, true, List, length, slice_index_or}
use Rattle.fault_secure.specs.Circuit.{Circuit, node, pin_net, nets}
use Rattle.tsc_net.specs.Order.{has_place}
use Rattle.mapping_reading.specs.ReadMapping.{is_own, block_pins}

-- where nets went, as a table; a net past its end goes past all nets
abbrev pub at_of : Circuit → List ℕ → ℕ → ℕ
at_of G moved net = slice_index_or moved net (nets G)

-- the net at the pin is of the gate's own block, or at a pin of its cover
abbrev pub IsWellAt : Circuit → Circuit → (ℕ → ℕ) → (ℕ → ℕ) → ℕ → ℕ → Type 0
IsWellAt N G at block g pin = (is_own G block (block g) (pin_net G g pin) || has_place (block_pins N at (block g)) (pin_net G g pin)) ≡ true

-- each pin of the gates of blocks is well
abbrev pub AreWell : Circuit → Circuit → (ℕ → ℕ) → (ℕ → ℕ) → Type 0
AreWell N G at block = (g pin : ℕ) → g < length G.nodes → block g < length N.nodes → pin < length (node G g).reads → IsWellAt N G at block g pin

-- the first pin of a gate that isn't
pub record IsOpenAt (N G : Circuit) (at block : ℕ → ℕ) (g pin : ℕ) : Type 0 where
  pub has : pin < length (node G g).reads
  pub open_there : IsWellAt N G at block g pin → ⊥
  pub first : (earlier : ℕ) → earlier < pin → IsWellAt N G at block g earlier

-- the first gate that has one, and that pin
pub record IsFirstOpen (N G : Circuit) (at block : ℕ → ℕ) (g pin : ℕ) : Type 0 where
  pub inside : g < length G.nodes
  pub some : block g < length N.nodes
  pub here : IsOpenAt N G at block g pin
  pub first : (h p : ℕ) → h < g → block h < length N.nodes → p < length (node G h).reads → IsWellAt N G at block h p
