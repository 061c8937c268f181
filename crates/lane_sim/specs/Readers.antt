-- The readers of each net: the places of the evaluation order whose nodes read it, in a chain of its own.
use Rattle.std.specs.Prelude.{◌≡◌, ℕ, ◌+◌, ◌<◌, ◌≤◌, Bool, true, List, length, slice_index, slice_index_or}
use Rattle.fault_secure.specs.Circuit.{Circuit, nets}
use Rattle.tsc_net.specs.Order.{fan_ins, evaluation_order, place_in}
use Rattle.lane_rows.specs.Alive.{reads_net}
use Rattle.lane_sim.specs.Lanes.{lane_bit}
use Rattle.lane_sim.specs.declared.readers.Reader.{Reader}
use Rattle.lane_sim.specs.declared.readers.Readers.{Readers}
use Rattle.lane_sim.specs.declared.place_set.PlaceSet.{PlaceSet}

-- the place is marked
abbrev pub has : PlaceSet → ℕ → Bool
has set place = lane_bit set.words.items place

-- the reader beyond a list's end
abbrev pub no_reader : Reader
no_reader = record { place = 0; next = 0 }

abbrev pub reader_at : List Reader → ℕ → Reader
reader_at list i = slice_index_or list i no_reader

-- the place is one of the chain that begins with the reader before a number; no chain begins at 0
pub data IsOnChain (list : List Reader) (place : ℕ) : ℕ → Type 0 where
  here : (from i : ℕ) → i < length list → from ≡ i + 1 → (reader_at list i).place ≡ place → IsOnChain list place from
  later : (from i : ℕ) → i < length list → from ≡ i + 1 → IsOnChain list place (reader_at list i).next → IsOnChain list place from

-- chains begin in the list, each reader's next one stands before it, and the places are some of the first
pub record AreChains (heads : List ℕ) (list : List Reader) (places : ℕ) : Type 0 where
  pub starts : (net : ℕ) → slice_index heads net ≤ length list
  pub nexts : (i : ℕ) → i < length list → (reader_at list i).next ≤ i
  pub below : (i : ℕ) → i < length list → (reader_at list i).place < places

-- each of the first places whose node reads a net is on that net's chain
abbrev pub HaveReaders : Circuit → List ℕ → List Reader → ℕ → Type 0
HaveReaders C heads list places =
    (place net : ℕ) → place < places → reads_net C net (slice_index (evaluation_order (fan_ins C)) place) ≡ true → IsOnChain list place (slice_index heads net)

-- the readers of a circuit's nets, and the place of each node
pub record AreReaders (C : Circuit) (readers : Readers) : Type 0 where
  pub sized : length readers.heads.items ≡ nets C
  pub chains : AreChains readers.heads.items readers.list.items (length C.nodes)
  pub each : HaveReaders C readers.heads.items readers.list.items (length C.nodes)
  pub many : length readers.places.items ≡ length C.nodes
  pub places : (j : ℕ) → j < length C.nodes → slice_index readers.places.items j ≡ place_in (evaluation_order (fan_ins C)) j
