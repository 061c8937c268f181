-- Netlists by names that nothing refuses: their nodes have ranks, so that no ring is among them.
use Rattle.std.specs.Prelude.{◌≡◌, ℕ, ◌<◌, ◌⊎◌, true, List, [], ◌++◌, map, length, slice_index_or, All, Contains}
use Rattle.tsc_net.specs.Named.{Named, latch_outs, node_outs}
use Rattle.tsc_net.specs.Names.{text_at, has_text, IsNumbering}
use Rattle.tsc_net.specs.NetlistOf.{drivers}
use Rattle.tsc_net.specs.declared.net_error.NetError.{NetError}
use Rattle.tsc_net.specs.declared.net_error.NetError.TheVariants.{Memory}

-- the names at the pins of the node at a place
abbrev pub pins_at : Named → ℕ → List (List ℕ)
pins_at N k = slice_index_or (map (λ n. n.reads) N.nodes) k []

-- the name is an input or what a latch gives, or a node of a lower rank than this one drives it
abbrev pub IsLower : Named → (ℕ → ℕ) → ℕ → List ℕ → Type 0
IsLower N rank k text = Contains (N.inputs ++ latch_outs N) text ⊎ ((j : ℕ) × (j < length N.nodes) × (rank j < rank k) × (text_at (node_outs N) j ≡ text))

-- nothing is driven or shown twice, there is an output, what outputs show and latches read is driven, and each node reads
-- inputs, what latches give, and what nodes of lower rank drive
pub record IsSound (N : Named) : Type 0 where
  pub driven_once : IsNumbering (drivers N)
  pub shown_once : IsNumbering N.outputs
  pub some_output : 0 < length N.outputs
  pub outputs : All (λ text. has_text (drivers N) text ≡ true) N.outputs
  pub latches : All (λ l. has_text (drivers N) l.reads ≡ true) N.latches
  pub rank : ℕ → ℕ
  pub pins : (k pin : ℕ) → k < length N.nodes → pin < length (pins_at N k) → IsLower N rank k (text_at (pins_at N k) pin)

-- the error is want of memory
abbrev pub IsMemory : NetError → Type 0
IsMemory (Memory error) = Unit {0}
IsMemory _ = ⊥
