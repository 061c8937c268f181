-- Rows of a checker's gates, over those of the word.
use Rattle.std.specs.Prelude.{◌≡◌, ℕ, ◌<◌, List, length, slice_index, slice_index_or}
use Rattle.code_checkers.specs.declared.gate.CheckGate.{CheckGate}
use Rattle.code_checkers.specs.declared.gate.CheckGate.TheVariants as gate
use Rattle.code_checkers.specs.Signal.{Signal}
use Rattle.code_checkers.specs.Gates.{signal_at}
use Rattle.diagrams.specs.Cofactors.{Function}
use Rattle.diagrams.specs.Building.{DiagramState, StandsFor}
use Rattle.wide_diagrams.specs.Stated.{signal_function}

-- the first so many rows are those of the first signals over the word's functions
abbrev pub SignalsStand : DiagramState → List Function → List Signal → ℕ → List ℕ → Type 0
SignalsStand state ws signals n rows = (k : ℕ) → k < n → StandsFor state (signal_function ws (signal_at signals k)) (slice_index rows k)

-- a gate that is a place of the word is one of so many
abbrev pub IsPlaceBelow : ℕ → CheckGate → Type 0
IsPlaceBelow n g = (place : ℕ) → g ≡ gate.Word place → place < n

-- the gates read only so many places of the word
abbrev pub ReadPlacesBelow : ℕ → List CheckGate → Type 0
ReadPlacesBelow n gates = (k : ℕ) → k < length gates → IsPlaceBelow n (slice_index_or gates k (gate.Word 0))
