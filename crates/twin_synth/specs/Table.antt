-- Tables of numbers: for each net of a source the net that stands for it in one copy of what is kept of the source.
use Rattle.std.specs.Prelude.{◌≡◌, ℕ, ◌+◌, ◌<◌, List, length, slice_index}
use Rattle.fault_secure.specs.Circuit.{Circuit, latch_net, node_net, nets}

-- an input stands for itself, the kept registers are numbered from one net on, and the kept covers from another. Of other nets nothing is said
pub record IsTable (C : Circuit) (registers covers : List ℕ) (first_register first_cover : ℕ) (numbers : List ℕ) : Type 0 where
  pub sized : length numbers ≡ nets C
  pub inputs : (i : ℕ) → i < C.inputs → slice_index numbers i ≡ i
  pub registers_at : (k : ℕ) → k < length registers → slice_index numbers (latch_net C (slice_index registers k)) ≡ first_register + k
  pub covers_at : (k : ℕ) → k < length covers → slice_index numbers (node_net C (slice_index covers k)) ≡ first_cover + k

-- the table of a twin's own copy, and that of the second
abbrev pub IsOwnTable : Circuit → List ℕ → List ℕ → List ℕ → Type 0
IsOwnTable C registers covers numbers = IsTable C registers covers C.inputs (C.inputs + (length registers + length registers)) numbers

abbrev pub IsCopiedTable : Circuit → List ℕ → List ℕ → List ℕ → Type 0
IsCopiedTable C registers covers numbers =
    IsTable C registers covers (C.inputs + length registers) (C.inputs + (length registers + length registers) + length covers) numbers
