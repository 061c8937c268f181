-- Batches of steps that settle at once.
use Rattle.std.specs.Prelude.{◌≡◌, ℕ, ◌+◌, ◌<◌, ◌≤◌, Bool, List, [], ◌++◌, All, drop, length, slice_index_or}
use Rattle.fault_sim.specs.Sim.{SimState}
use Rattle.sim_text.specs.Tables.{AreTablesOf, HaveRoom}
use Rattle.sim_text.specs.declared.batches.Batch.{Batch}

-- the list of bits is as long as that of each step
abbrev pub FitsEach : List (List Bool) → List Bool → Type 0
FitsEach xs bits = (step : ℕ) → step < length xs → length bits ≡ length (slice_index_or xs step [])

-- it has lists for the input bits of steps, and tables with room for these
pub record IsBatchFor (sim : SimState) (batch : Batch) : Type 0 where
  pub sized : All (λ input. length input ≡ sim.bench.circuit.inputs) batch.inputs
  pub room : HaveRoom sim (length batch.inputs) batch.tables

-- it has the steps from the place `first` on, as many as there are or as settle at once, and their tables
pub record IsBatchAt (sim : SimState) (xs : List (List Bool)) (first : ℕ) (batch : Batch) : Type 0 where
  pub within : first + length batch.inputs ≤ length xs
  pub are : drop first xs ≡ batch.inputs ++ drop (first + length batch.inputs) xs
  pub tables : AreTablesOf sim 1 batch.inputs batch.tables
