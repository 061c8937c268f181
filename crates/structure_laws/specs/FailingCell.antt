-- Failing cells beside stuck-at faults: the statements of the laws.
use Rattle.std.specs.Prelude.{◌≡◌, ◌↔◌, ℕ, ◌<◌, Bool, List, length, IsTrue}
use Rattle.fault_secure.specs.Circuit.{Circuit, latch_net, bit}
use Rattle.fault_secure.specs.StuckAt.{StuckAt, Stem, is_listed, fault_cell}
use Rattle.fault_secure.specs.Settle.{Settles, Acyclic}
use Rattle.fault_secure.specs.Run.{Runs}
use Rattle.fault_secure.specs.FailingCell.{IsCell, SettlesBut, RunsBut, HasOneRunBut}

-- a step with a failing cell is one in which the cell's stem is held at the bit that it gives
abbrev pub CellsSettleAsHeldStems : Type 0
CellsSettleAsHeldStems = (N : Circuit) (cell : ℕ) (x s : ℕ → Bool) (v : List Bool) → IsCell N cell
    → SettlesBut N cell x s v ↔ Settles N (Stem cell (bit v cell)) x s v

-- in an acyclic circuit there is exactly one run for whatever bits a failing cell gives
abbrev pub OneRunButACell : Type 0
OneRunButACell = (N : Circuit) (cell : ℕ) (bits : List Bool) (xs : List (List Bool))
    → Acyclic N → IsCell N cell → length bits ≡ length xs → HasOneRunBut N cell bits xs

-- a step with a listed fault is one with that cell failing, whatever state bit a latch that fails had
abbrev pub ListedFaultsSettleBut : Type 0
ListedFaultsSettleBut = (N : Circuit) (f : StuckAt) (x s t : ℕ → Bool) (v : List Bool) → IsTrue (is_listed N f)
    → ((l : ℕ) → l < length N.latches → (latch_net N l ≡ fault_cell f → ⊥) → t l ≡ s l) → Settles N f x t v
    → IsCell N (fault_cell f) × SettlesBut N (fault_cell f) x s v

-- the valuations are a run over xs with one failing cell
pub record RunsWithFailingCell (N : Circuit) (xs us : List (List Bool)) : Type 0 where
  pub cell : ℕ
  pub is_cell : IsCell N cell
  pub runs : RunsBut N cell xs us

-- a run with a listed fault, present at any steps, is one with a failing cell
abbrev pub ListedFaultsAreFailingCells : Type 0
ListedFaultsAreFailingCells = (N : Circuit) (f : StuckAt) (w : List Bool) (xs us : List (List Bool))
    → IsTrue (is_listed N f) → Runs N f w xs us → RunsWithFailingCell N xs us

-- a run with a failing cell that no stuck-at fault makes, whatever steps it is present at
pub record FailsBeyondStuckAt (N : Circuit) (xs us : List (List Bool)) : Type 0 where
  pub failing : RunsWithFailingCell N xs us
  pub beyond : (f : StuckAt) (w : List Bool) → Runs N f w xs us → ⊥
