-- First-fit groups of outputs that share no cell through registers.
use Rattle.std.specs.Prelude.{◌≡◌, ℕ, ◌<◌, ◌↔◌, Bool, List, length, slice_index, IsTrue}
use Rattle.fault_secure.specs.Circuit.{Circuit}
use Rattle.fault_secure.specs.FailingCell.{IsCell}
use Rattle.parity_code.specs.FirstFit.{first_fit}
use Rattle.register_laws.specs.RegisterStructure.{Reaches}

-- two nets that some cell reaches both, at whatever steps. An input is no cell: nets that share inputs alone have none in common
pub record HaveCommonCell (C : Circuit) (a b : ℕ) : Type 0 where
  pub cell : ℕ
  pub is_cell : IsCell C cell
  pub first : Reaches C cell a
  pub second : Reaches C cell b

-- in their order, each output joins the first group with no member that has a common cell with it, else it opens a group
pub record AreRegisterGroups (C : Circuit) (groups : List (List ℕ)) : Type 0 where
  pub shares : ℕ → ℕ → Bool
  pub exact : (a b : ℕ) → a < length C.outputs → b < length C.outputs
      → IsTrue (shares a b) ↔ HaveCommonCell C (slice_index C.outputs a) (slice_index C.outputs b)
  pub fit : groups ≡ first_fit shares (length C.outputs)
