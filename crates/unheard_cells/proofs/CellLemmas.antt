-- The first point of a cell's two stems, and the least cell at the first point of some cells.
use Rattle.std.proofs.Common.{◌≡◌, ℕ, ◌+◌, ◌<◌, ◌≤◌, Bool, true, false, Option, Some, None, unwrap_or, subst, arith}
use Rattle.std.proofs.lemmas.Bool.{cases_lt}
use Rattle.std.proofs.Math.Logic.{⊎_elim}
use Rattle.fault_secure.specs.Circuit.{Circuit, nets}
use Rattle.fault_secure.specs.CodePlan.{CodePlan}
use Rattle.fault_secure.specs.FailingCell.{IsCell}
use Rattle.tsc_net.specs.declared.ids.NetId.{NetId}
use Rattle.lane_sim.specs.Points.{PointsState}
use Rattle.lane_sim.specs.First.{IsFirstIn}
use Rattle.unheard_cells.specs.There.{earlier, found_more, point_or, IsUnheardThere, CellUnheardThere, IsFirstHeld, IsLeastCell}
use Rattle.unheard_cells.specs.declared.stems.HeldStem.{HeldStem}
use Rattle.unheard_cells.specs.declared.cells.FoundCell.{FoundCell}

-- ---- the two stems of a cell

either : (E : Bool → ℕ → Type 0) (p : ℕ) → (E false p → ⊥) → (E true p → ⊥) → (held : Bool) → E held p → ⊥
either E p low high false e = low e
either E p low high true e = high e

pub first_held : (E : Bool → ℕ → Type 0) (many : ℕ) (low high : Option ℕ) → IsFirstIn (E false) 0 many low → IsFirstIn (E true) 0 (unwrap_or low many) high
    → IsFirstHeld E many (earlier low high)
first_held E many None None first second = λ held p below. either E p (first p (omega arith) below) (second p (omega arith) below) held
first_held E many (Some a) None first second =
    (first.1, first.2, λ held p less. either E p (first.3 p (omega arith) less) (second p (omega arith) less) held)
first_held E many None (Some b) first second =
    (second.1, second.2, λ held p less. either E p (first p (omega arith) (let inside = second.1 in omega arith)) (second.3 p (omega arith) less) held)
first_held E many (Some a) (Some b) first second =
    let inside : a < many = first.1 in
    let before : b < a = second.1 in
    (omega arith, second.2, λ held p less. either E p (first.3 p (omega arith) (omega arith)) (second.3 p (omega arith) less) held)

-- of a cell alone
pub held_cell : (N : Circuit) (P : CodePlan) (points : PointsState) (cell many : ℕ) (at : Option HeldStem) → IsCell N cell → IsFirstHeld (IsUnheardThere N P points cell) many at
    → IsFirstHeld (CellUnheardThere N P points cell) many at
held_cell N P points cell many None is first = λ held p below e. first held p below e.1
held_cell N P points cell many (Some at) is first = (first.0, (is, first.1), λ held p less e. first.2 held p less e.1)

-- ---- one more cell

module _ (E : ℕ → Bool → ℕ → Type 0) where
  below_or_here : (cell c : ℕ) (held : Bool) (p : ℕ) → c < cell + 1 → (c < cell → E c held p → ⊥) → (E cell held p → ⊥) → E c held p → ⊥
  below_or_here cell c held p below before here e = ⊎_elim
      (λ (less : c < cell). before less e)
      (λ (more : cell ≤ c). (let same : c ≡ cell = omega arith in here (subst (λ (n : ℕ). E n held p) same e)))
      (cases_lt c cell)

  pub more_cells : (cell : NetId) (many : ℕ) (found : Option FoundCell) (at : Option HeldStem) → IsLeastCell E cell.number many found
      → IsFirstHeld (E cell.number) (point_or found many) at → IsLeastCell E (cell.number + 1) many (found_more cell found at)
  more_cells cell many None None least first = λ c held p below inside.
      below_or_here cell.number c held p below (λ less. least c held p less inside) (first held p inside)
  more_cells cell many (Some found) None least first =
      let before : found.cell.number < cell.number = least.0 in (
        omega arith,
        least.1,
        least.2,
        (λ c held p below less. below_or_here cell.number c held p below (λ less_cell. least.3 c held p less_cell less) (first held p less)),
        least.4,
      )
  more_cells cell many None (Some at) least first =
      let inside : at.point < many = first.0 in (
        omega arith,
        inside,
        first.1,
        (λ c held p below less. below_or_here cell.number c held p below (λ less_cell. least c held p less_cell (omega arith)) (first.2 held p less)),
        λ c held less_cell. least c held at.point less_cell inside,
      )
  more_cells cell many (Some found) (Some at) least first =
      let inside : found.point < many = least.1 in
      let before : at.point < found.point = first.0 in (
        omega arith,
        omega arith,
        first.1,
        (λ c held p below less. below_or_here cell.number c held p below (λ less_cell. least.3 c held p less_cell (omega arith)) (first.2 held p less)),
        λ c held less_cell. least.3 c held at.point less_cell before,
      )

-- ---- all cells

-- no cell's net is an input
pub no_cell : (N : Circuit) (P : CodePlan) (points : PointsState) (many : ℕ) → IsLeastCell (CellUnheardThere N P points) N.inputs many None
no_cell N P points many = λ c held p below inside e. (let past = e.0.no_input in omega arith)

pub all_cells : (N : Circuit) (P : CodePlan) (points : PointsState) (past many : ℕ) (found : Option FoundCell) → nets N ≤ past
    → IsLeastCell (CellUnheardThere N P points) past many found → IsLeastCell (CellUnheardThere N P points) (nets N) many found
all_cells N P points past many None all least = λ c held p below inside. least c held p (omega arith) inside
all_cells N P points past many (Some found) all least = (
  least.2.0.inside,
  least.1,
  least.2,
  (λ c held p below less. least.3 c held p (omega arith) less),
  least.4,
)

-- what was found stands below the bound
pub found_inside : (E : ℕ → Bool → ℕ → Type 0) (past many : ℕ) (found : Option FoundCell) → many ≤ 1024 → IsLeastCell E past many found → point_or found many ≤ 1024
found_inside E past many None few least = few
found_inside E past many (Some found) few least = let inside = least.1 in omega arith
