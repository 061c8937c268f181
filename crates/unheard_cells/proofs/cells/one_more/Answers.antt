use Rattle.std.proofs.Common.{ℕ, ◌+◌, ◌≤◌, Option, sym, subst}
use Rattle.lane_sim.specs.Points.{PointsState}
use Rattle.unheard_cells.specs.There.{point_or, CellUnheardThere, IsUnheardThere, IsFirstHeld, IsLeastCell}
use Rattle.unheard_cells.specs.declared.cells.FoundCell.{FoundCell}
use Rattle.unheard_cells.proofs.CellLemmas.{held_cell, more_cells, found_inside}
use Rattle.unheard_cells.proofs.cells.one_more.Goals as goal

pub first_of_cell-at-requires-clause-many : goal.first_of_cell-at-requires-clause-many
first_of_cell-at-requires-clause-many c =
    subst (λ (n : ℕ). n ≤ 1024) (sym c.point_or-bound.ensures.point)
    (found_inside (CellUnheardThere c.args.net.now.circuit c.args.plan.now c.args.trial.now.points) c.args.cell.number c.args.many c.args.found c.requires.many c.requires.found)

pub returns-clause-least : goal.returns-clause-least
returns-clause-least c =
    let N = c.args.net.now.circuit in
    let P = c.args.plan.now in
    let old = c.args.trial.now.points in
    let cell = c.args.cell in
    let many = c.args.many in
    let found = c.args.found in
    let at = c.first_of_cell-at.result in
    let first = subst (λ (n : ℕ). IsFirstHeld (IsUnheardThere N P old cell.number) n at) c.point_or-bound.ensures.point c.first_of_cell-at.ensures.first in
    let least = more_cells (CellUnheardThere N P old) cell many found at c.requires.found (held_cell N P old cell.number (point_or found many) at c.requires.cell first) in
    subst (λ (s : PointsState). IsLeastCell (CellUnheardThere N P s) (cell.number + 1) many c.found_more.result) (sym c.first_of_cell-at.ensures.points)
    (subst (λ (it : Option FoundCell). IsLeastCell (CellUnheardThere N P old) (cell.number + 1) many it) (sym c.found_more.ensures.found) least)
