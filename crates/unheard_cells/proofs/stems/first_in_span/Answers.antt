use Rattle.std.proofs.Common.{ℕ, ◌≤◌, false, true, Option, sym, subst}
use Rattle.lane_sim.specs.First.{IsFirstIn}
use Rattle.lane_sim.specs.Points.{PointsState}
use Rattle.unheard_cells.specs.There.{IsFirstHeld, IsUnheardThere}
use Rattle.unheard_cells.specs.declared.stems.HeldStem.{HeldStem}
use Rattle.unheard_cells.proofs.CellLemmas.{first_held}
use Rattle.unheard_cells.proofs.WatchLemmas.{bound_inside}
use Rattle.unheard_cells.proofs.stems.first_in_span.Goals as goal

pub first_of_stem-high-requires-clause-many : goal.first_of_stem-high-requires-clause-many
first_of_stem-high-requires-clause-many c =
    let N = c.args.net.now.circuit in
    subst (λ (n : ℕ). n ≤ 1024) (sym c.unwrap_or-bound.ensures)
    (bound_inside (IsUnheardThere N c.args.plan.now c.args.trial.now.points c.args.cell.number false) 1024 c.args.many c.first_of_stem-low.result c.requires.many c.first_of_stem-low.ensures.first)

pub returns-clause-first : goal.returns-clause-first
returns-clause-first c =
    let N = c.args.net.now.circuit in
    let P = c.args.plan.now in
    let points = c.args.trial.now.points in
    let cell = c.args.cell.number in
    let many = c.args.many in
    let high = c.first_of_stem-high.result in
    let second = subst (λ (n : ℕ). IsFirstIn (IsUnheardThere N P points cell true) 0 n high) c.unwrap_or-bound.ensures
    (subst (λ (s : PointsState). IsFirstIn (IsUnheardThere N P s cell true) 0 c.unwrap_or-bound.result high) c.first_of_stem-low.ensures.points c.first_of_stem-high.ensures.first) in
    subst (λ (at : Option HeldStem). IsFirstHeld (IsUnheardThere N P points cell) many at) (sym c.earlier.ensures.earlier)
    (first_held (IsUnheardThere N P points cell) many c.first_of_stem-low.result high c.first_of_stem-low.ensures.first second)
