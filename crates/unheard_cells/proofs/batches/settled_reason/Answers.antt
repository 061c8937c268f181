use Rattle.std.proofs.Common.{ℕ, ◌+◌, ◌-◌, ◌≤◌, ◌≡◌, Option, sym, ap, ◌∙◌, subst, arith}
use Rattle.fault_secure.specs.Circuit.{nets}
use Rattle.lane_sim.specs.Points.{PointsState}
use Rattle.unheard_cells.specs.There.{CellUnheardThere, IsFalseAlarmThere, IsLeastCell}
use Rattle.unheard_cells.specs.Trial.{reason_of, IsFirstAnswer}
use Rattle.unheard_cells.specs.declared.reason.PointReason.{PointReason}
use Rattle.unheard_cells.proofs.BatchLemmas.{batch_answer}
use Rattle.unheard_cells.proofs.WatchLemmas.{bound_inside, first_inside, cell_inside}
use Rattle.unheard_cells.proofs.batches.settled_reason.Goals as goal

pub first_of_cells-found-requires-clause-many : goal.first_of_cells-found-requires-clause-many
first_of_cells-found-requires-clause-many c =
    subst (λ (n : ℕ). n ≤ 1024) (sym c.unwrap_or-bound.ensures)
    (bound_inside (IsFalseAlarmThere c.args.net.now.circuit c.args.plan.now c.args.trial.now.points) 1024 (c.args.past - c.args.first) c.first_false_alarm-quiet.result (omega arith)
    c.first_false_alarm-quiet.ensures.first)

pub reason_of-requires-clause-quiet : goal.reason_of-requires-clause-quiet
reason_of-requires-clause-quiet c =
    first_inside (IsFalseAlarmThere c.args.net.now.circuit c.args.plan.now c.args.trial.now.points) 1024 (c.args.past - c.args.first) c.first_false_alarm-quiet.result (omega arith)
    c.first_false_alarm-quiet.ensures.first

pub reason_of-requires-clause-found : goal.reason_of-requires-clause-found
reason_of-requires-clause-found c =
    let N = c.args.net.now.circuit in
    let few = subst (λ (n : ℕ). n ≤ 1024) (sym c.unwrap_or-bound.ensures)
    (bound_inside (IsFalseAlarmThere N c.args.plan.now c.args.trial.now.points) 1024 (c.args.past - c.args.first) c.first_false_alarm-quiet.result (omega arith)
    c.first_false_alarm-quiet.ensures.first) in
    cell_inside (CellUnheardThere N c.args.plan.now c.first_of_cells-found.new.trial.points) 1024 (nets N) c.unwrap_or-bound.result c.first_of_cells-found.result few
    c.first_of_cells-found.ensures.least

pub returns-clause-first : goal.returns-clause-first
returns-clause-first c =
    let N = c.args.net.now.circuit in
    let P = c.args.plan.now in
    let points = c.args.trial.now.points in
    let first = c.args.first in
    let many = c.args.past - first in
    let quiet = c.first_false_alarm-quiet.result in
    let found = c.first_of_cells-found.result in
    let whole : first + many ≡ c.args.past = omega arith in
    let least = subst (λ (n : ℕ). IsLeastCell (CellUnheardThere N P points) (nets N) n found) c.unwrap_or-bound.ensures
    (subst (λ (s : PointsState). IsLeastCell (CellUnheardThere N P s) (nets N) c.unwrap_or-bound.result found) c.first_of_cells-found.ensures.points c.first_of_cells-found.ensures.least) in
    subst (λ (it : Option PointReason). IsFirstAnswer N P first c.args.past it) (sym (c.reason_of.ensures.reason ∙ ap (λ (n : ℕ). reason_of n first quiet found) c.inputs.ensures.count))
    (subst (λ (past : ℕ). IsFirstAnswer N P first past (reason_of N.inputs first quiet found)) whole
    (batch_answer N P points c.order-order.ensures.acyclic first many c.requires.put quiet found c.first_false_alarm-quiet.ensures.first least))
