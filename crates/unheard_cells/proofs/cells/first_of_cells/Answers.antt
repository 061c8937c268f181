use Rattle.std.proofs.Common.{refl, sym, ◌∙◌, subst, None, ℕ, arith}
use Rattle.unheard_cells.specs.There.{CellUnheardThere, IsLeastCell}
use Rattle.unheard_cells.proofs.CellLemmas.{no_cell, all_cells}
use Rattle.unheard_cells.proofs.cells.first_of_cells.Goals as goal

pub loop-number-init : goal.loop-number-init
loop-number-init c =
    let N = c.args.net.now.circuit in
    record {
      settled = c.requires.settled;
      room = c.requires.room;
      points = refl;
      found = subst (λ (n : ℕ). IsLeastCell (CellUnheardThere N c.args.plan.now c.args.trial.now.points) n c.args.many None) (sym c.inputs-first.ensures.count)
          (no_cell N c.args.plan.now c.args.trial.now.points c.args.many);
    }

pub one_more-found-requires-clause-cell : goal.one_more-found-requires-clause-cell
one_more-found-requires-clause-cell c = record {
  no_input = omega (arith, c.inputs-first.ensures.count, c.loop-number.auto.number);
  inside = omega (arith, c.loop-number-test.true, c.nets-past.ensures.count);
}

pub loop-number-preserved : goal.loop-number-preserved
loop-number-preserved c = record {
  settled = c.one_more-found.ensures.settled;
  room = c.one_more-found.ensures.room;
  points = c.one_more-found.ensures.points ∙ c.loop-number.invariant.points;
  found = c.one_more-found.ensures.least;
}

pub returns-clause-least : goal.returns-clause-least
returns-clause-least c =
    all_cells c.args.net.now.circuit c.args.plan.now c.loop-number.trial.points c.loop-number.number c.args.many c.loop-number.found
    (omega (arith, c.loop-number-test.false, c.nets-past.ensures.count)) c.loop-number.invariant.found
