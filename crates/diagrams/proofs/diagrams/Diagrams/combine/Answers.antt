use Rattle.diagrams.specs.Building.{combined_rows}
use Rattle.diagrams.proofs.Growing.{AreMade-trans}
use Rattle.diagrams.proofs.Waits.{made_alone, needed_later, stands_before, same_error}
use Rattle.diagrams.proofs.diagrams.Diagrams.combine.Goals as goal

pub returns-in-Ok-Done-clause-made : goal.returns-in-Ok-Done-clause-made
returns-in-Ok-Done-clause-made c = λ fs needed.
    let before = c.loop-row.invariant.made fs needed in
    let later = needed_later _ _ c.args.operation _ _ fs c.len-rows.ensures.diagram before c.requires.first c.requires.second needed in
    AreMade-trans _ _ _ fs before (c.in-Ok-Done.ensures.made _ _ fs c.loop-row.invariant.way later)

pub returns-in-Ok-Done-clause-stands : goal.returns-in-Ok-Done-clause-stands
returns-in-Ok-Done-clause-stands c =
    let made = made_alone c.args.self.now c.advance.new.diagrams (combined_rows c.args.operation c.args.self.now.rows c.args.first c.args.second) (λ fs needed.
    let before = c.loop-row.invariant.made fs needed in
    let later = needed_later _ _ c.args.operation _ _ fs c.len-rows.ensures.diagram before c.requires.first c.requires.second needed in
    AreMade-trans _ _ _ fs before (c.in-Ok-Done.ensures.made _ _ fs c.loop-row.invariant.way later)) in
    let stands = rw c.in-Ok-Done.field-0-is at (c.in-Ok-Done.ensures.way c.args.first c.args.second c.loop-row.invariant.way) in
    stands_before c.args.self.now c.advance.new.diagrams c.args.operation c.args.first c.args.second _ c.len-rows.ensures.diagram made.extends c.requires.first c.requires.second stands

pub loop-row-preserved : goal.loop-row-preserved
loop-row-preserved c = record {
  way = rw c.in-Ok-Go.field-0-is at (c.in-Ok-Go.ensures.way c.args.first c.args.second c.loop-row.invariant.way);
  made = λ fs needed.
      let before = c.loop-row.invariant.made fs needed in
      let later = needed_later _ _ c.args.operation _ _ fs c.len-rows.ensures.diagram before c.requires.first c.requires.second needed in
      AreMade-trans _ _ _ fs before (c.in-Ok-Go.ensures.made _ _ fs c.loop-row.invariant.way later);
}

pub returns-in-Err-clause-made : goal.returns-in-Err-clause-made
returns-in-Err-clause-made c = λ fs needed.
    let before = c.loop-row.invariant.made fs needed in
    let later = needed_later _ _ c.args.operation _ _ fs c.len-rows.ensures.diagram before c.requires.first c.requires.second needed in
    AreMade-trans _ _ _ fs before (c.in-Err.ensures.made _ _ fs c.loop-row.invariant.way later)

pub returns-in-Err-clause-short : goal.returns-in-Err-clause-short
returns-in-Err-clause-short c = λ spent fs needed.
    let before = c.loop-row.invariant.made fs needed in
    let later = needed_later _ _ c.args.operation _ _ fs c.len-rows.ensures.diagram before c.requires.first c.requires.second needed in
    c.in-Err.ensures.short (same_error c.in-Err.e _ spent) _ _ fs c.loop-row.invariant.way later
