use Rattle.diagrams.proofs.CofactorLemmas.{of_one-same}
use Rattle.diagrams.proofs.Waits.{stands_same}
use Rattle.cover_diagrams.proofs.Steps.{Grows-made, combined_same}
use Rattle.wide_diagrams.proofs.operations.operation_row.Goals as goal

pub returns-in-Ok-clause-grown : goal.returns-in-Ok-clause-grown
returns-in-Ok-clause-grown c = Grows-made _ _ _ c.in-Ok.ensures.made

pub returns-in-Ok-clause-made : goal.returns-in-Ok-clause-made
returns-in-Ok-clause-made c = λ f g kept F G needed.
    c.in-Ok.ensures.made kept (of_one-same _ kept _ _ needed (combined_same c.args.diagrams.now c.args.operation f g c.args.first c.args.second F G))

pub returns-in-Ok-clause-stands : goal.returns-in-Ok-clause-stands
returns-in-Ok-clause-stands c = λ f g F G.
    let grown = Grows-made c.args.diagrams.now c.combine.new.self _ c.in-Ok.ensures.made in
    stands_same c.combine.new.self _ _ c.args.diagrams.now.inputs c.in-Ok.row grown.inputs (combined_same c.args.diagrams.now c.args.operation f g c.args.first c.args.second F G) c.in-Ok.ensures.stands

pub returns-in-Err-clause-grown : goal.returns-in-Err-clause-grown
returns-in-Err-clause-grown c = Grows-made _ _ _ c.in-Err.ensures.made

pub returns-in-Err-clause-made : goal.returns-in-Err-clause-made
returns-in-Err-clause-made c = λ f g kept F G needed.
    c.in-Err.ensures.made kept (of_one-same _ kept _ _ needed (combined_same c.args.diagrams.now c.args.operation f g c.args.first c.args.second F G))

pub returns-in-Err-clause-short : goal.returns-in-Err-clause-short
returns-in-Err-clause-short c = λ spent f g kept F G needed.
    c.in-Err.ensures.short spent kept (of_one-same _ kept _ _ needed (combined_same c.args.diagrams.now c.args.operation f g c.args.first c.args.second F G))
