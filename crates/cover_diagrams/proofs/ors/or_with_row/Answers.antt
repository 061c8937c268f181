use Rattle.std.proofs.Common.{length}
use Rattle.diagrams.proofs.Growing.{AreMade-trans}
use Rattle.diagrams.proofs.Waits.{stands_same}
use Rattle.cover_diagrams.proofs.Steps.{Grows-made, Grows-trans, Grows-stands}
use Rattle.cover_diagrams.proofs.RunningOrs.{or_same, or_needed}
use Rattle.cover_diagrams.proofs.BuiltRows.{IsRowBuilt-grows}
use Rattle.cover_diagrams.proofs.ors.or_with_row.Goals as goal

pub returns-in-Ok-combine-clause-grown : goal.returns-in-Ok-combine-clause-grown
returns-in-Ok-combine-clause-grown c = Grows-trans c.args.diagrams.now c.and_of_row.new.diagrams c.combine.new.self c.in-Ok.ensures.grown (Grows-made _ _ _ c.in-Ok-combine.ensures.made)

pub returns-in-Ok-combine-clause-made : goal.returns-in-Ok-combine-clause-made
returns-in-Ok-combine-clause-made c = λ f ps fs F P kept joined.
    AreMade-trans c.args.diagrams.now c.and_of_row.new.diagrams c.combine.new.self fs (c.in-Ok.ensures.made ps fs P kept)
    (c.in-Ok-combine.ensures.made fs (or_needed c.args.diagrams.now c.and_of_row.new.diagrams fs f ps (length c.args.pins.now) c.args.so_far c.in-Ok.joined c.args.row
    c.len-rows.ensures.diagram c.in-Ok.ensures.grown F (c.in-Ok.ensures.stands ps P) joined))

pub returns-in-Ok-combine-clause-stands : goal.returns-in-Ok-combine-clause-stands
returns-in-Ok-combine-clause-stands c = λ f ps F P.
    let mid = c.and_of_row.new.diagrams in
    let grown = Grows-made mid c.combine.new.self _ c.in-Ok-combine.ensures.made in
    let same_as = or_same mid f ps (length c.args.pins.now) c.args.so_far c.in-Ok.joined c.args.row
    (Grows-stands c.args.diagrams.now mid f c.args.so_far c.len-rows.ensures.diagram c.in-Ok.ensures.grown F) (c.in-Ok.ensures.stands ps P) in
    stands_same c.combine.new.self _ _ mid.inputs c.in-Ok-combine.k grown.inputs same_as c.in-Ok-combine.ensures.stands

pub returns-in-Err-combine-clause-grown : goal.returns-in-Err-combine-clause-grown
returns-in-Err-combine-clause-grown c = Grows-trans c.args.diagrams.now c.and_of_row.new.diagrams c.combine.new.self c.in-Ok.ensures.grown (Grows-made _ _ _ c.in-Err-combine.ensures.made)

pub returns-in-Err-combine-clause-made : goal.returns-in-Err-combine-clause-made
returns-in-Err-combine-clause-made c = λ f ps fs F P kept joined.
    AreMade-trans c.args.diagrams.now c.and_of_row.new.diagrams c.combine.new.self fs (c.in-Ok.ensures.made ps fs P kept)
    (c.in-Err-combine.ensures.made fs (or_needed c.args.diagrams.now c.and_of_row.new.diagrams fs f ps (length c.args.pins.now) c.args.so_far c.in-Ok.joined c.args.row
    c.len-rows.ensures.diagram c.in-Ok.ensures.grown F (c.in-Ok.ensures.stands ps P) joined))

pub returns-in-Err-combine-clause-short : goal.returns-in-Err-combine-clause-short
returns-in-Err-combine-clause-short c = λ spent f ps fs F P kept joined.
    c.in-Err-combine.ensures.short spent fs (or_needed c.args.diagrams.now c.and_of_row.new.diagrams fs f ps (length c.args.pins.now) c.args.so_far c.in-Ok.joined c.args.row
    c.len-rows.ensures.diagram c.in-Ok.ensures.grown F (c.in-Ok.ensures.stands ps P) joined)

pub returns-in-Ok-combine-clause-built : goal.returns-in-Ok-combine-clause-built
returns-in-Ok-combine-clause-built c = λ f ps F P.
    let mid = c.and_of_row.new.diagrams in
    IsRowBuilt-grows mid c.combine.new.self _ ps _ c.in-Ok.ensures.grown.diagram (Grows-made mid c.combine.new.self _ c.in-Ok-combine.ensures.made) (c.in-Ok.ensures.built ps P)
