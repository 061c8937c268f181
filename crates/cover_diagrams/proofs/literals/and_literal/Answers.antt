use Rattle.diagrams.specs.Decisions.{value}
use Rattle.diagrams.proofs.Growing.{AreMade-trans}
use Rattle.diagrams.proofs.Waits.{stands_same}
use Rattle.cover_diagrams.proofs.Steps.{Grows-made, Grows-trans, Grows-stands, own_stands, wanted_kept, wanted_stands, negation_kept, and_same, and_needed}
use Rattle.cover_diagrams.proofs.BuiltRows.{HasRow-grows, nothing_asked, literal_built}
use Rattle.cover_diagrams.proofs.literals.and_literal.Goals as goal

pub combine-requires-clause-second : goal.combine-requires-clause-second
combine-requires-clause-second c = (c.in-Ok.ensures.stands (value c.args.diagrams.now.rows c.args.pin) (own_stands c.args.diagrams.now c.args.pin c.requires.pin)).node

pub returns-in-Ok-combine-clause-grown : goal.returns-in-Ok-combine-clause-grown
returns-in-Ok-combine-clause-grown c = Grows-trans c.args.diagrams.now c.literal_row.new.diagrams c.combine.new.self c.in-Ok.ensures.grown (Grows-made _ _ _ c.in-Ok-combine.ensures.made)

pub returns-in-Ok-combine-clause-made : goal.returns-in-Ok-combine-clause-made
returns-in-Ok-combine-clause-made c = λ f p fs F P kept.
    let asked = wanted_kept _ fs f p c.args.care c.args.wanted c.if-not-care.false kept in
    AreMade-trans c.args.diagrams.now c.literal_row.new.diagrams c.combine.new.self fs
    (c.in-Ok.ensures.made p fs P (negation_kept _ fs f p c.args.wanted asked))
    (c.in-Ok-combine.ensures.made fs (and_needed c.args.diagrams.now c.literal_row.new.diagrams fs f p c.args.so_far c.in-Ok.literal c.args.wanted
    c.len-rows.ensures.diagram c.in-Ok.ensures.grown F (c.in-Ok.ensures.stands p P) asked))

pub returns-in-Ok-combine-clause-stands : goal.returns-in-Ok-combine-clause-stands
returns-in-Ok-combine-clause-stands c = λ f p F P.
    let grown = Grows-made c.literal_row.new.diagrams c.combine.new.self _ c.in-Ok-combine.ensures.made in
    let same_as = and_same c.literal_row.new.diagrams f p c.args.so_far c.in-Ok.literal c.args.wanted
    (Grows-stands c.args.diagrams.now c.literal_row.new.diagrams f c.args.so_far c.len-rows.ensures.diagram c.in-Ok.ensures.grown F) (c.in-Ok.ensures.stands p P) in
    wanted_stands c.combine.new.self f p c.in-Ok-combine.row c.args.care c.args.wanted c.if-not-care.false
    (stands_same c.combine.new.self _ _ c.literal_row.new.diagrams.inputs c.in-Ok-combine.row grown.inputs same_as c.in-Ok-combine.ensures.stands)

pub returns-in-Err-combine-clause-grown : goal.returns-in-Err-combine-clause-grown
returns-in-Err-combine-clause-grown c = Grows-trans c.args.diagrams.now c.literal_row.new.diagrams c.combine.new.self c.in-Ok.ensures.grown (Grows-made _ _ _ c.in-Err-combine.ensures.made)

pub returns-in-Err-combine-clause-made : goal.returns-in-Err-combine-clause-made
returns-in-Err-combine-clause-made c = λ f p fs F P kept.
    let asked = wanted_kept _ fs f p c.args.care c.args.wanted c.if-not-care.false kept in
    AreMade-trans c.args.diagrams.now c.literal_row.new.diagrams c.combine.new.self fs
    (c.in-Ok.ensures.made p fs P (negation_kept _ fs f p c.args.wanted asked))
    (c.in-Err-combine.ensures.made fs (and_needed c.args.diagrams.now c.literal_row.new.diagrams fs f p c.args.so_far c.in-Ok.literal c.args.wanted
    c.len-rows.ensures.diagram c.in-Ok.ensures.grown F (c.in-Ok.ensures.stands p P) asked))

pub returns-in-Err-combine-clause-short : goal.returns-in-Err-combine-clause-short
returns-in-Err-combine-clause-short c = λ spent f p fs F P kept.
    let asked = wanted_kept _ fs f p c.args.care c.args.wanted c.if-not-care.false kept in
    c.in-Err-combine.ensures.short spent fs (and_needed c.args.diagrams.now c.literal_row.new.diagrams fs f p c.args.so_far c.in-Ok.literal c.args.wanted
    c.len-rows.ensures.diagram c.in-Ok.ensures.grown F (c.in-Ok.ensures.stands p P) asked)

pub returns-then-not-care-clause-built : goal.returns-then-not-care-clause-built
returns-then-not-care-clause-built c = λ f p F P asked. absurd (nothing_asked c.args.care c.args.wanted c.if-not-care.true asked)

pub returns-in-Ok-combine-clause-built : goal.returns-in-Ok-combine-clause-built
returns-in-Ok-combine-clause-built c = λ f p F P asked.
    let mid = c.literal_row.new.diagrams in
    HasRow-grows mid c.combine.new.self _ c.in-Ok.ensures.grown.diagram (Grows-made mid c.combine.new.self _ c.in-Ok-combine.ensures.made)
    (literal_built mid p c.in-Ok.literal c.args.care c.args.wanted c.if-not-care.false (c.in-Ok.ensures.stands p P) asked)
