use Rattle.diagrams.proofs.Growing.{AreMade-trans}
use Rattle.cover_diagrams.proofs.Steps.{Grows-trans}
use Rattle.cover_diagrams.proofs.TruthLemmas.{rows_kept, or_stands_for_cover, negation_kept_for_cover, cover_stands}
use Rattle.cover_diagrams.proofs.BuiltRows.{cover_built}
use Rattle.cover_diagrams.proofs.covers.cover_row.Goals as goal

pub returns-in-Ok-literal_row-clause-grown : goal.returns-in-Ok-literal_row-clause-grown
returns-in-Ok-literal_row-clause-grown c = Grows-trans c.args.diagrams.now c.or_of_rows.new.diagrams c.literal_row.new.diagrams c.in-Ok.ensures.grown c.in-Ok-literal_row.ensures.grown

pub returns-in-Ok-literal_row-clause-made : goal.returns-in-Ok-literal_row-clause-made
returns-in-Ok-literal_row-clause-made c = λ ps fs P kept.
    AreMade-trans c.args.diagrams.now c.or_of_rows.new.diagrams c.literal_row.new.diagrams fs
    (c.in-Ok.ensures.made ps fs P (rows_kept _ fs ps _ c.args.cover.now _ c.requires.sized c.rows-rows.ensures.rows kept))
    (c.in-Ok-literal_row.ensures.made _ fs (or_stands_for_cover _ ps _ _ c.args.cover.now _ c.requires.sized c.rows-rows.ensures.rows (c.in-Ok.ensures.stands ps P))
    (negation_kept_for_cover c.args.diagrams.now c.or_of_rows.new.diagrams fs ps c.args.cover.now _ c.on-on.ensures.on c.in-Ok.ensures.grown kept))

pub returns-in-Ok-literal_row-clause-stands : goal.returns-in-Ok-literal_row-clause-stands
returns-in-Ok-literal_row-clause-stands c = λ ps P.
    cover_stands _ ps c.args.cover.now _ _ c.on-on.ensures.on
    (c.in-Ok-literal_row.ensures.stands _ (or_stands_for_cover _ ps _ _ c.args.cover.now _ c.requires.sized c.rows-rows.ensures.rows (c.in-Ok.ensures.stands ps P)))

pub returns-in-Err-literal_row-clause-grown : goal.returns-in-Err-literal_row-clause-grown
returns-in-Err-literal_row-clause-grown c = Grows-trans c.args.diagrams.now c.or_of_rows.new.diagrams c.literal_row.new.diagrams c.in-Ok.ensures.grown c.in-Err-literal_row.ensures.grown

pub returns-in-Err-literal_row-clause-made : goal.returns-in-Err-literal_row-clause-made
returns-in-Err-literal_row-clause-made c = λ ps fs P kept.
    AreMade-trans c.args.diagrams.now c.or_of_rows.new.diagrams c.literal_row.new.diagrams fs
    (c.in-Ok.ensures.made ps fs P (rows_kept _ fs ps _ c.args.cover.now _ c.requires.sized c.rows-rows.ensures.rows kept))
    (c.in-Err-literal_row.ensures.made _ fs (or_stands_for_cover _ ps _ _ c.args.cover.now _ c.requires.sized c.rows-rows.ensures.rows (c.in-Ok.ensures.stands ps P))
    (negation_kept_for_cover c.args.diagrams.now c.or_of_rows.new.diagrams fs ps c.args.cover.now _ c.on-on.ensures.on c.in-Ok.ensures.grown kept))

pub returns-in-Err-literal_row-clause-short : goal.returns-in-Err-literal_row-clause-short
returns-in-Err-literal_row-clause-short c = λ spent ps fs P kept.
    c.in-Err-literal_row.ensures.short spent _ fs (or_stands_for_cover _ ps _ _ c.args.cover.now _ c.requires.sized c.rows-rows.ensures.rows (c.in-Ok.ensures.stands ps P))
    (negation_kept_for_cover c.args.diagrams.now c.or_of_rows.new.diagrams fs ps c.args.cover.now _ c.on-on.ensures.on c.in-Ok.ensures.grown kept)

pub returns-in-Err-clause-made : goal.returns-in-Err-clause-made
returns-in-Err-clause-made c = λ ps fs P kept.
    c.in-Err.ensures.made ps fs P (rows_kept _ fs ps _ c.args.cover.now _ c.requires.sized c.rows-rows.ensures.rows kept)

pub returns-in-Err-clause-short : goal.returns-in-Err-clause-short
returns-in-Err-clause-short c = λ spent ps fs P kept.
    c.in-Err.ensures.short spent ps fs P (rows_kept _ fs ps _ c.args.cover.now _ c.requires.sized c.rows-rows.ensures.rows kept)

pub returns-in-Ok-literal_row-clause-built : goal.returns-in-Ok-literal_row-clause-built
returns-in-Ok-literal_row-clause-built c = λ ps P.
    cover_built c.or_of_rows.new.diagrams c.literal_row.new.diagrams ps _ _ c.args.cover.now _ _ c.requires.sized c.rows-rows.ensures.rows c.on-on.ensures.on c.in-Ok.ensures.grown.diagram c.in-Ok-literal_row.ensures.grown
    (c.in-Ok.ensures.built ps P)
    (c.in-Ok-literal_row.ensures.stands _ (or_stands_for_cover _ ps _ _ c.args.cover.now _ c.requires.sized c.rows-rows.ensures.rows (c.in-Ok.ensures.stands ps P)))
