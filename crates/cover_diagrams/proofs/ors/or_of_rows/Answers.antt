use Rattle.std.proofs.Common.{◌≤◌, length, arith}
use Rattle.diagrams.proofs.Growing.{AreMade-refl, AreMade-trans}
use Rattle.cover_diagrams.proofs.Steps.{Grows-refl, Grows-trans}
use Rattle.cover_diagrams.proofs.RunningOrs.{zero_stands, pins_kept, row_kept_at, or_kept_at, or_stands}
use Rattle.cover_diagrams.proofs.BuiltRows.{no_rows, row_more}
use Rattle.cover_diagrams.proofs.ors.or_of_rows.Goals as goal

pub loop-j-init : goal.loop-j-init
loop-j-init c =
    let D = c.len-rows.ensures.diagram in
    let within : length c.args.diagrams.now.rows ≤ c.args.diagrams.now.room = omega (arith, c.len-rows.ensures.within, c.len-rows.ensures.len) in
    record {
      inside = (zero_stands c.args.diagrams.now D).node;
      grown = Grows-refl c.args.diagrams.now D within;
      made = λ ps fs P kept. AreMade-refl c.args.diagrams.now fs D within;
      stands = λ ps P. zero_stands c.args.diagrams.now D;
      built = λ ps P. no_rows c.args.diagrams.now _ ps 0 (zero_stands c.args.diagrams.now D);
    }

pub or_with_row-requires-clause-pins : goal.or_with_row-requires-clause-pins
or_with_row-requires-clause-pins c = λ k d lt. let longer = c.loop-j.invariant.grown.extends.longer in omega (arith, longer, c.requires.pins k d lt)

pub returns-in-Err-clause-made : goal.returns-in-Err-clause-made
returns-in-Err-clause-made c = λ ps fs P kept.
    AreMade-trans c.args.diagrams.now c.loop-j.diagrams c.or_with_row.new.diagrams fs (c.loop-j.invariant.made ps fs P kept)
    (c.in-Err.ensures.made _ ps fs (c.loop-j.invariant.stands ps P)
    (pins_kept c.args.diagrams.now c.loop-j.diagrams ps c.args.pins.now c.len-rows.ensures.diagram c.loop-j.invariant.grown P)
    (row_kept_at c.args.diagrams.now c.loop-j.diagrams fs ps (length c.args.pins.now) c.args.rows.now c.loop-j.j _ c.loop-j-test.true c.loop-j.invariant.grown kept)
    (or_kept_at c.args.diagrams.now c.loop-j.diagrams fs ps (length c.args.pins.now) c.args.rows.now c.loop-j.j _ c.loop-j-test.true c.loop-j.invariant.grown kept))

pub returns-in-Err-clause-short : goal.returns-in-Err-clause-short
returns-in-Err-clause-short c = λ spent ps fs P kept.
    c.in-Err.ensures.short spent _ ps fs (c.loop-j.invariant.stands ps P)
    (pins_kept c.args.diagrams.now c.loop-j.diagrams ps c.args.pins.now c.len-rows.ensures.diagram c.loop-j.invariant.grown P)
    (row_kept_at c.args.diagrams.now c.loop-j.diagrams fs ps (length c.args.pins.now) c.args.rows.now c.loop-j.j _ c.loop-j-test.true c.loop-j.invariant.grown kept)
    (or_kept_at c.args.diagrams.now c.loop-j.diagrams fs ps (length c.args.pins.now) c.args.rows.now c.loop-j.j _ c.loop-j-test.true c.loop-j.invariant.grown kept)

pub loop-j-preserved : goal.loop-j-preserved
loop-j-preserved c =
    let n = length c.args.pins.now in
    let old = c.args.diagrams.now in
    let D = c.len-rows.ensures.diagram in
    let before = c.loop-j.invariant in
    record {
      inside = c.in-Ok.ensures.inside;
      grown = Grows-trans old c.loop-j.diagrams c.or_with_row.new.diagrams before.grown c.in-Ok.ensures.grown;
      made = λ ps fs P kept. AreMade-trans old c.loop-j.diagrams c.or_with_row.new.diagrams fs (before.made ps fs P kept)
          (c.in-Ok.ensures.made _ ps fs (before.stands ps P) (pins_kept old c.loop-j.diagrams ps c.args.pins.now D before.grown P)
          (row_kept_at old c.loop-j.diagrams fs ps n c.args.rows.now c.loop-j.j _ c.loop-j-test.true before.grown kept)
          (or_kept_at old c.loop-j.diagrams fs ps n c.args.rows.now c.loop-j.j _ c.loop-j-test.true before.grown kept));
      stands = λ ps P. or_stands c.or_with_row.new.diagrams ps n c.args.rows.now c.loop-j.j c.in-Ok.next _ c.loop-j-test.true
          (c.in-Ok.ensures.stands _ ps (before.stands ps P) (pins_kept old c.loop-j.diagrams ps c.args.pins.now D before.grown P));
      built = λ ps P. (
          let pins = pins_kept old c.loop-j.diagrams ps c.args.pins.now D before.grown P in
          row_more c.loop-j.diagrams c.or_with_row.new.diagrams ps n c.loop-j.j c.in-Ok.next c.args.rows.now _ c.loop-j-test.true before.grown.diagram c.in-Ok.ensures.grown
          (c.in-Ok.ensures.built _ ps (before.stands ps P) pins)
          (or_stands c.or_with_row.new.diagrams ps n c.args.rows.now c.loop-j.j c.in-Ok.next _ c.loop-j-test.true (c.in-Ok.ensures.stands _ ps (before.stands ps P) pins)) (before.built ps P));
    }
