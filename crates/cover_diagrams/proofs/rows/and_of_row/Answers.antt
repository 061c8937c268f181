use Rattle.std.proofs.Common.{◌≤◌, length, arith}
use Rattle.diagrams.specs.Decisions.{value}
use Rattle.diagrams.proofs.Growing.{AreMade-refl, AreMade-trans}
use Rattle.cover_diagrams.proofs.Steps.{Grows-refl, Grows-trans, Grows-stands, own_stands, one_stands}
use Rattle.cover_diagrams.proofs.RunningAnds.{step_kept, step_stands}
use Rattle.cover_diagrams.proofs.BuiltRows.{no_literal, literal_more}
use Rattle.cover_diagrams.proofs.rows.and_of_row.Goals as goal

pub loop-i-init : goal.loop-i-init
loop-i-init c =
    let D = c.len-rows.ensures.diagram in
    let within : length c.args.diagrams.now.rows ≤ c.args.diagrams.now.room = omega (arith, c.len-rows.ensures.within, c.len-rows.ensures.len) in
    record {
      inside = (one_stands c.args.diagrams.now D).node;
      grown = Grows-refl c.args.diagrams.now D within;
      made = λ ps fs P kept. AreMade-refl c.args.diagrams.now fs D within;
      stands = λ ps P. one_stands c.args.diagrams.now D;
      built = λ ps P. no_literal c.args.diagrams.now _ ps 1 (one_stands c.args.diagrams.now D);
    }

pub returns-in-Err-clause-made : goal.returns-in-Err-clause-made
returns-in-Err-clause-made c = λ ps fs P kept.
    AreMade-trans c.args.diagrams.now _ c.and_literal.new.diagrams fs (c.loop-i.invariant.made ps fs P kept)
    (c.in-Err.ensures.made _ _ fs (c.loop-i.invariant.stands ps P)
    (Grows-stands c.args.diagrams.now c.loop-i.diagrams _ _ c.len-rows.ensures.diagram c.loop-i.invariant.grown (P.at c.loop-i.i c.loop-i-test.true))
    (step_kept c.args.diagrams.now c.loop-i.diagrams fs ps (length c.args.pins.now) c.loop-i.i c.args.row _ _ c.loop-i-test.true P.sized c.loop-i.invariant.grown c.bit_at-care.ensures.bit c.bit_at-wanted.ensures.bit kept))

pub returns-in-Err-clause-short : goal.returns-in-Err-clause-short
returns-in-Err-clause-short c = λ spent ps fs P kept.
    c.in-Err.ensures.short spent _ _ fs (c.loop-i.invariant.stands ps P)
    (Grows-stands c.args.diagrams.now c.loop-i.diagrams _ _ c.len-rows.ensures.diagram c.loop-i.invariant.grown (P.at c.loop-i.i c.loop-i-test.true))
    (step_kept c.args.diagrams.now c.loop-i.diagrams fs ps (length c.args.pins.now) c.loop-i.i c.args.row _ _ c.loop-i-test.true P.sized c.loop-i.invariant.grown c.bit_at-care.ensures.bit c.bit_at-wanted.ensures.bit kept)

pub loop-i-preserved : goal.loop-i-preserved
loop-i-preserved c =
    let n = length c.args.pins.now in
    let old = c.args.diagrams.now in
    let D = c.len-rows.ensures.diagram in
    let before = c.loop-i.invariant in
    let longer = before.grown.extends.longer in
    record {
      inside = (c.in-Ok.ensures.stands (value c.loop-i.diagrams.rows c.loop-i.so_far) (value c.loop-i.diagrams.rows _) (own_stands c.loop-i.diagrams c.loop-i.so_far before.inside)
          (own_stands c.loop-i.diagrams _ (omega (arith, longer, c.requires.pins c.loop-i.i 0 c.loop-i-test.true)))).node;
      grown = Grows-trans old c.loop-i.diagrams c.and_literal.new.diagrams before.grown c.in-Ok.ensures.grown;
      made = λ ps fs P kept. AreMade-trans old c.loop-i.diagrams c.and_literal.new.diagrams fs (before.made ps fs P kept)
          (c.in-Ok.ensures.made _ _ fs (before.stands ps P) (Grows-stands old c.loop-i.diagrams _ _ D before.grown (P.at c.loop-i.i c.loop-i-test.true))
          (step_kept old c.loop-i.diagrams fs ps n c.loop-i.i c.args.row _ _ c.loop-i-test.true P.sized before.grown c.bit_at-care.ensures.bit c.bit_at-wanted.ensures.bit kept));
      stands = λ ps P. step_stands c.and_literal.new.diagrams ps n c.loop-i.i c.in-Ok.next c.args.row _ _ c.loop-i-test.true P.sized c.bit_at-care.ensures.bit c.bit_at-wanted.ensures.bit
          (c.in-Ok.ensures.stands _ _ (before.stands ps P) (Grows-stands old c.loop-i.diagrams _ _ D before.grown (P.at c.loop-i.i c.loop-i-test.true)));
      built = λ ps P. (
          let pin = Grows-stands old c.loop-i.diagrams _ _ D before.grown (P.at c.loop-i.i c.loop-i-test.true) in
          literal_more c.loop-i.diagrams c.and_literal.new.diagrams ps n c.loop-i.i c.in-Ok.next c.args.row _ _ c.loop-i-test.true before.grown.diagram c.in-Ok.ensures.grown
          c.bit_at-care.ensures.bit c.bit_at-wanted.ensures.bit (c.in-Ok.ensures.built _ _ (before.stands ps P) pin)
          (step_stands c.and_literal.new.diagrams ps n c.loop-i.i c.in-Ok.next c.args.row _ _ c.loop-i-test.true P.sized c.bit_at-care.ensures.bit c.bit_at-wanted.ensures.bit
          (c.in-Ok.ensures.stands _ _ (before.stands ps P) pin)) (before.built ps P));
    }
