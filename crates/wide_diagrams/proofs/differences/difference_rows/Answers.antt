use Rattle.std.proofs.Common.{◌∙◌, length-set, arith}
use Rattle.diagrams.specs.Cofactors.{IsCofactorOfOne}
use Rattle.diagrams.proofs.Growing.{AreMade-trans}
use Rattle.diagrams.proofs.Waits.{same_error}
use Rattle.cover_diagrams.proofs.Steps.{Grows-trans, Grows-stands}
use Rattle.wide_diagrams.specs.Wide.{difference_at}
use Rattle.circuit_diagrams.proofs.Lists.{range-at}
use Rattle.circuit_diagrams.proofs.Adding.{one_kept_on}
use Rattle.circuit_diagrams.proofs.Prefixes.{inside_on, inside_set, prefix_on}
use Rattle.wide_diagrams.proofs.differences.difference_rows.Goals as goal

pub returns-clause-added : goal.returns-clause-added
returns-clause-added c = λ fs gs F G. record { grown = c.loop-k.invariant.grown; made = λ kept all. c.loop-k.invariant.made fs gs kept F G all }

pub returns-clause-stand : goal.returns-clause-stand
returns-clause-stand c = λ fs gs F G k below. c.loop-k.invariant.stand fs gs F G k (let sized = c.loop-k.invariant.sized in omega arith)

pub returns-in-Err-clause-added : goal.returns-in-Err-clause-added
returns-in-Err-clause-added c = λ fs gs F G.
    let old = c.args.diagrams.now in
    let mid = c.loop-k.diagrams in
    let new = c.operation_row.new.diagrams in
    let before = c.loop-k.invariant in
    let sized = before.sized in
    let f = Grows-stands old mid _ _ c.len-rows.ensures.diagram before.grown (F.at c.loop-k.k (omega (arith, sized, c.requires.firsts, c.loop-k-test.true))) in
    let g = Grows-stands old mid _ _ c.len-rows.ensures.diagram before.grown (G.at c.loop-k.k (omega (arith, sized, c.requires.seconds, c.loop-k-test.true))) in
    record {
      grown = Grows-trans old mid new before.grown c.in-Err.ensures.grown;
      made = λ kept all.
          AreMade-trans old mid new kept (before.made fs gs kept F G all)
          (c.in-Err.ensures.made _ _ kept f g (one_kept_on old mid kept _ before.grown
          (range-at (IsCofactorOfOne old.inputs kept) (difference_at fs gs) 0 _ c.loop-k.k all (omega arith) (omega (arith, sized, c.loop-k-test.true)))));
    }

pub returns-in-Err-clause-short : goal.returns-in-Err-clause-short
returns-in-Err-clause-short c = λ spent fs gs F G kept all.
    let old = c.args.diagrams.now in
    let mid = c.loop-k.diagrams in
    let before = c.loop-k.invariant in
    let sized = before.sized in
    let f = Grows-stands old mid _ _ c.len-rows.ensures.diagram before.grown (F.at c.loop-k.k (omega (arith, sized, c.requires.firsts, c.loop-k-test.true))) in
    let g = Grows-stands old mid _ _ c.len-rows.ensures.diagram before.grown (G.at c.loop-k.k (omega (arith, sized, c.requires.seconds, c.loop-k-test.true))) in
    c.in-Err.ensures.short (same_error c.in-Err.e _ spent) _ _ kept f g (one_kept_on old mid kept _ before.grown
    (range-at (IsCofactorOfOne old.inputs kept) (difference_at fs gs) 0 _ c.loop-k.k all (omega arith) (omega (arith, sized, c.loop-k-test.true))))

pub loop-k-preserved : goal.loop-k-preserved
loop-k-preserved c =
    let old = c.args.diagrams.now in
    let mid = c.loop-k.diagrams in
    let new = c.operation_row.new.diagrams in
    let before = c.loop-k.invariant in
    let sized = before.sized in
    let D = c.len-rows.ensures.diagram in
    record {
      sized = length-set _ _ _ ∙ sized;
      rows = inside_set mid new _ c.loop-k.k c.in-Ok.row c.in-Ok.ensures.grown before.rows c.in-Ok.ensures.inside;
      grown = Grows-trans old mid new before.grown c.in-Ok.ensures.grown;
      made = λ fs gs kept F G all. (
          let f = Grows-stands old mid _ _ D before.grown (F.at c.loop-k.k (omega (arith, sized, c.requires.firsts, c.loop-k-test.true))) in
          let g = Grows-stands old mid _ _ D before.grown (G.at c.loop-k.k (omega (arith, sized, c.requires.seconds, c.loop-k-test.true))) in
          AreMade-trans old mid new kept (before.made fs gs kept F G all)
          (c.in-Ok.ensures.made _ _ kept f g (one_kept_on old mid kept _ before.grown
          (range-at (IsCofactorOfOne old.inputs kept) (difference_at fs gs) 0 _ c.loop-k.k all (omega arith) (omega (arith, sized, c.loop-k-test.true))))));
      stand = λ fs gs F G. (
          let f = Grows-stands old mid _ _ D before.grown (F.at c.loop-k.k (omega (arith, sized, c.requires.firsts, c.loop-k-test.true))) in
          let g = Grows-stands old mid _ _ D before.grown (G.at c.loop-k.k (omega (arith, sized, c.requires.seconds, c.loop-k-test.true))) in
          prefix_on mid new (difference_at fs gs) c.loop-k.k c.in-Ok.row _ before.grown.diagram c.in-Ok.ensures.grown (omega (arith, sized, c.loop-k-test.true)) (c.in-Ok.ensures.stands _ _ f g) (before.stand fs gs F G));
    }

pub returns-in-Err-clause-rows : goal.returns-in-Err-clause-rows
returns-in-Err-clause-rows c = inside_on c.loop-k.diagrams c.operation_row.new.diagrams _ c.in-Err.ensures.grown c.loop-k.invariant.rows
