use Rattle.std.proofs.Common.{◌≡◌, ℕ, IsTrue, slice_index, ◌∙◌, subst, arith}
use Rattle.std.proofs.lemmas.Bool.{cases_lt}
use Rattle.std.proofs.Math.Logic.{⊎_elim}
use Rattle.fault_secure.specs.Circuit.{bit}
use Rattle.diagrams.specs.Cofactors.{IsCofactorOfOne}
use Rattle.diagrams.proofs.Growing.{AreMade-trans}
use Rattle.diagrams.proofs.Waits.{same_error}
use Rattle.cover_diagrams.specs.Covering.{HasRow}
use Rattle.cover_diagrams.proofs.Steps.{Grows-trans}
use Rattle.circuit_diagrams.specs.Stated.{node_functions}
use Rattle.circuit_diagrams.specs.Steps.{AreBuilt}
use Rattle.circuit_diagrams.proofs.Lists.{each-passing, passing-at}
use Rattle.circuit_diagrams.proofs.Adding.{kept_on, built_on}
use Rattle.circuit_diagrams.proofs.NetWalk.{reads_stand, walk_on}
use Rattle.circuit_diagrams.proofs.nodes.node_rows.Goals as goal

pub returns-clause-added : goal.returns-clause-added
returns-clause-added c = λ v vals. record { grown = c.loop-i.invariant.grown; made = λ kept all. c.loop-i.invariant.made v kept vals all }

pub returns-clause-built : goal.returns-clause-built
returns-clause-built c = λ v vals.
    each-passing (HasRow c.loop-i.diagrams) (node_functions c.args.net.now.circuit v) (bit c.args.marks.now) c.args.order.now (λ k inside passes. c.loop-i.invariant.built v vals k (omega arith) passes)

pub returns-in-Err-clause-added : goal.returns-in-Err-clause-added
returns-in-Err-clause-added c = λ v vals.
    let old = c.args.diagrams.now in
    let mid = c.loop-i.diagrams in
    let new = c.add_node.new.diagrams in
    let before = c.loop-i.invariant in
    record {
      grown = Grows-trans old mid new before.grown c.in-Err.ensures.grown;
      made = λ kept all.
          AreMade-trans old mid new kept (before.made v kept vals all)
          (c.in-Err.ensures.made v kept
          (λ marked. reads_stand mid c.args.net.now.circuit v c.args.marks.now c.args.order.now _ c.loop-i.i c.requires.reads c.loop-i-test.true marked (before.stand v vals))
          (λ marked. kept_on old mid kept _ before.grown (passing-at (IsCofactorOfOne old.inputs kept) (node_functions c.args.net.now.circuit v) (bit c.args.marks.now) c.args.order.now c.loop-i.i all c.loop-i-test.true marked)));
    }

pub returns-in-Err-clause-short : goal.returns-in-Err-clause-short
returns-in-Err-clause-short c = λ spent v vals kept all.
    let old = c.args.diagrams.now in
    let mid = c.loop-i.diagrams in
    let before = c.loop-i.invariant in
    c.in-Err.ensures.short (same_error c.in-Err.e _ spent) v kept
    (λ marked. reads_stand mid c.args.net.now.circuit v c.args.marks.now c.args.order.now _ c.loop-i.i c.requires.reads c.loop-i-test.true marked (before.stand v vals))
    (λ marked. kept_on old mid kept _ before.grown (passing-at (IsCofactorOfOne old.inputs kept) (node_functions c.args.net.now.circuit v) (bit c.args.marks.now) c.args.order.now c.loop-i.i all c.loop-i-test.true marked))

pub loop-i-preserved : goal.loop-i-preserved
loop-i-preserved c =
    let N = c.args.net.now.circuit in
    let marks = c.args.marks.now in
    let order = c.args.order.now in
    let old = c.args.diagrams.now in
    let mid = c.loop-i.diagrams in
    let new = c.add_node.new.diagrams in
    let before = c.loop-i.invariant in
    let D = before.grown.diagram in
    record {
      sized = c.in-Ok.ensures.sized ∙ before.sized;
      inside = c.in-Ok.ensures.inside;
      grown = Grows-trans old mid new before.grown c.in-Ok.ensures.grown;
      made = λ v kept vals all.
          AreMade-trans old mid new kept (before.made v kept vals all)
          (c.in-Ok.ensures.made v kept
          (λ marked. reads_stand mid N v marks order _ c.loop-i.i c.requires.reads c.loop-i-test.true marked (before.stand v vals))
          (λ marked. kept_on old mid kept _ before.grown (passing-at (IsCofactorOfOne old.inputs kept) (node_functions N v) (bit marks) order c.loop-i.i all c.loop-i-test.true marked)));
      built = λ v vals k below marked. ⊎_elim
          (λ earlier. built_on mid new _ D c.in-Ok.ensures.grown (before.built v vals k earlier marked))
          (λ last. let e : c.loop-i.i ≡ k = omega arith in
          subst (λ (m : ℕ). IsTrue (bit marks (slice_index order m)) → AreBuilt new (node_functions N v (slice_index order m))) e
          (λ here. c.in-Ok.ensures.built here v (reads_stand mid N v marks order _ c.loop-i.i c.requires.reads c.loop-i-test.true here (before.stand v vals))) marked)
          (cases_lt k c.loop-i.i);
      stand = λ v vals.
          walk_on mid new N v marks order _ _ c.loop-i.i D c.in-Ok.ensures.grown c.in-Ok.ensures.others
          (λ here. c.in-Ok.ensures.stands here v vals (before.grown.inputs ∙ c.requires.inputs) (reads_stand mid N v marks order _ c.loop-i.i c.requires.reads c.loop-i-test.true here (before.stand v vals)))
          (before.stand v vals);
    }
