use Rattle.std.proofs.Common.{◌<◌, length, sym, ◌∙◌, subst, length-set, arith}
use Rattle.code_checkers.specs.Signal.{Signal}
use Rattle.code_checkers.specs.Gates.{signals_of}
use Rattle.diagrams.specs.Cofactors.{IsCofactorOfOne}
use Rattle.diagrams.specs.Building.{StandsFor}
use Rattle.diagrams.proofs.Growing.{AreMade-trans}
use Rattle.diagrams.proofs.Waits.{same_error}
use Rattle.cover_diagrams.proofs.Steps.{Grows-trans}
use Rattle.cover_diagrams.proofs.RunningOrs.{pins_kept}
use Rattle.wide_diagrams.specs.Stated.{signal_function}
use Rattle.code_checkers.specs.Gates.{signal_at}
use Rattle.circuit_diagrams.proofs.Adding.{one_kept_on}
use Rattle.circuit_diagrams.proofs.Prefixes.{inside_set, prefix_on}
use Rattle.wide_diagrams.proofs.Signals.{gate_means}
use Rattle.wide_diagrams.proofs.gates.gate_rows.Goals as goal

pub returns-in-Err-clause-made : goal.returns-in-Err-clause-made
returns-in-Err-clause-made c = λ ws kept P needed.
    let old = c.args.diagrams.now in
    let mid = c.loop-k.diagrams in
    let before = c.loop-k.invariant in
    let gates = c.args.gates.now.gates in
    AreMade-trans old mid c.gate_row.new.diagrams kept (before.made ws kept P needed)
    (c.in-Err.ensures.made ws kept (signals_of gates) (pins_kept old mid ws c.args.word.now c.len-rows.ensures.diagram before.grown P) (before.stand ws P)
    (one_kept_on old mid kept _ before.grown
    (subst (λ (s : Signal). IsCofactorOfOne old.inputs kept (signal_function ws s)) (sym (gate_means gates c.loop-k.k _ c.requires.ordered (omega arith) c.get.ensures.gate)) (needed c.loop-k.k (omega arith)))))

pub returns-in-Err-clause-short : goal.returns-in-Err-clause-short
returns-in-Err-clause-short c = λ spent ws kept P needed.
    let old = c.args.diagrams.now in
    let mid = c.loop-k.diagrams in
    let before = c.loop-k.invariant in
    let gates = c.args.gates.now.gates in
    c.in-Err.ensures.short (same_error c.in-Err.e _ spent) ws kept (signals_of gates) (pins_kept old mid ws c.args.word.now c.len-rows.ensures.diagram before.grown P) (before.stand ws P)
    (one_kept_on old mid kept _ before.grown
    (subst (λ (s : Signal). IsCofactorOfOne old.inputs kept (signal_function ws s)) (sym (gate_means gates c.loop-k.k _ c.requires.ordered (omega arith) c.get.ensures.gate)) (needed c.loop-k.k (omega arith))))

pub loop-k-preserved : goal.loop-k-preserved
loop-k-preserved c =
    let old = c.args.diagrams.now in
    let mid = c.loop-k.diagrams in
    let new = c.gate_row.new.diagrams in
    let before = c.loop-k.invariant in
    let sized = before.sized in
    let gates = c.args.gates.now.gates in
    let D = c.len-rows.ensures.diagram in
    let inside : c.loop-k.k < length gates = omega arith in
    let means = gate_means gates c.loop-k.k _ c.requires.ordered inside c.get.ensures.gate in
    record {
      sized = length-set _ _ _ ∙ sized;
      inside = inside_set mid new _ c.loop-k.k c.in-Ok.row c.in-Ok.ensures.grown before.inside c.in-Ok.ensures.inside;
      grown = Grows-trans old mid new before.grown c.in-Ok.ensures.grown;
      made = λ ws kept P needed.
          AreMade-trans old mid new kept (before.made ws kept P needed)
          (c.in-Ok.ensures.made ws kept (signals_of gates) (pins_kept old mid ws c.args.word.now D before.grown P) (before.stand ws P)
          (one_kept_on old mid kept _ before.grown (subst (λ (s : Signal). IsCofactorOfOne old.inputs kept (signal_function ws s)) (sym means) (needed c.loop-k.k inside))));
      stand = λ ws P.
          prefix_on mid new (λ k. signal_function ws (signal_at (signals_of gates) k)) c.loop-k.k c.in-Ok.row _ before.grown.diagram c.in-Ok.ensures.grown
          (omega (arith, sized, c.requires.sized, inside))
          (subst (λ (s : Signal). StandsFor new (signal_function ws s) c.in-Ok.row) means (c.in-Ok.ensures.stands ws (signals_of gates) (pins_kept old mid ws c.args.word.now D before.grown P) (before.stand ws P)))
          (before.stand ws P);
    }
