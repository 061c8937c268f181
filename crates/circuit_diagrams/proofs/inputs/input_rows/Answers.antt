use Rattle.std.proofs.Common.{◌≤◌, length, refl, ◌∙◌, length-set, arith}
use Rattle.diagrams.specs.Cofactors.{IsCofactorOfOne}
use Rattle.diagrams.specs.Building.{input_bit}
use Rattle.diagrams.proofs.Growing.{AreMade-refl, AreMade-trans}
use Rattle.diagrams.proofs.Waits.{same_error}
use Rattle.cover_diagrams.proofs.Steps.{Grows-refl, Grows-trans, Grows-made}
use Rattle.circuit_diagrams.proofs.Lists.{range-at}
use Rattle.circuit_diagrams.proofs.Adding.{one_kept_on}
use Rattle.circuit_diagrams.proofs.Prefixes.{inside_on, inside_set, prefix_on}
use Rattle.circuit_diagrams.proofs.inputs.input_rows.Goals as goal

pub variable-requires : goal.variable-requires
variable-requires c =
    let same = c.loop-input.invariant.grown.inputs in omega (arith, same, c.requires.inputs, c.loop-input-test.true)

pub loop-input-init : goal.loop-input-init
loop-input-init c =
    let D = c.len-rows.ensures.diagram in
    let within : length c.args.diagrams.now.rows ≤ c.args.diagrams.now.room = omega (arith, c.len-rows.ensures.within, c.len-rows.ensures.len) in
    record {
      sized = refl;
      inside = c.requires.inside;
      grown = Grows-refl c.args.diagrams.now D within;
      made = λ kept all. AreMade-refl c.args.diagrams.now kept D within;
      stand = λ i below. absurd (omega arith);
    }

pub returns-clause-added : goal.returns-clause-added
returns-clause-added c = record { grown = c.loop-input.invariant.grown; made = c.loop-input.invariant.made }

pub returns-in-Err-clause-inside : goal.returns-in-Err-clause-inside
returns-in-Err-clause-inside c = inside_on c.loop-input.diagrams c.variable.new.self _ (Grows-made _ _ _ c.in-Err.ensures.made) c.loop-input.invariant.inside

pub returns-in-Err-clause-added : goal.returns-in-Err-clause-added
returns-in-Err-clause-added c =
    let old = c.args.diagrams.now in
    let mid = c.loop-input.diagrams in
    let new = c.variable.new.self in
    record {
      grown = Grows-trans old mid new c.loop-input.invariant.grown (Grows-made mid new _ c.in-Err.ensures.made);
      made = λ kept all.
          AreMade-trans old mid new kept (c.loop-input.invariant.made kept all)
          (c.in-Err.ensures.made kept (one_kept_on old mid kept _ c.loop-input.invariant.grown
          (range-at (IsCofactorOfOne old.inputs kept) input_bit 0 c.args.inputs c.loop-input.input all (omega arith) (omega (arith, c.loop-input-test.true)))));
    }

pub returns-in-Err-clause-short : goal.returns-in-Err-clause-short
returns-in-Err-clause-short c = λ spent kept all.
    let old = c.args.diagrams.now in
    let mid = c.loop-input.diagrams in
    c.in-Err.ensures.short (same_error c.in-Err.e _ spent) kept (one_kept_on old mid kept _ c.loop-input.invariant.grown
    (range-at (IsCofactorOfOne old.inputs kept) input_bit 0 c.args.inputs c.loop-input.input all (omega arith) (omega (arith, c.loop-input-test.true))))

pub loop-input-preserved : goal.loop-input-preserved
loop-input-preserved c =
    let old = c.args.diagrams.now in
    let mid = c.loop-input.diagrams in
    let new = c.variable.new.self in
    let before = c.loop-input.invariant in
    let grown = Grows-made mid new _ c.in-Ok.ensures.made in
    let sized = before.sized in
    record {
      sized = length-set _ _ _ ∙ sized;
      inside = inside_set mid new _ c.loop-input.input c.in-Ok.row grown before.inside c.in-Ok.ensures.stands.node;
      grown = Grows-trans old mid new before.grown grown;
      made = λ kept all.
          AreMade-trans old mid new kept (before.made kept all)
          (c.in-Ok.ensures.made kept (one_kept_on old mid kept _ before.grown
          (range-at (IsCofactorOfOne old.inputs kept) input_bit 0 c.args.inputs c.loop-input.input all (omega arith) (omega (arith, c.loop-input-test.true)))));
      stand = prefix_on mid new input_bit c.loop-input.input c.in-Ok.row _ before.grown.diagram grown (omega (arith, sized, c.requires.within, c.loop-input-test.true)) c.in-Ok.ensures.stands before.stand;
    }
