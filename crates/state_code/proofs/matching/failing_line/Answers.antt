use Rattle.std.proofs.Common.{false, ◌∙◌, refl, arith}
use Rattle.gate_net.specs.Signal.Signal.{Zero}
use Rattle.gate_net.specs.Joined.{value_or}
use Rattle.gate_net.proofs.Joined.{some_computes, none_computes}
use Rattle.state_code.proofs.OverInputs.{over_twice}
use Rattle.state_code.proofs.Matched.{failing_step, failing_computed}
use Rattle.state_code.proofs.matching.failing_line.Goals as goal

pub returns-in_err-made-clause-grown : goal.returns-in_err-made-clause-grown
returns-in_err-made-clause-grown c = over_twice c.args.gates.now c.loop-input.gates c.with_failing.new.gates c.loop-input.invariant.grown c.in_err-made.ensures.grown

pub loop-input-preserved : goal.loop-input-preserved
loop-input-preserved c =
    let start = c.args.gates.now in
    let here = c.loop-input.gates in
    let new = c.with_failing.new.gates in
    let before = c.loop-input.invariant in
    let made = c.in_ok-made.ensures.computes in
    record {
      value = λ x s.
          failing_step c.args.inputs c.loop-input.input c.args.row.care c.args.row.value x (value_or false here x s c.loop-input.made) (value_or false new x s c.in_ok-made.made) c.loop-input-test.true (made.value x s)
          ∙ before.value x s;
      within = made.within;
      grown = over_twice start here new before.grown c.in_ok-made.ensures.grown;
      few = omega (arith, before.few, c.in_ok-made.ensures.few);
    }

pub returns-in-None-clause-grown : goal.returns-in-None-clause-grown
returns-in-None-clause-grown c = over_twice c.args.gates.now c.loop-input.gates c.add.new.gates c.loop-input.invariant.grown (c.add.ensures.over_inputs refl refl)

pub returns-in-Some-clause-computes : goal.returns-in-Some-clause-computes
returns-in-Some-clause-computes c =
    let loop = c.loop-input.invariant in
    let all = failing_computed c.args.gates.now c.loop-input.gates c.loop-input.made c.args.inputs c.loop-input.input c.args.row.care c.args.row.value loop.grown.grows loop.within c.loop-input-test.false loop.value in
    some_computes false c.args.gates.now c.loop-input.gates _ c.loop-input.made c.in-Some.line all c.in-Some.is

pub returns-in-None-clause-computes : goal.returns-in-None-clause-computes
returns-in-None-clause-computes c =
    let loop = c.loop-input.invariant in
    let all = failing_computed c.args.gates.now c.loop-input.gates c.loop-input.made c.args.inputs c.loop-input.input c.args.row.care c.args.row.value loop.grown.grows loop.within c.loop-input-test.false loop.value in
    none_computes false c.args.gates.now c.loop-input.gates c.add.new.gates _ c.loop-input.made Zero c.add.result all c.in-None.is (λ x s. refl) c.add.ensures.added
