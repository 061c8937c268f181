use Rattle.std.proofs.Common.{◌+◌, List, ℕ, drop, ap, ◌∙◌, arith}
use Rattle.module_join.specs.JointNet.{input_names, with_texts}
use Rattle.module_join.proofs.InputSteps.{input_step}
use Rattle.module_join.proofs.inputs.add_inputs.Goals as goal

pub loop-input-preserved : goal.loop-input-preserved
loop-input-preserved c =
    let net = c.args.net.now in
    let input = c.loop-input.input in
    ap (λ (names : List (List ℕ)). with_texts names (drop (input + 1) (input_names net))) c.in_ok-add.ensures.ok
    ∙ input_step net c.loop-input.names c.input_name.result.now input c.nets-nets.ensures.checked (omega (arith, c.loop-input-test.true, c.inputs-input-end.ensures.count)) c.input_name.ensures.name
    ∙ c.loop-input.invariant
