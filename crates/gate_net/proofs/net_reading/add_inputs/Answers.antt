use Rattle.std.proofs.Common.{◌≡◌, List, Option, Some, length, ap, ◌∙◌, sym, subst, arith}
use Rattle.std.proofs.lemmas.List.{length-set}
use Rattle.gate_net.specs.declared.line.Line.{Line}
use Rattle.gate_net.specs.NetLines.{AreLinesOf, IsLined}
use Rattle.gate_net.proofs.Kept.{grows_twice}
use Rattle.gate_net.proofs.LinedNets.{input-lined}
use Rattle.gate_net.proofs.NetLines.{follow_kept, follow_put, input_follows}
use Rattle.gate_net.specs.NetLines.{input_gates}
use Rattle.gate_net.proofs.FirstInputs.{input_more}
use Rattle.gate_net.proofs.net_reading.add_inputs.Goals as goal

pub add-requires : goal.add-requires
add-requires c = record { reads = omega (arith, c.loop-i.invariant.grows.inputs, c.requires.inputs, c.inputs-i-end.ensures.count, c.loop-i-test.true); room = omega (arith, c.loop-i.invariant.few, c.requires.room, c.inputs-i-end.ensures.count, c.loop-i-test.true) }

pub loop-i-preserved : goal.loop-i-preserved
loop-i-preserved c =
    let N = c.args.net.now.circuit in
    let new = c.add.new.self in
    let kept = follow_kept N c.loop-i.gates new c.loop-i.lines c.in_ok-line.ensures.grows c.loop-i.invariant.follow in
    let here = input_follows N c.loop-i.gates new c.loop-i.i c.in_ok-line.line (omega (arith, c.inputs-i-end.ensures.count, c.loop-i-test.true)) c.in_ok-line.ensures.added in
    record {
      within = omega (arith, c.inputs-i-end.ensures.count, c.loop-i-test.true);
      first = input_more c.loop-i.gates new c.loop-i.i c.loop-i.invariant.first c.in_ok-line.ensures.once;
      grows = grows_twice c.args.gates.now c.loop-i.gates new c.loop-i.invariant.grows c.in_ok-line.ensures.grows;
      few = omega (arith, c.loop-i.invariant.few, c.add.ensures.few);
      follow = subst (AreLinesOf N new) (sym c.put.ensures.put) (follow_put N new c.loop-i.lines c.loop-i.i c.in_ok-line.line kept here);
      sized = ap length c.put.ensures.put ∙ length-set c.loop-i.lines c.loop-i.i (Some c.in_ok-line.line) ∙ c.loop-i.invariant.sized;
      lined = λ net lt. subst (λ (lines : List (Option Line)). IsLined lines net) (sym c.put.ensures.put)
          (input-lined N c.loop-i.lines c.loop-i.i c.in_ok-line.line (omega (arith, c.loop-i.invariant.sized, c.requires.sized, c.inputs-i-end.ensures.count, c.loop-i-test.true)) c.loop-i.invariant.lined net lt);
    }

pub returns-clause-inputs_first : goal.returns-clause-inputs_first
returns-clause-inputs_first c =
    let all : c.loop-i.i ≡ c.args.net.now.circuit.inputs = omega (arith, c.loop-i.invariant.within, c.inputs-i-end.ensures.count, c.loop-i-test.false) in
    c.loop-i.invariant.first ∙ ap input_gates all

pub returns-clause-lined : goal.returns-clause-lined
returns-clause-lined c = record {
  inputs = λ net lt. c.loop-i.invariant.lined net (omega (arith, lt, c.inputs-i-end.ensures.count, c.loop-i-test.false));
  nodes = λ k low inside. absurd (omega arith);
}
