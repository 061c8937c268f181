use Rattle.std.proofs.Common.{◌+◌, ◌<◌, ◌≤◌, ℕ, List, drop, length, sym, ap, ◌∙◌, arith}
use Rattle.fault_secure.specs.Circuit.{nets}
use Rattle.blif_write.proofs.NetFacts.{number-known}
use Rattle.module_join.specs.JointNet.{with_texts}
use Rattle.module_join.specs.JoinParts.{planned_as}
use Rattle.joint_text.specs.JointNamed.{shown_names}
use Rattle.joint_text.proofs.NameSteps.{shown_step, shown_end}
use Rattle.joint_text.proofs.names.add_shown.Goals as goal

pub net_text-requires : goal.net_text-requires
net_text-requires c = record {
  net =
      let C = c.args.part.now.net.circuit in
      let sized = c.requires.planned.outputs in
      let within : c.loop-place.place < length c.args.part.now.net.circuit.outputs = omega (arith, c.loop-place-test.true, c.own_outputs-place-end.ensures.count, sized) in
      number-known (nets C) c.outputs.result.now C.outputs c.loop-place.place _ c.outputs.ensures.outputs within c.nets-nets.ensures.checked.closed.outputs;
}

pub loop-place-preserved : goal.loop-place-preserved
loop-place-preserved c =
    let p = planned_as c.args.part.now in
    let place = c.loop-place.place in
    let low : c.loop-place.place < c.args.part.now.plan.outputs = omega (arith, c.loop-place-test.true, c.own_outputs-place-end.ensures.count) in
    ap (λ (names : List (List ℕ)). with_texts names (drop (place + 1) (shown_names c.args.label.now p))) c.in_ok-add.ensures.ok
    ∙ shown_step c.args.label.now p c.requires.planned c.outputs.result.now place _ c.loop-place.names c.as_slice.result.now c.outputs.ensures.outputs low
    (c.as_slice.ensures.whole ∙ c.in_ok-text.ensures.text)
    ∙ c.loop-place.invariant

pub returns : goal.returns
returns c =
    let p = planned_as c.args.part.now in
    let end : c.args.part.now.plan.outputs ≤ c.loop-place.place = omega (arith, c.loop-place-test.false, c.own_outputs-place-end.ensures.count) in
    record { added = sym (shown_end c.args.label.now p c.requires.planned c.loop-place.place c.loop-place.names end) ∙ c.loop-place.invariant }
