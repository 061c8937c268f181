use Rattle.std.proofs.Common.{sym, ◌∙◌, ◌<◌, subst, arith, length}
use Rattle.code_checkers.specs.Gates.{ReadsBelow}
use Rattle.twin_synth.proofs.GatesPushed.{gate_there, reads_there, nets_room, all_counted, gate_pushed}
use Rattle.twin_synth.proofs.checker.push_all.Goals as goal

pub push_gate-requires-clause-reads : goal.push_gate-requires-clause-reads
push_gate-requires-clause-reads c =
    subst (λ list. ReadsBelow (length list) c.get.result) (sym c.as_slice.ensures.whole)
    (reads_there c.args.gates.now.gates c.loop-place.place c.get.result c.loop-place.known c.args.word.now _ c.requires.ordered (omega (arith, c.loop-place-test.true, c.len-place-end.ensures.count))
    c.get.ensures.gate c.loop-place.invariant.0)

pub push_gate-requires-clause-words : goal.push_gate-requires-clause-words
push_gate-requires-clause-words c place is =
    let low : c.loop-place.place < length c.args.gates.now.gates = omega (arith, c.loop-place-test.true, c.len-place-end.ensures.count) in
    c.requires.words c.loop-place.place place low (sym (gate_there c.args.gates.now.gates c.loop-place.place c.get.result low c.get.ensures.gate) ∙ is)

pub push_gate-requires-clause-room : goal.push_gate-requires-clause-room
push_gate-requires-clause-room c =
    nets_room c.args.numbered.now c.loop-place.numbered c.loop-place.known c.args.gates.now.gates c.loop-place.place _ c.loop-place.invariant.1
    (omega (arith, c.loop-place-test.true, c.len-place-end.ensures.count)) c.requires.room

pub loop-place-preserved : goal.loop-place-preserved
loop-place-preserved c =
    gate_pushed c.args.numbered.now c.loop-place.numbered c.push_gate.new.numbered c.args.gates.now.gates c.loop-place.place _ c.get.result c.as_slice.result.now c.loop-place.known
    c.push.new.self c.args.word.now c.in_ok-net.net c.requires.ordered c.loop-place-test.true c.len-place-end.ensures.count c.get.ensures.gate c.as_slice.ensures.whole c.loop-place.invariant
    c.in_ok-net.ensures.net c.in_ok-net.ensures.pushed c.in_ok-push.ensures.ok

pub returns-clause-counted : goal.returns-clause-counted
returns-clause-counted c =
    all_counted c.loop-place.known c.args.word.now _ c.loop-place.place c.len-place-end.result c.args.gates.now.gates c.loop-place.invariant.0 c.len-place-end.ensures.count
    (omega (arith, c.loop-place-test.false))
