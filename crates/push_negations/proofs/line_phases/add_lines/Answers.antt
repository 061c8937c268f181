use Rattle.std.proofs.Common.{arith}
use Rattle.push_negations.proofs.Pushed.{pushed_more, line_room}
use Rattle.push_negations.proofs.line_phases.add_lines.Goals as goal

pub loop-number-preserved : goal.loop-number-preserved
loop-number-preserved c = record {
  pushed = pushed_more c.args.gates.now c.loop-number.made c.add_gate.new.made c.loop-number.phases.items c.deref.result.now c.push.new.self.items c.in_ok-pair.pair c.loop-number.number c.gate-gate.result
      c.gate-gate.ensures.sound c.loop-number.invariant.pushed c.loop-number.invariant.count (omega (arith, c.loop-number-test.true, c.len-number-end.ensures.count)) c.deref.ensures.value c.gate-gate.ensures.gate
      c.in_ok-pair.ensures.grown c.in_ok-pair.ensures.phases c.in_ok-push.ensures.items;
  count = omega (arith, c.in_ok-push.ensures.len, c.loop-number.invariant.count);
}

pub add_gate-requires-clause-room : goal.add_gate-requires-clause-room
add_gate-requires-clause-room c =
    line_room c.args.gates.now c.loop-number.made c.loop-number.phases.items c.loop-number.number c.gate-gate.result c.loop-number.invariant.pushed c.loop-number.invariant.count
    (omega (arith, c.loop-number-test.true, c.len-number-end.ensures.count)) c.gate-gate.ensures.gate c.requires.room
