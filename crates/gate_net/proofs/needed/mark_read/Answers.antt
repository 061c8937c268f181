use Rattle.std.proofs.Common.{subst, sym, arith}
use Rattle.gate_net.specs.Needed.{MarksNeeded}
use Rattle.gate_net.proofs.NeededLines.{marks-more}
use Rattle.gate_net.proofs.needed.mark_read.Goals as goal

pub loop-place-init : goal.loop-place-init
loop-place-init c = subst (λ left. MarksNeeded c.args.gates.now c.args.wanted.now left c.args.marks.now) (sym c.len-place.ensures.count) c.requires.marks

pub loop-place-preserved : goal.loop-place-preserved
loop-place-preserved c =
    marks-more c.args.gates.now c.args.wanted.now c.loop-place.marks c.mark_operands.new.marks c.loop-place.place _ (omega (arith, c.loop-place-test.true))
    (omega (arith, c.loop-place-test.true, c.loop-place.auto.place, c.len-place.ensures.count)) c.mark_operands.ensures.sound c.loop-place.invariant c.mark_operands.ensures.operands

pub mark_operands-requires-clause-few : goal.mark_operands-requires-clause-few
mark_operands-requires-clause-few c = c.len-place.ensures.sound.few

pub returns : goal.returns
returns c =
    record { marks = subst (λ left. MarksNeeded c.args.gates.now c.args.wanted.now left c.loop-place.marks) (omega (arith, c.loop-place-test.false)) c.loop-place.invariant }
