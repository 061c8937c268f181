use Rattle.gate_net.specs.declared.line.Line.{Line}
use Rattle.gate_net.proofs.NeededLines.{none-wanted, wanted-more, wanted-all}
use Rattle.gate_net.proofs.needed.mark_wanted.Goals as goal

pub loop-line-init : goal.loop-line-init
loop-line-init c = none-wanted c.args.gates.now c.args.wanted.now c.args.marks.now c.requires.sized c.requires.none

pub loop-line-preserved : goal.loop-line-preserved
loop-line-preserved c =
    let none : Line = record { number = 0 } in
    wanted-more c.args.gates.now c.args.wanted.now c.loop-line.marks c.mark.new.marks c.loop-line.line-index none c.loop-line-test.true c.requires.wanted c.loop-line.invariant c.mark.ensures.marked

pub returns : goal.returns
returns c = record { marks = wanted-all c.args.gates.now c.args.wanted.now c.loop-line.marks c.loop-line.line-index c.loop-line-test.false c.loop-line.invariant }
