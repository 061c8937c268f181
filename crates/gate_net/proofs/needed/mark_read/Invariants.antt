use Rattle.gate_net.specs.Needed.{MarksNeeded}
use Rattle.gate_net.proofs.needed.mark_read.Given as goal

-- from this line on what the gates of marked lines read is marked
abbrev pub invariant-loop-place : goal.invariant-loop-place
invariant-loop-place l = MarksNeeded l.gates l.wanted l.place l.marks
