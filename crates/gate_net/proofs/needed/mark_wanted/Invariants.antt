use Rattle.std.proofs.Common.{take}
use Rattle.gate_net.proofs.NeededLines.{MarksWanted}
use Rattle.gate_net.proofs.needed.mark_wanted.Given as goal

-- the wanted lines so far are marked
abbrev pub invariant-loop-line : goal.invariant-loop-line
invariant-loop-line l = MarksWanted l.gates l.wanted (take l.line-index l.wanted) l.marks
