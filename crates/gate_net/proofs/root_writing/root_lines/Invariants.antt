use Rattle.std.proofs.Common.{◌≡◌, map, take}
use Rattle.gate_net.proofs.root_writing.root_lines.Given as goal

abbrev pub invariant-loop-root : goal.invariant-loop-root
invariant-loop-root l = l.lines ≡ map (λ root. root.line) (take l.root-index l.roots)
