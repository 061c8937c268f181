use Rattle.std.proofs.Common.{◌≡◌, map, take}
use Rattle.machine_lines.proofs.choices.decoded_of.Given as goal

-- the lines of the cases so far
abbrev pub invariant-loop-case : goal.invariant-loop-case
invariant-loop-case l = l.lines ≡ map (λ case. case.decoded) (take l.case-index l.cases)
