use Rattle.std.proofs.Common.{◌≡◌, map, take}
use Rattle.push_negations.specs.Phases.{positive_at}
use Rattle.push_negations.proofs.line_phases.positive_lines.Given as goal

-- the lines made so far
abbrev pub invariant-loop-line : goal.invariant-loop-line
invariant-loop-line l = l.made ≡ map (positive_at l.phases) (take l.line-index l.lines)
