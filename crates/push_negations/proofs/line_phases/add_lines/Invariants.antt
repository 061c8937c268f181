use Rattle.std.proofs.Common.{◌≡◌, length}
use Rattle.push_negations.specs.Phases.{IsPushed}
use Rattle.push_negations.proofs.line_phases.add_lines.Given as goal

-- the lines so far have their phases
abbrev pub invariant-loop-number : goal.invariant-loop-number
invariant-loop-number l = record {
  pushed : IsPushed l.gates l.made l.phases.items;
  count : length l.phases.items ≡ l.number;
}
