use Rattle.std.proofs.Common.{◌≡◌}
use Rattle.tsc_text.specs.Section.{end_of}
use Rattle.tsc_text.proofs.lines.Lines.end_from.Given as goal

abbrev pub invariant-loop-line : goal.invariant-loop-line
invariant-loop-line l = end_of l.self l.line l.end ≡ end_of l.self l.from l.end
