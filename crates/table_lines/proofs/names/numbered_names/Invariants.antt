-- The names so far.
use Rattle.std.proofs.Common.{◌≡◌}
use Rattle.table_lines.specs.NamesText.{numbered_names}
use Rattle.table_lines.proofs.names.numbered_names.Given as goal

abbrev pub invariant-loop-number : goal.invariant-loop-number
invariant-loop-number l = l.names ≡ numbered_names l.letter l.number
