-- No name before this one is long.
use Rattle.std.proofs.Common.{◌≡◌, drop}
use Rattle.table_lines.specs.LineFaults.{long_name, names_of}
use Rattle.table_lines.proofs.counts.long_name.Given as goal

abbrev pub invariant-loop-place : goal.invariant-loop-place
invariant-loop-place l = long_name (names_of l.line) ≡ long_name (drop l.place l.line.words)
