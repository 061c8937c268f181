-- None of the names before this one stands twice.
use Rattle.std.proofs.Common.{◌≡◌, ◌++◌, take, drop}
use Rattle.tsc_net.specs.NetFault.{repeat_after}
use Rattle.table_lines.proofs.names.has_repeat_behind.Given as goal

abbrev pub invariant-loop-place : goal.invariant-loop-place
invariant-loop-place l = repeat_after (l.before ++ take l.place l.names) (drop l.place l.names) ≡ repeat_after l.before l.names
