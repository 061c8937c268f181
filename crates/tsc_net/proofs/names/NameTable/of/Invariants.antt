-- The names so far.
use Rattle.std.proofs.Common.{◌≡◌, take}
use Rattle.tsc_net.proofs.names.NameTable.of.Given as goal

abbrev pub invariant-loop-number : goal.invariant-loop-number
invariant-loop-number l = l.table ≡ take l.number l.net.names
