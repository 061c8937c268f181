-- No number below is free: the search goes on from here.
use Rattle.std.proofs.Common.{◌≡◌, length, ◌-◌}
use Rattle.tsc_net.specs.Parts.{free_number, free_number_from}
use Rattle.net_writing.proofs.fresh_names.fresh_number.Given as goal

abbrev pub invariant-loop-number : goal.invariant-loop-number
invariant-loop-number l = free_number_from l.source.names (length l.source.names - l.number) l.number ≡ free_number l.source.names
