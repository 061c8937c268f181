-- No number below is free: the search goes on from here.
use Rattle.std.proofs.Common.{◌≡◌, length, ◌-◌}
use Rattle.tsc_net.specs.Parts.{free_number_under, free_number_under_from}
use Rattle.tsc_net.proofs.names.NameTable.free_number.Given as goal

abbrev pub invariant-loop-number : goal.invariant-loop-number
invariant-loop-number l = free_number_under_from l.letter l.self (length l.self - l.number) l.number ≡ free_number_under l.letter l.self
