-- The sections before the place were read, and those from there on are left.
use Rattle.std.proofs.Common.{◌-◌, length}
use Rattle.part_reading.proofs.PartLemmas.{AreReadTo}
use Rattle.part_reading.proofs.parts.read_parts.Given as goal

abbrev pub invariant-loop-from : goal.invariant-loop-from
invariant-loop-from l = AreReadTo l.lines l.from l.parts

abbrev pub decreases-loop-from : goal.decreases-loop-from
decreases-loop-from l = length l.lines - l.from
