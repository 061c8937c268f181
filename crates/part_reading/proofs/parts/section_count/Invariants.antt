-- The sections before the place are counted, and those from there on are left.
use Rattle.std.proofs.Common.{◌≡◌, ◌+◌, ◌-◌, ◌≤◌, drop, length}
use Rattle.part_reading.specs.Parts.{sections_behind}
use Rattle.part_reading.proofs.parts.section_count.Given as goal

abbrev pub invariant-loop-from : goal.invariant-loop-from
invariant-loop-from l = record {
  within : l.from ≤ length l.lines;
  few : l.count ≤ l.from;
  counted : l.count + length (sections_behind (drop l.from l.lines)) ≡ length (sections_behind l.lines);
}

abbrev pub decreases-loop-from : goal.decreases-loop-from
decreases-loop-from l = length l.lines - l.from
