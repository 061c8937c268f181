use Rattle.std.proofs.Common.{◌≡◌, ◌++◌, ◌-◌, ◌<◌, length}
use Rattle.diagrams.specs.Least.{least_from}
use Rattle.diagrams.proofs.diagrams.Diagrams.path.Given as goal

abbrev pub invariant-loop-level : goal.invariant-loop-level
invariant-loop-level l = record {
  inside : l.place < length l.self.rows;
  path : l.bits.items ++ least_from l.self.rows l.end (l.self.inputs - l.level) l.level l.place ≡ least_from l.self.rows l.end l.self.inputs 0 l.row;
}
