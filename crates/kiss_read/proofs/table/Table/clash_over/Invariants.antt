-- The places of the rows so far are kept, and the first conflict is that of the rows from here on.
use Rattle.std.proofs.Common.{◌≡◌, take, drop}
use Rattle.kiss_read.specs.Conflict.{first_clash, first_clash_behind}
use Rattle.kiss_read.specs.Clashes.{lists_of, rows_in, AreGrouped}
use Rattle.kiss_read.proofs.table.Table.clash_over.Given as goal

abbrev pub invariant-loop-later : goal.invariant-loop-later
invariant-loop-later l = record {
  grouped : AreGrouped (rows_in l.self) l.self.states l.later (lists_of l.lists);
  clash : first_clash (rows_in l.self) ≡ first_clash_behind (take l.later (rows_in l.self)) (drop l.later (rows_in l.self));
}
