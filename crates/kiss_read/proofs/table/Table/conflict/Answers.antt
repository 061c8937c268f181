-- The rows at the two places.
use Rattle.std.proofs.Common.{sym, ap₂, ◌∙◌}
use Rattle.kiss_read.specs.Conflict.{conflict}
use Rattle.kiss_read.proofs.RowConflicts.{row_of_table, row_read}
use Rattle.kiss_read.proofs.table.Table.conflict.Goals as goal

pub returns : goal.returns
returns c =
    let table = c.args.self.now in
    record {
      conflict =
          c.rows_conflict.ensures.conflict table.heading.inputs table.heading.outputs table.states table.heading.reset
          (row_of_table table c.args.later _ c.requires.later c.get.ensures.item c.requires.fit)
          (row_of_table table c.args.earlier _ c.requires.earlier c.get-2.ensures.item c.requires.fit)
          ∙ sym (ap₂ conflict (row_read table c.args.later _ c.requires.later c.get.ensures.item) (row_read table c.args.earlier _ c.requires.earlier c.get-2.ensures.item));
    }
