-- A line that is a row adds it.
use Rattle.std.proofs.Common.{◌∙◌, ap, sym}
use Rattle.kiss_read.specs.LineKind.{same_kind}
use Rattle.kiss_read.specs.declared.kinds.LineKind.TheVariants.{Row}
use Rattle.kiss_read.proofs.LineSearch.{same_kinds}
use Rattle.kiss_read.proofs.RowNumbers.{row_line}
use Rattle.kiss_read.proofs.rows.add_row.Goals as goal

pub returns-in_ok-push : goal.returns-in_ok-push
returns-in_ok-push c = record {
  rows = λ before has.
      row_line c.args.heading c.args.states.now before c.args.line.now c.args.rows.now has c.row_at.result c.push.new.self
      c.in_ok-push.ensures.ok (ap (same_kind Row) (sym c.kind_of.ensures.kind) ∙ sym (same_kinds Row c.kind_of.result) ∙ sym c.if-eq.ensures)
      c.row_at.ensures.row c.row_at.ensures.number c.row_at.ensures.fit;
}
