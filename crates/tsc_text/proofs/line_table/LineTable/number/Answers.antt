use Rattle.std.proofs.Common.{ap, sym, ◌∙◌}
use Rattle.tsc_text.specs.Row.{PlacedLine}
use Rattle.tsc_text.proofs.LineTables.{line-below, row-is}
use Rattle.tsc_text.proofs.line_table.LineTable.number.Goals as goal

pub number-requires : goal.number-requires
number-requires c = line-below c.self.inside.kept c.self.inside.has_byte c.self.inside.lines c.args.self.now c.args.line c.self.view_is c.requires

pub returns : goal.returns
returns c = record {
  number =
      c.number.ensures.number
      ∙ sym (ap (λ (row : PlacedLine). row.number) (row-is c.self.inside.kept c.self.inside.has_byte c.self.inside.lines c.args.self.now c.args.line c.self.view_is c.requires));
}
