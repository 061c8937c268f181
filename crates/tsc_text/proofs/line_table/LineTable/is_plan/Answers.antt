use Rattle.std.proofs.Common.{ap, sym, ◌∙◌}
use Rattle.tsc_text.specs.Row.{PlacedLine}
use Rattle.tsc_text.proofs.LineTables.{line-below, row-is}
use Rattle.tsc_text.proofs.line_table.LineTable.is_plan.Goals as goal

pub is_plan-requires : goal.is_plan-requires
is_plan-requires c = line-below c.self.inside.kept c.self.inside.has_byte c.self.inside.lines c.args.self.now c.args.line c.self.view_is c.requires

pub returns : goal.returns
returns c = record {
  plan =
      c.is_plan.ensures.plan
      ∙ sym (ap (λ (row : PlacedLine). row.is_plan) (row-is c.self.inside.kept c.self.inside.has_byte c.self.inside.lines c.args.self.now c.args.line c.self.view_is c.requires));
}
