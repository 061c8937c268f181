use Rattle.std.proofs.Common.{◌<◌, List, ap, arith, length, sym, ◌∙◌}
use Rattle.tsc_text.specs.Row.{no_row}
use Rattle.tsc_text.specs.TextLine.{TextLine, the_line}
use Rattle.tsc_text.proofs.Lookup.{length-lines_at, the_line-lines_at}
use Rattle.tsc_text.proofs.lines.Lines.is_plan.Goals as goal

pub is_plan-requires : goal.is_plan-requires
is_plan-requires c = omega (arith, length-lines_at c.self.inside.text.now c.self.inside.table.places 0 c.self.inside.table.rows, ap length c.self.view_is)

pub returns : goal.returns
returns c =
    let text = c.self.inside.text.now in
    let table = c.self.inside.table in
    let below : c.args.line < length table.rows = omega (arith, length-lines_at text table.places 0 table.rows, ap length c.self.view_is) in
    record {
      plan = c.is_plan.ensures.plan
          ∙ sym (ap (λ (l : TextLine). l.is_plan) (the_line-lines_at text table.places 0 table.rows c.args.line no_row below))
          ∙ ap (λ (ls : List TextLine). (the_line ls c.args.line).is_plan) c.self.view_is;
    }
