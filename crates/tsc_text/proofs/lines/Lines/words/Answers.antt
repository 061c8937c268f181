use Rattle.std.proofs.Common.{◌<◌, List, ap, arith, length, sym, ◌∙◌}
use Rattle.tsc_text.specs.Row.{no_row}
use Rattle.tsc_text.specs.TextLine.{TextLine, the_line}
use Rattle.tsc_text.proofs.Lookup.{length-lines_at, length-words}
use Rattle.tsc_text.proofs.lines.Lines.words.Goals as goal

pub words-requires : goal.words-requires
words-requires c = omega (arith, length-lines_at c.self.inside.text.now c.self.inside.table.places 0 c.self.inside.table.rows, ap length c.self.view_is)

pub returns : goal.returns
returns c =
    let text = c.self.inside.text.now in
    let table = c.self.inside.table in
    let below : c.args.line < length table.rows = omega (arith, length-lines_at text table.places 0 table.rows, ap length c.self.view_is) in
    record {
      count = c.words.ensures.count
          ∙ sym (length-words text table.places table.rows c.args.line no_row c.self.invariant.rising below)
          ∙ ap (λ (ls : List TextLine). length (the_line ls c.args.line).words) c.self.view_is;
    }
