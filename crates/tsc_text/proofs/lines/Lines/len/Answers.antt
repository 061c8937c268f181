-- The lines and their words.
use Rattle.std.proofs.Common.{◌<◌, ◌^◌, ap, arith, length, subst, sym, ◌∙◌}
use Rattle.tsc_text.specs.TextLine.{word_count}
use Rattle.tsc_text.proofs.Lookup.{length-lines_at, word_count-lines_at}
use Rattle.tsc_text.proofs.lines.Lines.len.Goals as goal

pub returns : goal.returns
returns c =
    let text = c.self.inside.text.now in
    let places = c.self.inside.table.places in
    let rows = c.self.inside.table.rows in
    let few = c.self.invariant.few in
    record {
      count = c.len.ensures.count ∙ sym (length-lines_at text places 0 rows) ∙ ap length c.self.view_is;
      words = subst (λ lines. word_count lines < 2 ^ 32) c.self.view_is (omega (arith, word_count-lines_at text places 0 rows c.self.invariant.rising, few));
    }
