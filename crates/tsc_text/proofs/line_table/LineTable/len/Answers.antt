use Rattle.std.proofs.Common.{ap, length, sym, ◌∙◌}
use Rattle.tsc_text.specs.Table.{Table}
use Rattle.tsc_text.proofs.KeptWords.{length-rows_of}
use Rattle.tsc_text.proofs.line_table.LineTable.len.Goals as goal

pub returns : goal.returns
returns c = record { count = c.len.ensures.count ∙ sym (length-rows_of 0 0 c.self.inside.lines) ∙ ap (λ (t : Table). length t.rows) c.self.view_is }
