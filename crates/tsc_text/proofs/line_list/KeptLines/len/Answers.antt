use Rattle.std.proofs.Common.{ap, length, sym, ◌∙◌}
use Rattle.tsc_text.proofs.JumpLines.{length-lines_from}
use Rattle.tsc_text.proofs.line_list.KeptLines.len.Goals as goal

pub returns : goal.returns
returns c = record { count = c.len.ensures.count ∙ sym (length-lines_from c.self.inside.jumps 0 c.self.inside.marks) ∙ ap length c.self.view_is }
