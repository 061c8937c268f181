use Rattle.std.proofs.Common.{sym, ◌∙◌}
use Rattle.joint_text.proofs.LineTexts.{ends_behind}
use Rattle.joint_text.proofs.words.last_of.Goals as goal

pub returns-else-is_empty : goal.returns-else-is_empty
returns-else-is_empty c = record { last = ends_behind c.args.first.now c.args.second.now (sym c.is_empty.ensures ∙ c.if-is_empty.false) }
