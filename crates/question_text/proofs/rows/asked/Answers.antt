use Rattle.std.proofs.Common.{arith}
use Rattle.std.proofs.lemmas.Grind.{common_steps}
use Rattle.question_text.proofs.Asked.{asked_next, asked_none}
use Rattle.question_text.proofs.rows.asked.Goals as goal

pub loop-pin-preserved : goal.loop-pin-preserved
loop-pin-preserved c = grind (arith, common_steps, asked_next)

pub returns : goal.returns
returns c = grind (arith, common_steps, asked_none)
