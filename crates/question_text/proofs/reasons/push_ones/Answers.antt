use Rattle.std.proofs.Common.{arith}
use Rattle.std.proofs.lemmas.Grind.{common_steps}
use Rattle.question_text.proofs.Ends.{ones_next}
use Rattle.question_text.proofs.reasons.push_ones.Goals as goal

pub loop-net-preserved : goal.loop-net-preserved
loop-net-preserved c =
    grind (arith, common_steps, ones_next)
