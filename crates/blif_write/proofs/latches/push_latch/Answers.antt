use Rattle.std.proofs.Common.{arith}
use Rattle.std.proofs.lemmas.Grind.{common_steps}
use Rattle.blif_write.proofs.After.{after_words-append}
use Rattle.blif_write.proofs.latches.push_latch.Goals as goal

pub returns : goal.returns
returns c = grind (arith, common_steps, after_words-append)
