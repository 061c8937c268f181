use Rattle.blif_write.proofs.LimitsAlone.{limits-alone}
use Rattle.blif_write.proofs.laws.limits_alone_are_refused.Goals as goal

pub returns : goal.returns
returns c = record { refused = λ net plan checked told whole different lines. limits-alone net plan checked told whole different lines }
