use Rattle.mapped_laws.proofs.OneReply.{mapped_replies_are_determined}
use Rattle.mapped_laws.proofs.laws.mapped_replies_are_determined.Goals as goal

pub returns : goal.returns
returns c = record { one = mapped_replies_are_determined }
