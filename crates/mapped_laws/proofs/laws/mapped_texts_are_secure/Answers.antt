use Rattle.mapped_laws.proofs.OneReply.{mapped_texts_are_secure}
use Rattle.mapped_laws.proofs.laws.mapped_texts_are_secure.Goals as goal

pub returns : goal.returns
returns c = record { secure = mapped_texts_are_secure }
