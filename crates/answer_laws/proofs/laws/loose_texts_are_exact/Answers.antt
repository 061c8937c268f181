use Rattle.answer_laws.proofs.LooseTexts.{duplex_bytes, parity_bytes}
use Rattle.answer_laws.proofs.laws.loose_texts_are_exact.Goals as goal

pub returns : goal.returns
returns c = record { parity = parity_bytes; duplex = duplex_bytes }
