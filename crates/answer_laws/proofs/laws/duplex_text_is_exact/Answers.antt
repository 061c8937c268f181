use Rattle.answers.proofs.SynthesisLemmas.{duplex_bytes}
use Rattle.answer_laws.proofs.laws.duplex_text_is_exact.Goals as goal

pub returns : goal.returns
returns c = record { text = duplex_bytes }
