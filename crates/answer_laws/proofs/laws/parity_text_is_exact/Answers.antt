use Rattle.answers.proofs.SynthesisLemmas.{parity_bytes}
use Rattle.answer_laws.proofs.laws.parity_text_is_exact.Goals as goal

pub returns : goal.returns
returns c = record { text = parity_bytes }
