use Rattle.structure_laws.proofs.FirstErrors.{unate_is_safe}
use Rattle.structure_laws.proofs.ParityStep.{parity_is_safe}
use Rattle.structure_laws.proofs.first_error.no_wrong_codeword.Goals as goal

pub returns : goal.returns
returns c = record { unate = unate_is_safe; parity = parity_is_safe }
