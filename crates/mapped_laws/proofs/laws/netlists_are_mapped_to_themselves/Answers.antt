use Rattle.mapped_laws.proofs.OwnAnswer.{netlists_are_mapped_to_themselves}
use Rattle.mapped_laws.proofs.laws.netlists_are_mapped_to_themselves.Goals as goal

pub returns : goal.returns
returns c = record { yes = netlists_are_mapped_to_themselves }
