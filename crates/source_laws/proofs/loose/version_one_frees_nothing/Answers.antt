use Rattle.source_laws.proofs.LooseRefinement.{version_one_frees_nothing}
use Rattle.source_laws.proofs.loose.version_one_frees_nothing.Goals as goal

pub returns : goal.returns
returns c = record { alike = version_one_frees_nothing }
