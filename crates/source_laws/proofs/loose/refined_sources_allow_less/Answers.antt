use Rattle.source_laws.proofs.LooseRefinement.{refined_sources_allow_less}
use Rattle.source_laws.proofs.loose.refined_sources_allow_less.Goals as goal

pub returns : goal.returns
returns c = record { less = refined_sources_allow_less }
