use Rattle.source_laws.proofs.AllowsLess.{refinements_chain}
use Rattle.source_laws.proofs.less.refinements_chain.Goals as goal

pub returns : goal.returns
returns c = record { chain = refinements_chain }
