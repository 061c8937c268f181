use Rattle.mapped_laws.proofs.BuiltNetlists.{section_is_built}
use Rattle.mapped_laws.proofs.laws.sections_are_built.Goals as goal

pub returns : goal.returns
returns c = record { built = section_is_built }
