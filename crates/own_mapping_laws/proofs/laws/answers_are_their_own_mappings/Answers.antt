use Rattle.own_mapping_laws.proofs.OwnMapping.{answers_are_their_own_mappings}
use Rattle.own_mapping_laws.proofs.laws.answers_are_their_own_mappings.Goals as goal

pub returns : goal.returns
returns c = record { yes = answers_are_their_own_mappings }
