use Rattle.own_mapping_laws.proofs.OwnMapping.{loose_answers_are_their_own_mappings}
use Rattle.own_mapping_laws.proofs.laws.loose_answers_are_their_own_mappings.Goals as goal

pub returns : goal.returns
returns c = record { yes = loose_answers_are_their_own_mappings }
