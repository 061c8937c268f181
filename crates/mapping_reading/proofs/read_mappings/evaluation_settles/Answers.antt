use Rattle.mapping_reading.proofs.Evaluations.{evaluation_settles}
use Rattle.mapping_reading.proofs.read_mappings.evaluation_settles.Goals as goal

pub returns : goal.returns
returns c = record { settles = evaluation_settles }
