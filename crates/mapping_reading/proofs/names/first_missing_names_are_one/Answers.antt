use Rattle.mapping_reading.proofs.Firsts.{first_missing_is_one}
use Rattle.mapping_reading.proofs.names.first_missing_names_are_one.Goals as goal

pub returns : goal.returns
returns c = record { one = first_missing_is_one }
