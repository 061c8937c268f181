use Rattle.mapping_reading.proofs.Firsts.{firsts_are_one}
use Rattle.mapping_reading.proofs.found_blocks.first_reasons_are_one.Goals as goal

pub returns : goal.returns
returns c = record { one = firsts_are_one }
