use Rattle.mapping_laws.proofs.SmallMappings.{failing_block_does_more}
use Rattle.mapping_laws.proofs.inverters.a_failing_block_does_more.Goals as goal

pub returns : goal.returns
returns c = record { more = failing_block_does_more }
