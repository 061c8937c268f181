use Rattle.point_laws.proofs.Heard.{sources_allow_one_output}
use Rattle.point_laws.proofs.alarms.sources_allow_one_output.Goals as goal

pub returns : goal.returns
returns c = record { one = sources_allow_one_output }
