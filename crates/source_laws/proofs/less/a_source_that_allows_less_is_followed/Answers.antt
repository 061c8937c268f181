use Rattle.source_laws.proofs.AllowsLess.{alarms_carry, cells_carry, faults_carry, follows_carries}
use Rattle.source_laws.proofs.less.a_source_that_allows_less_is_followed.Goals as goal

pub returns : goal.returns
returns c = record { follows = follows_carries; cells = cells_carry; faults = faults_carry; alarms = alarms_carry }
