use Rattle.fault_secure.specs.Behaviour.{FollowsSource}
use Rattle.fault_secure.specs.CellSecure.{IsCellSecure}
use Rattle.fault_secure.specs.FaultSecure.{IsFaultSecure}
use Rattle.point_laws.specs.Heard.{IsAlarmSecure}
use Rattle.source_laws.proofs.AllowsLess.{alarms_carry, cells_carry, faults_carry, follows_carries}
use Rattle.table_refinement.proofs.RefinedTables.{is_enough}
use Rattle.table_refinement.proofs.refined.refined_tables_are_enough.Goals as goal

pub returns : goal.returns
returns c = record { follows = is_enough FollowsSource follows_carries; cells = is_enough IsCellSecure cells_carry; faults = is_enough IsFaultSecure faults_carry; alarms = is_enough IsAlarmSecure alarms_carry }
