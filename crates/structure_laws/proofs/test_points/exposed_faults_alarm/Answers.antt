use Rattle.structure_laws.proofs.TestPoints.{exposed_faults_alarm}
use Rattle.structure_laws.proofs.test_points.exposed_faults_alarm.Goals as goal

pub returns : goal.returns
returns c = record { alarm = exposed_faults_alarm }
