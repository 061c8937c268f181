use Rattle.point_laws.proofs.Heard.{networks_are_decided_by_alarms}
use Rattle.point_laws.proofs.alarms.networks_are_decided_by_alarms.Goals as goal

pub returns : goal.returns
returns c = record { decided = networks_are_decided_by_alarms }
