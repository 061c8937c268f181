use Rattle.point_laws.proofs.Heard.{unheard_is_insecure}
use Rattle.point_laws.proofs.alarms.unheard_is_insecure.Goals as goal

pub returns : goal.returns
returns c = record { insecure = unheard_is_insecure }
