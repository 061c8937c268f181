use Rattle.point_laws.proofs.Heard.{wrong_unheard_is_insecure}
use Rattle.point_laws.proofs.alarms.wrong_unheard_is_insecure.Goals as goal

pub returns : goal.returns
returns c = record { insecure = wrong_unheard_is_insecure }
