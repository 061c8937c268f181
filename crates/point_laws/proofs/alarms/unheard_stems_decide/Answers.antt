use Rattle.point_laws.proofs.Heard.{unheard_stems_decide, unheard_stem_is_wrong}
use Rattle.point_laws.proofs.alarms.unheard_stems_decide.Goals as goal

pub returns : goal.returns
returns c = record { decide = unheard_stems_decide; wrong = unheard_stem_is_wrong }
