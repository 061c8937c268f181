use Rattle.answer_laws.proofs.GradedLaws.{alarms_are_simulated as simulated}
use Rattle.answer_laws.proofs.laws.alarms_are_simulated.Goals as goal

pub returns : goal.returns
returns c = record { alarms = simulated c.sections_are_built.ensures.built c.alarms_are_shown.ensures.shown }
