use Rattle.grading_laws.proofs.Shown.{alarms_are_shown as shown}
use Rattle.grading_laws.proofs.laws.alarms_are_shown.Goals as goal

pub returns : goal.returns
returns c = record { shown = shown }
