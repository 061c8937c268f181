use Rattle.grading_laws.proofs.Shown.{vectors_alarm as alarm}
use Rattle.grading_laws.proofs.laws.vectors_alarm.Goals as goal

pub returns : goal.returns
returns c = record { alarm = alarm }
