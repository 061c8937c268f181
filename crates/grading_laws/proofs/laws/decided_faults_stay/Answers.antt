use Rattle.grading_laws.proofs.MoreInputs.{decided_stays}
use Rattle.grading_laws.proofs.laws.decided_faults_stay.Goals as goal

pub returns : goal.returns
returns c = record { stays = decided_stays }
