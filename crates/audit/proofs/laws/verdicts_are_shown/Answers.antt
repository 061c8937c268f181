use Rattle.audit.proofs.Shown.{shown}
use Rattle.audit.proofs.laws.verdicts_are_shown.Goals as goal

pub returns : goal.returns
returns c = record { shown = shown }
