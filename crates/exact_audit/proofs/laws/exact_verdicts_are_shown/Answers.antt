use Rattle.exact_audit.proofs.Shown.{exact_verdicts_are_shown}
use Rattle.exact_audit.proofs.laws.exact_verdicts_are_shown.Goals as goal

pub returns : goal.returns
returns c = record { shown = exact_verdicts_are_shown }
