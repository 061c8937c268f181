use Rattle.wide_audit.proofs.Shown.{wide_verdicts_are_shown}
use Rattle.wide_audit.proofs.laws.wide_verdicts_are_shown.Goals as goal

pub returns : goal.returns
returns c = record { shown = wide_verdicts_are_shown }
