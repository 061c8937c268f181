use Rattle.answer_laws.proofs.MadeAccepted.{made_reports_are_backed, made_texts_are_allowed}
use Rattle.answer_laws.proofs.laws.made_reports_are_backed.Goals as goal

pub returns : goal.returns
returns c = record { allowed = made_texts_are_allowed; backed = made_reports_are_backed }
