use Rattle.proof_answers.proofs.Fits.{looked_at_where_asked}
use Rattle.proof_answers.proofs.laws.looked_at_where_asked.Goals as goal

pub returns : goal.returns
returns c = record { exact = looked_at_where_asked }
