use Rattle.state_code.proofs.Without.{keeps_signs}
use Rattle.state_code.proofs.laws.added_signs.Goals as goal

pub returns : goal.returns
returns c = record { signs = λ old new sound negates grows none. keeps_signs old new sound negates grows none }
