use Rattle.code_checkers.proofs.Realised.{rails_are_realised}
use Rattle.code_checkers.proofs.laws.rails_are_realised.Goals as goal

pub returns : goal.returns
returns c = record { realised = rails_are_realised }
