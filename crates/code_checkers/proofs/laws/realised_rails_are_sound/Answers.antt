use Rattle.code_checkers.proofs.Block.{checker_sound}
use Rattle.code_checkers.proofs.laws.realised_rails_are_sound.Goals as goal

pub returns : goal.returns
returns c = record { sound = checker_sound }
