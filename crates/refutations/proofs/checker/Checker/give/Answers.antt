use Rattle.refutations.proofs.Soundness.{given_sound}
use Rattle.refutations.proofs.checker.Checker.give.Goals as goal

pub returns-clause-sound : goal.returns-clause-sound
returns-clause-sound c = given_sound c.include.result c.args.self.now c.include.new.self _ c.args.literals.now c.include.ensures.ok
