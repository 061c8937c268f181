use Rattle.std.proofs.Common.{sym, ◌∙◌}
use Rattle.refutations.proofs.Soundness.{added_sound}
use Rattle.refutations.proofs.checker.Checker.add.Goals as goal

pub returns-in-Ok-include-clause-sound : goal.returns-in-Ok-include-clause-sound
returns-in-Ok-include-clause-sound c = λ formula sound.
    added_sound formula c.args.self.now c.judge.new.self c.include.new.self c.args.number c.args.literals.now _ c.in-Ok-Followed.ensures.same c.in-Ok-include.ensures.ok
    (sym c.in-Ok-Followed.ensures.answer ∙ c.in-Ok-Followed.field-0-is) sound
