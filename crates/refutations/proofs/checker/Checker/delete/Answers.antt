use Rattle.refutations.proofs.Soundness.{deleted_sound}
use Rattle.refutations.proofs.Readiness.{ready_without}
use Rattle.refutations.proofs.checker.Checker.delete.Goals as goal

pub invariant_of-self : goal.invariant_of-self
invariant_of-self c = ready_without _ _ _ c.args.number c.self.invariant c.remove.ensures.without

pub returns-clause-sound : goal.returns-clause-sound
returns-clause-sound c = λ formula sound. deleted_sound formula c.args.self.now _ _ _ c.args.number _ _ _ c.self.view_is c.remove.ensures.without sound
