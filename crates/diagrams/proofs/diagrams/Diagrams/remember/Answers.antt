use Rattle.std.proofs.Common.{arith}
use Rattle.diagrams.proofs.Sound.{remembered}
use Rattle.diagrams.proofs.diagrams.Diagrams.remember.Goals as goal

pub invariant_of-self : goal.invariant_of-self
invariant_of-self c =
    let first = rw (← c.self.view_is) at c.requires.first in
    let second = rw (← c.self.view_is) at c.requires.second in
    let right = rw (← c.self.view_is) at c.requires.right in
    remembered _ _ _ _ _ c.place-there.result c.args.memo c.self.invariant (omega (arith, c.place-there.ensures.inside, c.len.ensures))
    (record { first = first; second = second; result = right.node; is = right.is })
