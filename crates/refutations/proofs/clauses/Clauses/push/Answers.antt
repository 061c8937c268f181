use Rattle.std.proofs.Common.{refl, arith}
use Rattle.refutations.proofs.StoreLemmas.{view_more, view_added, held_added, on_error}
use Rattle.refutations.proofs.clauses.Clauses.push.Goals as goal

pub returns-in_err-push-clause-err : goal.returns-in_err-push-clause-err
returns-in_err-push-clause-err c =
    on_error _ _ (view_more _ _ _ _ c.args.literals.now _ _ c.self.view_is c.self.invariant c.in_err-push.ensures.items c.in_ok-extend_from_slice.ensures.items)

pub invariant_of-self-2 : goal.invariant_of-self-2
invariant_of-self-2 c =
    let above = rw (← c.self.view_is) at c.requires.above in
    held_added _ _ _ _ _ _ _ c.args.literals.now _ c.self.invariant above (omega (arith, c.len-start.ensures)) refl c.in_ok-push.ensures.items c.in_ok-extend_from_slice.ensures.items

pub returns-clause-ok : goal.returns-clause-ok
returns-clause-ok c =
    view_added _ _ _ _ _ _ _ c.args.literals.now _ _ c.self.view_is c.self.invariant (omega (arith, c.len-start.ensures)) refl c.in_ok-push.ensures.items c.in_ok-extend_from_slice.ensures.items
