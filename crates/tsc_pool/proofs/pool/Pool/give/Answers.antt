use Rattle.std.proofs.Common.{refl, arith}
use Rattle.tsc_pool.proofs.Moves.{IsWhole-more, rows_out-given, free_below_rows}
use Rattle.tsc_pool.proofs.pool.Pool.give.Goals as goal

pub unwrap-requires : goal.unwrap-requires
unwrap-requires c =
    let out = rw (← c.self.view_is, ← c.spend-index.ensures.index) at c.requires.out in
    c.push.ensures.succeeds (omega (arith, free_below_rows _ _ c.self.invariant.0 out, c.self.inside.free.ok.0, c.self.invariant.1))

pub invariant_of-self : goal.invariant_of-self
invariant_of-self c =
    let out = rw (← c.self.view_is, ← c.spend-index.ensures.index) at c.requires.out in
    (IsWhole-more _ _ _ (record { rows = refl; width = refl; block = refl }) (rw c.unwrap.ensures at c.push.ensures.items) c.self.invariant.0 out, omega (arith, c.self.invariant.1, c.push.ensures.capacity))

pub returns-clause-remove : goal.returns-clause-remove
returns-clause-remove c =
    rw (← c.self.view_is, ← c.spend-index.ensures.index) (rows_out-given _ _ _ (record { rows = refl; width = refl; block = refl }) (rw c.unwrap.ensures at c.push.ensures.items))

pub returns-clause-whole : goal.returns-clause-whole
returns-clause-whole c =
    let out = rw (← c.self.view_is, ← c.spend-index.ensures.index) at c.requires.out in
    IsWhole-more _ _ _ (record { rows = refl; width = refl; block = refl }) (rw c.unwrap.ensures at c.push.ensures.items) c.self.invariant.0 out
