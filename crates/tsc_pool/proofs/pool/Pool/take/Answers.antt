use Rattle.std.proofs.Common.{refl, arith}
use Rattle.tsc_pool.proofs.Moves.{IsWhole-less, is_out_in_less, rows_out-taken}
use Rattle.tsc_pool.proofs.pool.Pool.take.Goals as goal

pub invariant_of-self-2 : goal.invariant_of-self-2
invariant_of-self-2 c = (IsWhole-less _ _ _ (record { rows = refl; width = refl; block = refl }) c.in_ok-index.ensures.items c.self.invariant.0, omega (arith, c.self.invariant.1, c.pop.ensures.capacity))

pub returns-clause-out : goal.returns-clause-out
returns-clause-out c = rw c.new.ensures.index (is_out_in_less _ _ _ (record { rows = refl; width = refl; block = refl }) c.in_ok-index.ensures.items c.self.invariant.0)

pub returns-clause-insert : goal.returns-clause-insert
returns-clause-insert c = rw (← c.self.view_is, c.new.ensures.index) (rows_out-taken _ _ _ (record { rows = refl; width = refl; block = refl }) c.in_ok-index.ensures.items c.self.invariant.0)

pub returns-clause-whole : goal.returns-clause-whole
returns-clause-whole c = IsWhole-less _ _ _ (record { rows = refl; width = refl; block = refl }) c.in_ok-index.ensures.items c.self.invariant.0
