-- The place that is found, or none.
use Rattle.std.proofs.Common.{arith, refl}
use Rattle.pla_read.proofs.NextBit.{found_after, none_before}
use Rattle.pla_read.proofs.spread.next_bit.Goals as goal

pub returns-then-place-places-clause-none : goal.returns-then-place-places-clause-none
returns-then-place-places-clause-none c = λ place low before.
    let below = c.if-place-places.true in
    none_before c.args.number c.args.places c.args.from c.requires.few _ place refl low before (omega arith)

pub returns-then-place-places-clause-some : goal.returns-then-place-places-clause-some
returns-then-place-places-clause-some c = λ _.
    found_after c.args.number c.args.places c.args.from c.requires.few _ refl c.if-place-places.true

pub returns-else-place-places-clause-none : goal.returns-else-place-places-clause-none
returns-else-place-places-clause-none c = λ place low before.
    let past = c.if-place-places.false in
    none_before c.args.number c.args.places c.args.from c.requires.few _ place refl low (omega arith) before

pub returns-else-place-places-clause-some : goal.returns-else-place-places-clause-some
returns-else-place-places-clause-some c = λ below. absurd (omega arith)
