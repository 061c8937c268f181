use Rattle.std.proofs.Common.{◌+◌, ◌-◌, ◌%◌, ℕ, List, true, drop, refl, subst, length, arith}
use Rattle.code_checkers.specs.Signal.{chain}
use Rattle.code_checkers.specs.Signal.Signal.{Or}
use Rattle.code_checkers.specs.Draft.{meanings, IsAdded}
use Rattle.code_checkers.specs.Threshold.{every_second}
use Rattle.code_checkers.proofs.Halves.{length-terms_added, halves_added}
use Rattle.code_checkers.proofs.threshold.threshold_pair.Goals as goal

pub add_half-requires-clause-small : goal.add_half-requires-clause-small
add_half-requires-clause-small c =
    omega (arith, length-terms_added c.args.draft.now c.terms.new.draft c.args.a.now c.args.b.now c.in_ok-terms.terms.items c.args.m c.in_ok-terms.ensures.added)

pub add_half-requires-clause-start : goal.add_half-requires-clause-start
add_half-requires-clause-start c =
    omega (arith, length-terms_added c.args.draft.now c.terms.new.draft c.args.a.now c.args.b.now c.in_ok-terms.terms.items c.args.m c.in_ok-terms.ensures.added)

pub add_half-requires-2-clause-small : goal.add_half-requires-2-clause-small
add_half-requires-2-clause-small c =
    omega (arith, length-terms_added c.args.draft.now c.terms.new.draft c.args.a.now c.args.b.now c.in_ok-terms.terms.items c.args.m c.in_ok-terms.ensures.added)

pub add_half-requires-2-clause-start : goal.add_half-requires-2-clause-start
add_half-requires-2-clause-start c =
    omega (arith, length-terms_added c.args.draft.now c.terms.new.draft c.args.a.now c.args.b.now c.in_ok-terms.terms.items c.args.m c.in_ok-terms.ensures.added)

pub returns : goal.returns
returns c =
    let a = c.args.draft.now in
    let b = c.terms.new.draft in
    let start : ℕ = (c.args.m + length c.args.b.now + 1) % 2 in
    let first = subst (λ (places : List ℕ). IsAdded b c.add_half.new.draft (chain Or (every_second true (drop start (meanings b places)))) c.in_ok-first.first) c.deref.ensures.value c.in_ok-first.ensures.added in
    let second = subst (λ (places : List ℕ). IsAdded c.add_half.new.draft c.add_half-2.new.draft (chain Or (every_second true (drop (1 - start) (meanings c.add_half.new.draft places)))) c.in_ok-second.second) c.deref-2.ensures.value c.in_ok-second.ensures.added in
    record { added = halves_added a b c.add_half.new.draft c.add_half-2.new.draft c.args.a.now c.args.b.now c.in_ok-terms.terms.items c.args.m (length c.args.b.now) start (record { first = c.in_ok-first.first; second = c.in_ok-second.second }) refl refl c.in_ok-terms.ensures.added first second }
