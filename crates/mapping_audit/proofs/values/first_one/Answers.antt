use Rattle.std.proofs.Common.{◌≡◌, ◌+◌, ◌<◌, ◌/◌, ◌^◌, true, Some, ap, subst, arith}
use Rattle.std.specs.Int.{trailing_zeros}
use mir.Syntax.{w64}
use Rattle.tsc_bits.specs.Bits.{bit_worth}
use Rattle.lane_sim.specs.First.{IsFirstIn}
use Rattle.lane_sim.proofs.FirstLemmas.{none_set, first_set}
use Rattle.mapping_audit.proofs.values.first_one.Goals as goal

pub returns-then-word-eq0 : goal.returns-then-word-eq0
returns-then-word-eq0 c = record { first = none_set c.args.word 0 (omega (arith, c.if-word-eq0.true)) }

pub returns-else-word-eq0 : goal.returns-else-word-eq0
returns-else-word-eq0 c =
    let whole : c.args.word / 2 ^ 0 ≡ c.args.word = omega arith in
    let some : 0 < c.args.word / 2 ^ 0 = omega (arith, c.if-word-eq0.false) in
    let place : 0 + trailing_zeros w64 (c.args.word / 2 ^ 0) ≡ trailing_zeros w64 c.args.word = (let same = ap (trailing_zeros w64) whole in omega arith) in
    record {
      first = subst (λ at. IsFirstIn (λ k. bit_worth k c.args.word ≡ true) 0 64 (Some at)) place (first_set c.args.word 0 (omega arith) (omega arith) some);
    }
