-- The bits of a counter are few, and as many as a Berger check has.
use Rattle.std.specs.Prelude.{ℕ, suc, ◌+◌, ◌*◌, ◌^◌, ◌<◌, ◌≤◌}
use Rattle.std.proofs.Common.{arith, inl, inr}
use Rattle.std.proofs.Math.Nat.{pow-succ'}
use Rattle.std.proofs.Math.Pow.{pow_mono}
use Rattle.std.proofs.lemmas.Bool.{cases_lt}
use Rattle.fault_secure.specs.CodePlan.{IsBergerWidth}

-- a counter of numbers up to 64 has at most 6 bits before the last
pub few_bits : (size number : ℕ) → 2 ^ size < 2 * number → number ≤ 64 → size ≤ 6
few_bits size number tight small = elim (cases_lt 6 size) [ inl many ↦ absurd (too_many many) | inr few ↦ few ]
  where
    too_many : 6 < size → ⊥
    too_many many =
        let e : 2 ^ 7 ≤ 2 ^ size = pow_mono {i = 7} {j = size} (omega arith) in
        omega arith

-- a power of two above k that is no more than twice too big is the least
pub width_between : (k width : ℕ) → k < 2 ^ width → 2 ^ width < 2 * (k + 1) → IsBergerWidth k width
width_between k width room tight = (room, least)
  where
    least : (u : ℕ) → k < 2 ^ u → width ≤ u
    least u fits = elim (cases_lt u width) [ inl small ↦ absurd (too_small small) | inr le ↦ le ]
      where
        too_small : u < width → ⊥
        too_small small =
            let two : 2 ^ suc u ≤ 2 ^ width = pow_mono small in
            omega (arith, pow-succ' 2 u)
