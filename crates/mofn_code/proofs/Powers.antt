-- Powers and squares of small numbers.
use Rattle.std.specs.Prelude.{◌≡◌, ℕ, ◌+◌, ◌*◌, ◌%◌, ◌^◌, ◌<◌, ◌≤◌}
use Rattle.std.proofs.Common.{◌∙◌, arith}
use Rattle.std.proofs.Math.Nat.{add-mul, mul-add}
use Rattle.std.proofs.Math.Pow.{pow_mono}
use Rattle.std.proofs.lemmas.Nat.{pow_pos, mul-le}

-- a bit that is shifted by less than two words
pub shifted : (place : ℕ) → place ≤ 64 → 1 * 2 ^ place % 2 ^ 128 ≡ 2 ^ place
shifted place small =
    let e : 2 ^ place ≤ 2 ^ 64 = pow_mono {i = place} {j = 64} small in
    omega arith

pub power_within : (m k : ℕ) → m ≤ k → k ≤ 64 → (0 < 2 ^ m) × (2 ^ m ≤ 2 ^ k) × (2 ^ k ≤ 2 ^ 64)
power_within m k within small = (pow_pos m, pow_mono {i = m} {j = k} within, pow_mono {i = k} {j = 64} small)

-- the square of one more
pub square-more : (n : ℕ) → (n + 1) * (n + 1) ≡ n * n + 2 * n + 1
square-more n = add-mul n 1 (n + 1) ∙ omega (arith, mul-add n n 1)

pub square_mono : (m n : ℕ) → m ≤ n → m * m ≤ n * n
square_mono m n h = mul-le m m n n h h
