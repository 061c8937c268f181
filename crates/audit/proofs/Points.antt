-- More than 20 inputs make more than 1,048,576 points.
use Rattle.std.proofs.Common.{ℕ, ◌*◌, ◌^◌, ◌<◌, ◌≤◌, arith, pow_mono}
use Rattle.std.proofs.lemmas.Nat.{mul-le}

pub many_inputs : (states n : ℕ) → 0 < states → 20 < n → 1048576 < states * 2 ^ n
many_inputs states n some more =
    let far : 21 ≤ n = omega arith in
    let most : 2 ^ 21 ≤ 2 ^ n = pow_mono far in
    let product : 1 * 2 ^ n ≤ states * 2 ^ n = mul-le 1 (2 ^ n) states (2 ^ n) (omega arith) (omega arith) in
    omega arith
