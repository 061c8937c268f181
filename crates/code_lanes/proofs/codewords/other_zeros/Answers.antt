use Rattle.std.proofs.Common.{◌≡◌, ◌<◌, ◌≤◌, ◌+◌, ◌^◌, ℕ, length, ap, arith}
use Rattle.std.proofs.Math.Pow.{pow_mono}
use Rattle.std.proofs.lemmas.List.{length-map}
use Rattle.tsc_bits.specs.Bits.{bit_worth, binary}
use Rattle.tsc_bits.specs.Counting.{ones, counted}
use Rattle.tsc_bits.proofs.Bits.{binary-lt}
use Rattle.code_lanes.specs.Lanes.{column}
use Rattle.code_lanes.proofs.CountLemmas.{counted_zeros}
use Rattle.code_lanes.proofs.CodeLaneLemmas.{zeros_are}
use Rattle.code_lanes.proofs.codewords.other_zeros.Goals as goal

pub returns : goal.returns
returns c = record {
  zeros = λ k few.
      let outputs = c.args.outputs.now in
      let checks = c.args.checks.now in
      let number : counted (column k c.write_binary.new.digits) ≡ binary (column k checks) = c.write_binary.ensures.number k few (counted_zeros k 8) in
      let below : binary (column k checks) < 2 ^ length (column k checks) = binary-lt (column k checks) in
      let short : length (column k checks) ≤ 7 = omega (arith, length-map checks (bit_worth k)) in
      let most : 2 ^ length (column k checks) ≤ 2 ^ 7 = pow_mono short in
      let wide : length c.write_binary.new.digits ≡ 8 = omega arith in
      let all_ : 2 ^ length c.write_binary.new.digits ≡ 2 ^ 8 = ap (λ (n : ℕ). 2 ^ n) wide in
      let sum : counted (column k c.count_ones.new.digits) ≡ counted (column k c.write_binary.new.digits) + ones (column k outputs) = c.count_ones.ensures.ones k few (omega arith) in
      let are = zeros_are (column k outputs) (binary (column k checks)) (length outputs) (length-map outputs (bit_worth k)) in
      let all = c.counted_otherwise.ensures.counted k few in (
        λ zero_.
            let is : counted (column k c.count_ones.new.digits) ≡ length outputs = all.0 zero_ in
            are.0 (omega arith),
        λ zeros.
            let is : binary (column k checks) + ones (column k outputs) ≡ length outputs = are.1 zeros in
            all.1 (omega arith),
      );
}
