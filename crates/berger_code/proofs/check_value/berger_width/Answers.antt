use Rattle.std.specs.Prelude.{◌≡◌, ◌+◌, ◌*◌, ◌^◌}
use Rattle.std.proofs.Common.{arith}
use Rattle.berger_code.proofs.Counting.{width_between}
use Rattle.tsc_bits.proofs.Counting.{power_more}
use Rattle.berger_code.proofs.check_value.berger_width.Goals as goal

pub returns : goal.returns
returns c =
    let power : 2 ^ (c.ilog2.result + 1) ≡ 2 * 2 ^ c.ilog2.result = power_more c.ilog2.result in
    record { least = width_between c.args.k _ (omega (arith, c.ilog2.ensures.next_power_gt)) (omega (arith, c.ilog2.ensures.power_le)) }
