use Rattle.std.specs.Prelude.{◌-◌, ◌≤◌}
use Rattle.std.proofs.Common.{arith}
use Rattle.mofn_code.proofs.Powers.{shifted, power_within}
use Rattle.tsc_bits.proofs.Thermometers.{thermo_value}
use Rattle.mofn_code.proofs.check_value.first_ones.Goals as goal

pub overflow_sub-result : goal.overflow_sub-result
overflow_sub-result c =
    let rest : c.args.k - c.args.count ≤ c.args.k = omega arith in
    omega (arith, shifted (c.args.k - c.args.count) (omega arith), shifted c.args.k c.requires.most, power_within (c.args.k - c.args.count) c.args.k rest c.requires.most)

pub returns-clause-thermo : goal.returns-clause-thermo
returns-clause-thermo c =
    let rest : c.args.k - c.args.count ≤ c.args.k = omega arith in
    thermo_value c.args.k c.args.count _ c.requires.within
    (omega (arith, shifted (c.args.k - c.args.count) (omega arith), shifted c.args.k c.requires.most, power_within (c.args.k - c.args.count) c.args.k rest c.requires.most))
