-- The checks that a synthesis under an unordered code writes for outputs.
use Rattle.std.specs.Prelude.{ℕ, Bool, List, []}
use Rattle.tsc_bits.specs.Bits.{bits_of}
use Rattle.tsc_bits.specs.Counting.{zeros}
use Rattle.tsc_bits.specs.Thermometer.{thermo}
use Rattle.fault_secure.specs.declared.code.Code.{Code}
use Rattle.fault_secure.specs.declared.code.Code.TheVariants.{Parity, Berger, MOutOfN}

-- the checks of outputs, so many of them: how many outputs are 0, in binary or as a thermometer
abbrev pub check_bits : Code → ℕ → List Bool → List Bool
check_bits Parity checks ys = []
check_bits Berger checks ys = bits_of checks (zeros ys)
check_bits MOutOfN checks ys = thermo checks (zeros ys)
