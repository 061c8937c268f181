use Rattle.std.specs.Prelude.{not}
use Rattle.std.proofs.Common.{arith}
use Rattle.std.proofs.lemmas.List.Sums.{count_by-le-length}
use Rattle.tsc_bits.specs.Bits.{bits_of}
use Rattle.tsc_bits.proofs.Bits.{length-bits_of}
use Rattle.mofn_code.proofs.check_value.thermo_of.Goals as goal

pub first_ones-requires-clause-within : goal.first_ones-requires-clause-within
first_ones-requires-clause-within c =
    omega (arith, c.check_of-zeros.ensures.check, count_by-le-length not (bits_of c.args.k c.args.outputs), length-bits_of c.args.k c.args.outputs)
