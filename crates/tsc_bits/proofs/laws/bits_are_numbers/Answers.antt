use Rattle.std.proofs.Common.{◌+◌, ◌*◌, ap, ◌∙◌, add-one}
use Rattle.tsc_bits.specs.Bits.{weight_of, bits_of}
use Rattle.tsc_bits.proofs.Bits.{binary-bits_of, bits_of-binary, length-bits_of, get_or-bits_of, bits_of-last}
use Rattle.tsc_bits.proofs.laws.bits_are_numbers.Goals as goal

pub returns : goal.returns
returns c = record {
  number = binary-bits_of;
  list = bits_of-binary;
  length = length-bits_of;
  pin = get_or-bits_of;
  last = λ n x bit. ap (λ k. bits_of k (x * 2 + weight_of bit)) (add-one n) ∙ bits_of-last n x bit;
}
