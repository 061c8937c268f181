use Rattle.std.proofs.Common.{ap, sym, get_or, false, zero-add}
use Rattle.tsc_cover.proofs.Truth.{truth-bits_of_mod, truth-binary, row_matches-terms}
use Rattle.tsc_cover.proofs.laws.truth_looks_at_its_pins.Goals as goal

pub returns : goal.returns
returns c = record {
  narrow = truth-bits_of_mod;
  binary = truth-binary;
  terms =
      λ row bits h. row_matches-terms row bits (λ pin. get_or bits pin false) 0 h
      (λ i below. ap (λ k. get_or bits k false) (sym (zero-add i)));
}
