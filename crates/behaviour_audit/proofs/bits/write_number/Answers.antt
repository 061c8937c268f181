use Rattle.std.proofs.Common.{false, length, sym, ap, ◌∙◌, length-set, arith}
use Rattle.tsc_bits.specs.Bits.{bits_of}
use Rattle.tsc_bits.proofs.Bits.{length-bits_of, get_or-bits_of}
use Rattle.behaviour_audit.proofs.BitLemmas.{written_more, written_all}
use Rattle.behaviour_audit.proofs.bits.write_number.Goals as goal

pub loop-place-preserved : goal.loop-place-preserved
loop-place-preserved c =
    let old = c.loop-place.bits in
    let place = c.loop-place.place in
    let width = c.len-width.result in
    let number = c.args.number in
    let sized = c.loop-place.invariant.sized in
    let wide = length-bits_of width number in
    record {
      sized = ap length c.replace.ensures.changed ∙ (length-set old place c.bit_at.result ∙ sized);
      written = written_more (bits_of width number) old c.replace.new.self place c.bit_at.result false (omega (arith, wide, c.loop-place-test.true)) (sized ∙ sym wide)
          c.replace.ensures.changed (c.bit_at.ensures.bit ∙ sym (get_or-bits_of width number place c.loop-place-test.true)) c.loop-place.invariant.written;
    }

pub returns-clause-bits : goal.returns-clause-bits
returns-clause-bits c =
    let width = c.len-width.result in
    let wide = length-bits_of width c.args.number in
    written_all (bits_of width c.args.number) c.loop-place.bits c.loop-place.place (omega (arith, wide)) (c.loop-place.invariant.sized ∙ sym wide) c.loop-place.invariant.written
    ∙ ap (λ n. bits_of n c.args.number) c.len-width.ensures.count
