use Rattle.std.proofs.Common.{◌+◌, ◌∷◌, map, set, refl, sym, ap, ◌∙◌, length-set, arith}
use Rattle.tsc_bits.specs.Bits.{bits_of}
use Rattle.sim_text.specs.StepLine.{digit}
use Rattle.fault_sim.proofs.WrittenLemmas.{written_more}
use Rattle.sim_text.proofs.WordLemmas.{word_all, length-word, digit_at}
use Rattle.sim_text.proofs.step_word.put_digits.Goals as goal

pub loop-place-preserved : goal.loop-place-preserved
loop-place-preserved c =
    let old = c.loop-place.characters in
    let place = c.loop-place.place in
    let count = c.args.count in
    let wide = length-word count c.args.bits in
    let room = c.loop-place.invariant.room in
    record {
      room = length-set old (place + 1) c.digit.result ∙ room;
      written = written_more (32 ∷ map digit (bits_of count c.args.bits)) old (set old (place + 1) c.digit.result) (place + 1) c.digit.result 0
          (omega (arith, wide, c.loop-place-test.true)) (omega (arith, room, c.requires.few, c.loop-place-test.true)) refl
          (c.digit.ensures.digit ∙ (ap digit c.bit_at.ensures.bit ∙ sym (digit_at count place c.args.bits c.loop-place-test.true))) c.loop-place.invariant.written;
    }

pub returns-clause-digits : goal.returns-clause-digits
returns-clause-digits c =
    let count = c.args.count in
    let all = 32 ∷ map digit (bits_of count c.args.bits) in
    word_all all c.loop-place.characters c.loop-place.place count (omega arith) (length-word count c.args.bits) c.loop-place.invariant.written
