use Rattle.std.proofs.Common.{◌+◌, ◌∷◌, length, map, sym, ap, ◌∙◌, length-set, arith}
use Rattle.std.proofs.lemmas.List.{length-map}
use Rattle.sim_text.specs.StepLine.{digit}
use Rattle.fault_sim.proofs.WrittenLemmas.{written_more, written_whole}
use Rattle.sim_text.proofs.WordLemmas.{digit_of}
use Rattle.sim_text.proofs.latch_word.put_digits.Goals as goal

pub loop-place-preserved : goal.loop-place-preserved
loop-place-preserved c =
    let bits = c.args.bits.now in
    let old = c.loop-place.word in
    let place = c.loop-place.place in
    let wide = length-map bits digit in
    let room = c.loop-place.invariant.room in
    record {
      room = ap length c.replace.ensures.changed ∙ (length-set old (place + 1) c.digit.result ∙ room);
      written = written_more (32 ∷ map digit bits) old c.replace.new.self (place + 1) c.digit.result 0
          (omega (arith, wide, c.loop-place-test.true)) (omega (arith, room, c.loop-place-test.true)) c.replace.ensures.changed
          (c.digit.ensures.digit ∙ sym (digit_of bits place c.loop-place-test.true _)) c.loop-place.invariant.written;
    }

pub returns : goal.returns
returns c =
    let bits = c.args.bits.now in
    let wide = length-map bits digit in
    let room = c.loop-place.invariant.room in
    record {
      digits = written_whole (32 ∷ map digit bits) c.loop-place.word (c.loop-place.place + 1) (omega (arith, wide)) (omega (arith, wide, room)) c.loop-place.invariant.written;
    }
