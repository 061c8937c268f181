use Rattle.std.proofs.Common.{false, length, map, sym, ap, ◌∙◌, length-set, arith}
use Rattle.std.proofs.lemmas.List.{get_or-map, length-map}
use Rattle.sim_text.specs.StepLines.{bit_of}
use Rattle.fault_sim.proofs.WrittenLemmas.{written_more, written_whole}
use Rattle.sim_text.proofs.steps.put_bits.Goals as goal

pub loop-place-preserved : goal.loop-place-preserved
loop-place-preserved c =
    let old = c.loop-place.bits in
    let place = c.loop-place.place in
    let word = c.args.word.now in
    let many = length-map word bit_of in
    let sized = c.loop-place.invariant.sized in
    record {
      sized = ap length c.replace.ensures.changed ∙ (length-set old place c.bit_of.result ∙ sized);
      read = written_more (map bit_of word) old c.replace.new.self place c.bit_of.result false (omega (arith, many, c.loop-place-test.true)) (omega (arith, sized, c.loop-place-test.true))
          c.replace.ensures.changed (c.bit_of.ensures.bit ∙ sym (get_or-map bit_of word place _ false c.loop-place-test.true)) c.loop-place.invariant.read;
    }

pub returns : goal.returns
returns c =
    let word = c.args.word.now in
    let many = length-map word bit_of in
    record {
      bits = written_whole (map bit_of word) c.loop-place.bits c.loop-place.place (omega (arith, many)) (c.loop-place.invariant.sized ∙ sym many) c.loop-place.invariant.read;
    }
