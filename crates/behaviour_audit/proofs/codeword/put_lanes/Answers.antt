use Rattle.std.proofs.Common.{ℕ, false, length, ap, ◌∙◌, length-set, arith}
use Rattle.std.proofs.lemmas.List.{length-map, map-set}
use Rattle.tsc_bits.specs.Bits.{bit_worth}
use Rattle.code_lanes.specs.Lanes.{column}
use Rattle.behaviour_audit.proofs.BitLemmas.{written_more, written_all}
use Rattle.behaviour_audit.proofs.codeword.put_lanes.Goals as goal

pub loop-place-preserved : goal.loop-place-preserved
loop-place-preserved c =
    let old = c.loop-place.lanes in
    let place = c.loop-place.place in
    let word = c.args.word.now in
    let lane : ℕ = c.word_of.result in
    let sized = c.loop-place.invariant.sized in
    record {
      sized = ap length c.replace.ensures.changed ∙ (length-set old place lane ∙ sized);
      put = written_more word (column 0 old) (column 0 c.replace.new.self) place (bit_worth 0 lane) false c.loop-place-test.true (length-map old (bit_worth 0) ∙ sized)
          (ap (column 0) c.replace.ensures.changed ∙ map-set (bit_worth 0) old place lane) (c.word_of.ensures.bits 0 (omega arith)) c.loop-place.invariant.put;
    }

pub returns-clause-column : goal.returns-clause-column
returns-clause-column c =
    let lanes = c.loop-place.lanes in
    written_all c.args.word.now (column 0 lanes) c.loop-place.place (omega arith) (length-map lanes (bit_worth 0) ∙ c.loop-place.invariant.sized) c.loop-place.invariant.put
