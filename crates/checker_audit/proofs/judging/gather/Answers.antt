use Rattle.std.proofs.Common.{◌+◌, ◌<◌, length, get_or, take, ap, sym, ◌∙◌, arith}
use Rattle.std.proofs.lemmas.List.{length-map, map-set}
use Rattle.tsc_bits.specs.Bits.{bit_worth}
use Rattle.code_lanes.specs.Lanes.{column}
use Rattle.code_lanes.proofs.LaneLemmas.{bit_of_column}
use Rattle.checker_audit.proofs.LaneSteps.{gather_step}
use Rattle.checker_audit.proofs.judging.gather.Goals as goal

pub loop-place-preserved : goal.loop-place-preserved
loop-place-preserved c = λ p.
    let lanes = c.loop-place.lanes in
    let place = c.loop-place.place in
    let net = (get_or c.args.word.now place (record { number = 0 })).number in
    let word = get_or c.args.words.now net 0 in
    let inside : place < length (column p lanes) =
    (let l = c.loop-place.auto.lanes in let s = c.requires.sized in let t = c.loop-place-test.true in let m = length-map lanes (bit_worth p) in omega arith) in
    ap (take (place + 1)) (map-set (bit_worth p) lanes place word)
    ∙ gather_step (column p c.args.words.now) (column p lanes) c.args.word.now place (record { number = 0 }) (bit_worth p word) inside c.loop-place-test.true (c.loop-place.invariant p)
    (sym (bit_of_column p c.args.words.now net))
