use Rattle.std.proofs.Common.{Bool, false, length, map, sym, ap, ◌∙◌, length-set, arith}
use Rattle.std.proofs.lemmas.List.{get_or-map, length-map}
use Rattle.tsc_net.specs.declared.ids.NetId.{NetId}
use Rattle.behaviour_audit.specs.Points.{slot_bit}
use Rattle.behaviour_audit.proofs.BitLemmas.{written_more, written_all}
use Rattle.behaviour_audit.proofs.reading.read_nets.Goals as goal

pub loop-place-preserved : goal.loop-place-preserved
loop-place-preserved c =
    let old = c.loop-place.bits in
    let place = c.loop-place.place in
    let nets = c.args.nets.now in
    let shown : NetId → Bool = λ net. slot_bit c.args.bench.now c.args.slot net.number in
    let all = map shown nets in
    let sized = c.loop-place.invariant.sized in
    let many = length-map nets shown in
    record {
      sized = ap length c.replace.ensures.changed ∙ (length-set old place c.slot_bit.result ∙ sized);
      read = written_more all old c.replace.new.self place c.slot_bit.result false (omega (arith, many, c.loop-place-test.true)) (sized ∙ sym many)
          c.replace.ensures.changed (c.slot_bit.ensures.bit ∙ sym (get_or-map shown nets place _ false c.loop-place-test.true)) c.loop-place.invariant.read;
    }

pub returns : goal.returns
returns c =
    let nets = c.args.nets.now in
    let shown : NetId → Bool = λ net. slot_bit c.args.bench.now c.args.slot net.number in
    let many = length-map nets shown in
    record {
      bits = written_all (map shown nets) c.loop-place.bits c.loop-place.place (omega (arith, many)) (c.loop-place.invariant.sized ∙ sym many) c.loop-place.invariant.read;
    }
