use Rattle.std.proofs.Common.{ℕ, List, length, map, sym, ap, ◌∙◌, length-set, arith}
use Rattle.std.specs.Prelude.{slice_index}
use Rattle.std.proofs.lemmas.List.{get_or-map, length-map}
use Rattle.tsc_net.specs.declared.ids.NetId.{NetId}
use Rattle.lane_sim.specs.Bench.{lane_of}
use Rattle.behaviour_audit.proofs.BitLemmas.{written_more, written_all}
use Rattle.behaviour_audit.proofs.lanes.read_lanes.Goals as goal

pub loop-place-preserved : goal.loop-place-preserved
loop-place-preserved c =
    let old = c.loop-place.lanes in
    let place = c.loop-place.place in
    let nets = c.args.nets.now in
    let shown : NetId → ℕ = λ net. slice_index (lane_of c.args.bench.now net.number) c.args.word in
    let all = map shown nets in
    let sized = c.loop-place.invariant.sized in
    let many = length-map nets shown in
    let read : ℕ = slice_index c.lane.result.now c.args.word in
    record {
      sized = ap length c.replace.ensures.changed ∙ (length-set old place read ∙ sized);
      read = written_more all old c.replace.new.self place read 0 (omega (arith, many, c.loop-place-test.true)) (sized ∙ sym many)
          c.replace.ensures.changed (ap (λ (words : List ℕ). slice_index words c.args.word) c.lane.ensures.lane ∙ sym (get_or-map shown nets place _ 0 c.loop-place-test.true)) c.loop-place.invariant.read;
    }

pub returns-clause-lanes : goal.returns-clause-lanes
returns-clause-lanes c =
    let nets = c.args.nets.now in
    let shown : NetId → ℕ = λ net. slice_index (lane_of c.args.bench.now net.number) c.args.word in
    let many = length-map nets shown in
    written_all (map shown nets) c.loop-place.lanes c.loop-place.place (omega (arith, many)) (c.loop-place.invariant.sized ∙ sym many) c.loop-place.invariant.read
