-- One output more.
use Rattle.std.proofs.Common.{◌≡◌, ℕ, List, take}
use Rattle.tsc_net.specs.Names.{text_at}
use Rattle.pla_read.proofs.Segments.{outputs_next, outs_next, read_name}
use Rattle.pla_read.proofs.beginning.add_outputs.Goals as goal

pub loop-place-preserved : goal.loop-place-preserved
loop-place-preserved c =
    let inputs : List (List ℕ) = c.args.inputs.now in
    let names : List (List ℕ) = c.args.names.now in
    let place : ℕ = c.loop-place.place in
    let shown : c.as_slice.result.now ≡ text_at names place =
    read_name names place c.index-names-place.result c.as_slice.result.now c.loop-place-test.true c.index-names-place.is c.as_slice.ensures.whole in
    record {
      parts = outputs_next c.add_output.new.parts inputs names place c.as_slice.result.now c.requires.distinct c.loop-place-test.true shown
          (c.in_ok-out.ensures.added inputs (take place names) c.loop-place.invariant.parts);
      outs = outs_next c.loop-place.parts inputs names place c.as_slice.result.now c.loop-place.outs c.push.new.self c.in_ok-out.out c.loop-place.invariant.parts
          c.requires.distinct c.loop-place-test.true shown c.loop-place.invariant.outs c.in_ok-out.ensures.number c.in_ok-push.ensures.ok;
    }
