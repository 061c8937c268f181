use Rattle.tsc_net.specs.PlanView.{net_numbers}
use Rattle.parity_code.proofs.GroupSteps.{output_within}
use Rattle.register_synth.proofs.Places.{kept_from}
use Rattle.register_synth.proofs.kept.kept_places.Goals as goal

pub reaching_marks-requires : goal.reaching_marks-requires
reaching_marks-requires c = record {
  nets = λ k d h. output_within c.args.net.now.circuit c.outputs.result.now c.nets-nets.ensures.checked.closed c.outputs.ensures.outputs k d h;
}

pub returns : goal.returns
returns c = record {
  kept = kept_from c.args.net.now.circuit (net_numbers c.outputs.result.now) c.in_ok-marks.marks.items _ _ _ _ _ _ _ c.in_ok-marks.ensures.marks c.outputs.ensures.outputs
      c.deref.ensures.value c.deref-2.ensures.value c.inputs-inputs.ensures.count c.latches-latches.ensures.count c.nodes.ensures.count
      c.in_ok-registers.ensures.places c.in_ok-covers.ensures.places;
}
