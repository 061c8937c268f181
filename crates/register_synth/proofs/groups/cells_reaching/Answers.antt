use Rattle.std.proofs.Common.{◌<◌, [], ◌∷◌, length, slice_index, ap, subst, arith}
use Rattle.std.proofs.lemmas.List.{length-map}
use Rattle.fault_secure.specs.Circuit.{nets}
use Rattle.parity_code.proofs.GroupSteps.{one_net, output_number, output_within}
use Rattle.register_synth.specs.Reaching.{MarksReaching}
use Rattle.register_synth.proofs.Sharing.{cut, cells_copied}
use Rattle.register_synth.proofs.groups.cells_reaching.Goals as goal

pub reaching_marks-requires : goal.reaching_marks-requires
reaching_marks-requires c =
    let within : c.args.place < length c.outputs.result.now = omega (arith, c.requires.within, ap length c.outputs.ensures.outputs, length-map c.outputs.result.now (λ net. net.number)) in
    record {
      nets = one_net (nets c.args.net.now.circuit) _
          (output_within c.args.net.now.circuit c.outputs.result.now c.nets-nets.ensures.checked.closed c.outputs.ensures.outputs c.args.place (record { number = 0 }) within);
    }

pub returns : goal.returns
returns c =
    let within : c.args.place < length c.outputs.result.now = omega (arith, c.requires.within, ap length c.outputs.ensures.outputs, length-map c.outputs.result.now (λ net. net.number)) in
    record {
      marks = cells_copied c.args.net.now.circuit (slice_index c.args.net.now.circuit.outputs c.args.place) c.in_ok-marks.marks.items _ c.from_slice.result
          (subst (λ n. MarksReaching c.args.net.now.circuit (n ∷ []) c.in_ok-marks.marks.items)
          (output_number c.args.net.now.circuit c.outputs.result.now c.outputs.ensures.outputs c.args.place (record { number = 0 }) within) c.in_ok-marks.ensures.marks)
          (cut c.args.net.now.circuit c.in_ok-marks.marks.items c.deref.result.now c.inputs.result c.inputs.ensures.count c.deref.ensures.value) c.from_slice.ensures.same;
    }
