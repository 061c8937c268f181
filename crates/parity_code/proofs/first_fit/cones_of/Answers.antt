use Rattle.std.proofs.Common.{◌≡◌, ℕ, ◌<◌, ◌∷◌, ◌++◌, [], ◌+◌, Bool, List, length, take, slice_index, slice_index_or, sym, ◌∙◌, subst, arith}
use Rattle.std.proofs.lemmas.List.{length-map, get_or-map}
use Rattle.tsc_net.specs.PlanView.{net_numbers}
use Rattle.fault_secure.specs.Circuit.{Circuit, nets}
use Rattle.tsc_net.specs.declared.ids.NetId.{NetId}
use Rattle.net_cones.specs.Cones.{MarksCone}
use Rattle.parity_code.specs.Cones.{AreCones}
use Rattle.parity_code.proofs.GroupSteps.{output_within, one_net, cones_more}
use Rattle.parity_code.proofs.first_fit.cones_of.Goals as goal

pub cone_marks-requires : goal.cone_marks-requires
cone_marks-requires c =
    record {
      nets = one_net (nets c.args.net.now.circuit) _
          (output_within c.args.net.now.circuit c.outputs-output-items.result.now c.nets-nets.ensures.checked.closed c.outputs-output-items.ensures.outputs c.loop-output.output-index _ c.loop-output-test.true);
    }

-- one output's cone more
more : (C : Circuit) (outputs : List NetId) (i : ℕ) (d : NetId) (cones after : List (List Bool)) (marks copied : List Bool) → i < length outputs
    → AreCones C (take i (net_numbers outputs)) cones → MarksCone C (net_numbers (slice_index_or outputs i d ∷ [])) marks → copied ≡ marks → after ≡ cones ++ copied ∷ []
    → AreCones C (take (i + 1) (net_numbers outputs)) after
more C outputs i d cones after marks copied within are is same pushed =
    let count : length (net_numbers outputs) ≡ length outputs = length-map outputs (λ net. net.number) in
    let number : slice_index (net_numbers outputs) i ≡ (slice_index_or outputs i d).number = get_or-map (λ net. net.number) outputs i d 0 within in
    let here : MarksCone C (slice_index (net_numbers outputs) i ∷ []) copied = subst (λ n. MarksCone C (n ∷ []) copied) (sym number) (subst (MarksCone C ((slice_index_or outputs i d).number ∷ [])) (sym same) is) in
    subst (AreCones C (take (i + 1) (net_numbers outputs))) (sym pushed)
    (cones_more C (net_numbers outputs) i cones copied (omega arith) are here)

pub loop-output-preserved : goal.loop-output-preserved
loop-output-preserved c =
    more c.args.net.now.circuit c.outputs-output-items.result.now c.loop-output.output-index (record { number = 0 }) c.loop-output.cones c.push.new.self c.in_ok-marks.marks.items c.in_ok-from_slice.field-0
    c.loop-output-test.true c.loop-output.invariant c.in_ok-marks.ensures.marks (c.in_ok-from_slice.ensures.same ∙ c.deref.ensures.value) c.in_ok-push.ensures.ok
