use Rattle.std.proofs.Common.{take, sym, ◌∙◌, ap}
use Rattle.std.proofs.lemmas.List.{take-map}
use Rattle.std.proofs.lemmas.Result.{IfOk-weaker}
use Rattle.tsc_net.specs.PlanView.{net_numbers}
use Rattle.tsc_net.specs.declared.ids.NetId.{NetId}
use Rattle.unheard_cells.proofs.watched.first_outputs.Goals as goal

pub returns : goal.returns
returns c = record {
  outputs = IfOk-weaker c.from_slice.result _ _
      (λ outputs same. ap net_numbers same ∙ sym (take-map (λ (net : NetId). net.number) c.args.count c.outputs.result.now) ∙ ap (take c.args.count) c.outputs.ensures.outputs) c.from_slice.ensures.same;
}
