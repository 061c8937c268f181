use Rattle.std.proofs.Common.{ap, ◌∙◌}
use Rattle.tsc_net.specs.PlanView.{net_numbers}
use Rattle.parity_code.proofs.GroupNets.{same_roots, same_cone, outputs_are_nets}
use Rattle.parity_code.proofs.group_cones.group_places.Goals as goal

pub returns : goal.returns
returns c = record {
  cone = same_roots c.args.net.now.circuit _ _ c.cone_places.result (ap net_numbers c.as_slice.ensures.whole ∙ c.in_ok-roots.ensures.nets) c.cone_places.ensures.cone;
  computed = same_cone c.args.net.now.circuit _ _ c.cone_places.result (ap net_numbers c.as_slice.ensures.whole ∙ c.in_ok-roots.ensures.nets) c.cone_places.ensures.computed;
}

pub cone_places-requires : goal.cone_places-requires
cone_places-requires c = record {
  nets = outputs_are_nets c.args.net.now.circuit c.args.group.now c.as_slice.result.now c.nets-nets.ensures.checked.closed c.requires.within
      (ap net_numbers c.as_slice.ensures.whole ∙ c.in_ok-roots.ensures.nets);
}
