use Rattle.parity_code.proofs.GroupNets.{same_roots, same_cone}
use Rattle.net_cones.proofs.ConeNets.{nets_are_below}
use Rattle.parity_synth.proofs.outline.kept_places.Goals as goal

pub cone_places-requires : goal.cone_places-requires
cone_places-requires c = record { nets = nets_are_below c.args.source.now.circuit c.outputs.result.now c.nets-nets.ensures.checked.closed.outputs c.outputs.ensures.outputs }

pub returns : goal.returns
returns c = record {
  cone = same_roots c.args.source.now.circuit _ _ c.cone_places.result c.outputs.ensures.outputs c.cone_places.ensures.cone;
  computed = same_cone c.args.source.now.circuit _ _ c.cone_places.result c.outputs.ensures.outputs c.cone_places.ensures.computed;
}
