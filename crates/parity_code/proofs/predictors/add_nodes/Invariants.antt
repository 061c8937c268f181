use Rattle.std.proofs.Common.{◌≡◌, map, take}
use Rattle.tsc_net.specs.PartsView.{text_of}
use Rattle.parity_code.specs.Held.{PartsGrow}
use Rattle.parity_code.specs.Predictors.{with_nodes, node_by}
use Rattle.parity_code.specs.PredictorSteps.{name_at}
use Rattle.parity_code.proofs.predictors.add_nodes.Given as goal

abbrev pub invariant-loop-place : goal.invariant-loop-place
invariant-loop-place l = record {
  added : l.parts ≡ with_nodes l.fn.parts (map (node_by l.net.circuit (λ n. text_of l.fn.parts.names (name_at l.names n))) (take l.place-index l.places));
  grows : PartsGrow l.fn.parts l.parts;
}
