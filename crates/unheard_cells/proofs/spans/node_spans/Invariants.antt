-- The spans of the nets so far.
use Rattle.tsc_net.specs.PlanView.{net_numbers}
use Rattle.unheard_cells.specs.Spans.{AreSpansOf}
use Rattle.unheard_cells.proofs.spans.node_spans.Given as goal

abbrev pub invariant-loop-place : goal.invariant-loop-place
invariant-loop-place l = AreSpansOf l.net.circuit (net_numbers l.list) l.place l.spans.items
