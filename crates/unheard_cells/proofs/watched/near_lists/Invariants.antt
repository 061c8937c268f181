-- The lists of the places so far.
use Rattle.std.proofs.Common.{◌≡◌, ℕ, ◌∷◌, ◌<◌, List, drop, length, slice_index_or}
use Rattle.tsc_net.specs.PlanView.{net_numbers}
use Rattle.tsc_net.specs.declared.ids.NetId.{NetId}
use Rattle.unheard_cells.proofs.watched.near_lists.Given as goal

abbrev pub invariant-loop-low : goal.invariant-loop-low
invariant-loop-low l = record {
  sized : length l.near ≡ l.low;
  each : (k : ℕ) (d : List NetId) → k < l.low → net_numbers (slice_index_or l.near k d) ≡ l.plan.rail1 ∷ (l.plan.rail2 ∷ drop k (net_numbers l.shown));
}
