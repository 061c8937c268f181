use Rattle.std.proofs.Common.{◌≡◌, ◌++◌, drop, map, slice_index, length}
use Rattle.tsc_net.specs.PlanView.{net_numbers}
use Rattle.question_text.proofs.reasons.nets_of.Given as goal

abbrev pub invariant-loop-place : goal.invariant-loop-place
invariant-loop-place l =
    record { nets : net_numbers l.nets ++ map (slice_index (net_numbers l.shown)) (drop l.place-index l.place-items) ≡ map (slice_index (net_numbers l.shown)) l.place-items; count : length l.nets ≡ l.place-index }
