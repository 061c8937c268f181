-- The computed cones of outputs, and of groups of them, are their cones.
use Rattle.std.proofs.Common.{◌≡◌, ℕ, ◌<◌, List, [], map, length, slice_index_or, All}
use Rattle.std.proofs.lemmas.List.Elements.{All-get_or, All-from_get_or, All-map}
use Rattle.fault_secure.specs.Circuit.{Circuit}
use Rattle.tsc_net.specs.Order.{fan_ins, evaluation_order, IsOrder}
use Rattle.net_cones.specs.ConeMarks.{cone_marks, cone_of}
use Rattle.net_cones.specs.Cones.{IsCone}
use Rattle.parity_code.specs.ParityCircuit.{IsGroupCone}
use Rattle.parity_code.specs.ParityFunction.{outputs_at}
use Rattle.net_cones.proofs.ConeMarksLemmas.{cone_marks_exact}
use Rattle.net_cones.proofs.MarkedCone.{marked_cone}
use Rattle.parity_code.proofs.PlacesWithin.{places_within}
use Rattle.parity_synth.specs.ParityNet.{group_cone_of}
use Rattle.parity_synth.specs.Planning.{AreGrouped}

module _ (C : Circuit) (order : List ℕ) (is : order ≡ evaluation_order (fan_ins C)) (whole : IsOrder (fan_ins C) order) where
  -- the computed cone of some nets is their cone
  pub cone_is : (roots : List ℕ) → IsCone C roots (cone_of C roots)
  cone_is roots = marked_cone C roots (cone_marks C roots) (cone_marks_exact C roots order is whole)

  -- each group has its cone
  pub group_cones : (groups : List (List ℕ)) → AreGrouped (length C.outputs) groups → All (IsGroupCone C) (map (group_cone_of C) groups)
  group_cones groups are = All-map (IsGroupCone C) (group_cone_of C) groups (All-from_get_or (λ group. IsGroupCone C (group_cone_of C group)) groups [] each)
    where
      each : (i : ℕ) → i < length groups → IsGroupCone C (group_cone_of C (slice_index_or groups i []))
      each i there = record {
        filled = All-get_or (λ (group : List ℕ). 0 < length group) groups i [] there are.filled;
        within = places_within (λ place. place < length C.outputs) groups are.within i;
        cone = cone_is (outputs_at C (slice_index_or groups i []));
      }
