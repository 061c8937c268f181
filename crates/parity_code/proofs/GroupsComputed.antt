-- The first-fit groups by the cones of the outputs are the computed ones.
use Rattle.std.proofs.Common.{◌≡◌, ℕ, ◌<◌, Bool, List, [], ◌∷◌, length, slice_index, sym, ◌∙◌, ap₂, subst}
use Rattle.std.proofs.lemmas.List.{length-map, get_or-map, ext_get_or}
use Rattle.fault_secure.specs.Circuit.{Circuit}
use Rattle.tsc_net.specs.Order.{fan_ins, evaluation_order, IsOrder}
use Rattle.net_cones.specs.ConeMarks.{cone_marks}
use Rattle.parity_code.specs.FirstFit.{marks_of, share, first_fit, output_marks, first_fit_groups}
use Rattle.parity_code.specs.Cones.{AreCones}
use Rattle.net_cones.proofs.ConeMarksLemmas.{marks_are}

-- the cones of the outputs are the computed ones
cones_are : (C : Circuit) (order : List ℕ) (cones : List (List Bool)) → order ≡ evaluation_order (fan_ins C) → IsOrder (fan_ins C) order → AreCones C C.outputs cones → cones ≡ output_marks C
cones_are C order cones is whole are =
    ext_get_or [] cones (output_marks C) (are.sized ∙ sym (length-map C.outputs (λ net. cone_marks C (net ∷ [])))) (λ o h. each o (subst (λ n. o < n) are.sized h))
  where
    each : (o : ℕ) → o < length C.outputs → marks_of cones o ≡ marks_of (output_marks C) o
    each o there =
        marks_are C (slice_index C.outputs o ∷ []) order (marks_of cones o) is whole (are.each o there)
        ∙ sym (get_or-map (λ net. cone_marks C (net ∷ [])) C.outputs o 0 [] there)

-- the first fit by cones of the outputs is the computed one
pub groups_are : (C : Circuit) (order : List ℕ) (cones : List (List Bool)) (groups : List (List ℕ)) → order ≡ evaluation_order (fan_ins C) → IsOrder (fan_ins C) order
    → AreCones C C.outputs cones → groups ≡ first_fit (share cones) (length cones) → groups ≡ first_fit_groups C
unfolding first_fit_groups
groups_are C order cones groups is whole are fit =
    fit ∙ ap₂ (λ c n. first_fit (share c) n) (cones_are C order cones is whole are) are.sized
