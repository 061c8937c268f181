-- First-fit groups: an output joins the first group with no member whose cone shares a node with its own, else opens a group.
use Rattle.std.specs.Prelude.{◌≡◌, ℕ, zero, suc, ◌<◌, Bool, if◌then◌else◌, List, [], ◌∷◌, ◌++◌, map, length, slice_index, slice_index_or}
use Rattle.std.specs.List.{list_any}
use Rattle.tsc_bits.specs.Counting.{some_both}
use Rattle.fault_secure.specs.Circuit.{Circuit}
use Rattle.net_cones.specs.Cones.{MarksCone}
use Rattle.net_cones.specs.ConeMarks.{cone_marks}

-- the groups with one more output: in the first group with no member that shares with it, else in a group of its own
abbrev pub joined : (ℕ → ℕ → Bool) → List (List ℕ) → ℕ → List (List ℕ)
joined shares [] o = (o ∷ []) ∷ []
joined shares (group ∷ groups) o =
    if list_any (shares o) group then group ∷ joined shares groups o else (group ++ o ∷ []) ∷ groups

-- the groups of the first outputs, so many of them
abbrev pub first_fit : (ℕ → ℕ → Bool) → ℕ → List (List ℕ)
first_fit shares zero = []
first_fit shares (suc outputs) = joined shares (first_fit shares outputs) outputs

-- the marks of an output
abbrev pub marks_of : List (List Bool) → ℕ → List Bool
marks_of cones o = slice_index_or cones o []

-- some place is marked for both outputs
abbrev pub share : List (List Bool) → ℕ → ℕ → Bool
share cones a b = some_both (marks_of cones a) (marks_of cones b)

-- the groups of a circuit's outputs are the first fit
pub record AreFirstFit (C : Circuit) (groups : List (List ℕ)) : Type 0 where
  pub cones : List (List Bool)
  pub marks : (o : ℕ) → o < length C.outputs → MarksCone C (slice_index C.outputs o ∷ []) (marks_of cones o)
  pub fit : groups ≡ first_fit (share cones) (length C.outputs)

-- the marks of each output
abbrev pub output_marks : Circuit → List (List Bool)
output_marks C = map (λ net. cone_marks C (net ∷ [])) C.outputs

-- the groups of the outputs, first fit
unfoldable pub first_fit_groups : Circuit → List (List ℕ)
first_fit_groups C = first_fit (share (output_marks C)) (length C.outputs)
