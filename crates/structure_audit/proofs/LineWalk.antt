-- The walk back along the evaluation order, for all lines at once.
use Rattle.std.proofs.Common.{◌≡◌, ℕ, ◌+◌, ◌<◌, false, List, [], ◌∷◌, length, replicate, slice_index, sym, ◌∙◌, ap, subst, arith}
use Rattle.std.proofs.lemmas.List.{length-replicate, length-map}
use Rattle.fault_secure.specs.Circuit.{Circuit, node}
use Rattle.tsc_bits.specs.Bits.{bit_worth}
use Rattle.tsc_net.specs.Order.{fan_ins, evaluation_order, IsOrder}
use Rattle.net_cones.specs.Marks.{mark_driver, mark_drivers}
use Rattle.net_cones.proofs.ConeLoop.{ConeSoFar, cone_start, cone_step, cone_end}
use Rattle.net_cones.proofs.OrderWithin.{order_within}
use Rattle.structure_audit.specs.Lines.{line_marks, AreLineMasks, with_all_lines, with_roots}
use Rattle.structure_audit.proofs.LineLemmas.{marks_clear, handed_on, length-with_all_lines, length-with_roots, roots_in}

-- the masks while the order is walked back: the cone of each line is marked so far
pub record LinesSoFar (C : Circuit) (word order : List ℕ) (left : ℕ) (masks : List ℕ) : Type 0 where
  pub sized : length masks ≡ length C.nodes
  pub cones : (k : ℕ) → k < length word → ConeSoFar C (slice_index word k ∷ []) order left (line_marks k masks)

module _ (C : Circuit) (word order : List ℕ) (whole : IsOrder (fan_ins C) order) (is_order : order ≡ evaluation_order (fan_ins C)) where
  -- before the walk
  pub lines_start : (masks : List ℕ) → masks ≡ with_roots (C.inputs + length C.latches) 0 word (replicate (length C.nodes) 0) → LinesSoFar C word order (length order) masks
  lines_start masks is = record { sized = sized; cones = λ k within. cone_start C (slice_index word k ∷ []) order whole (line_marks k masks) (length-map masks (bit_worth k) ∙ sized) (rooted k within) }
    where
      sized : length masks ≡ length C.nodes
      sized = ap length is ∙ length-with_roots (C.inputs + length C.latches) 0 word (replicate (length C.nodes) 0) ∙ length-replicate {A = ℕ} (length C.nodes) 0

      rooted : (k : ℕ) → k < length word → line_marks k masks ≡ mark_drivers (C.inputs + length C.latches) (slice_index word k ∷ []) (replicate (length C.nodes) false)
      rooted k within =
          ap (line_marks k) is ∙ roots_in k k (C.inputs + length C.latches) 0 word (replicate (length C.nodes) 0) within (omega arith)
          ∙ ap (mark_driver (C.inputs + length C.latches) (slice_index word k)) (marks_clear k (length C.nodes))

  -- one node back
  pub lines_step : (left : ℕ) (masks new : List ℕ) → left < length order
      → new ≡ with_all_lines (C.inputs + length C.latches) (slice_index masks (slice_index order left)) (node C (slice_index order left)).reads masks
      → LinesSoFar C word order (left + 1) masks → LinesSoFar C word order left new
  lines_step left masks new within is so_far =
      subst (LinesSoFar C word order left) (sym is) (record {
        sized = length-with_all_lines (C.inputs + length C.latches) (slice_index masks (slice_index order left)) (node C (slice_index order left)).reads masks ∙ so_far.sized;
        cones = λ k there. subst (ConeSoFar C (slice_index word k ∷ []) order left) (sym (handed_on k (C.inputs + length C.latches) (slice_index order left) (node C (slice_index order left)).reads masks in_masks))
            (cone_step C (slice_index word k ∷ []) order whole left (line_marks k masks) within (all left within) all (so_far.cones k there));
      })
    where
      all : (i : ℕ) → i < length order → slice_index order i < length C.nodes
      all = order_within C order is_order

      in_masks : slice_index order left < length masks
      in_masks = let low = all left within in let s = so_far.sized in omega arith

  -- after the walk
  pub lines_end : (left : ℕ) (masks : List ℕ) → left ≡ 0 → LinesSoFar C word order left masks → AreLineMasks C word masks
  lines_end left masks none so_far = record {
    sized = so_far.sized;
    lines = λ k within. cone_end C (slice_index word k ∷ []) order whole (line_marks k masks) (subst (λ at. ConeSoFar C (slice_index word k ∷ []) order at (line_marks k masks)) none (so_far.cones k within));
  }
