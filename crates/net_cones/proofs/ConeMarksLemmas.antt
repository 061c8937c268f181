-- The computed marks are the cone, of which there is one.
use Rattle.std.proofs.Common.{◌≡◌, ℕ, ◌+◌, ◌<◌, Bool, true, false, List, [], ◌∷◌, ◌++◌, length, replicate, slice_index, IsTrue, refl, sym, ◌∙◌, ap, subst, arith, append_assoc, length-append}
use Rattle.std.proofs.lemmas.List.{length-replicate, get_or-append-add, ext_get_or}
use Rattle.fault_secure.specs.Circuit.{Circuit, node, bit}
use Rattle.tsc_net.specs.Order.{fan_ins, evaluation_order, IsOrder}
use Rattle.net_cones.specs.Cones.{MarksCone}
use Rattle.net_cones.specs.Marks.{marked_pins}
use Rattle.net_cones.specs.ConeMarks.{root_marks, marked_back, cone_marks}
use Rattle.net_cones.proofs.MarkLemmas.{length-mark_drivers}
use Rattle.net_cones.proofs.ConeLoop.{ConeSoFar, cone_start, cone_step, cone_end}
use Rattle.net_cones.proofs.OrderWithin.{order_within}

append-nil : (xs : List ℕ) → xs ++ [] ≡ xs
append-nil [] = refl
append-nil (x ∷ xs) = ap (λ ys. x ∷ ys) (append-nil xs)

at_seam : (front : List ℕ) (place : ℕ) (back : List ℕ) → slice_index (front ++ place ∷ back) (length front) ≡ place
at_seam front place back = ap (slice_index (front ++ place ∷ back)) (let e : length front ≡ length front + 0 = omega arith in e) ∙ get_or-append-add front (place ∷ back) 0 0

module _ (C : Circuit) (roots order : List ℕ) (whole : IsOrder (fan_ins C) order) (all : (i : ℕ) → i < length order → slice_index order i < length C.nodes) where
  sized : length (root_marks C roots) ≡ length C.nodes
  sized = length-mark_drivers (C.inputs + length C.latches) roots (replicate (length C.nodes) false) ∙ length-replicate {A = Bool} (length C.nodes) false

  pub back_so_far : (front back : List ℕ) → order ≡ front ++ back → ConeSoFar C roots order (length front) (marked_back C back (root_marks C roots))
  back_so_far front [] is =
      subst (λ n. ConeSoFar C roots order n (root_marks C roots)) (ap length is ∙ ap length (append-nil front)) (cone_start C roots order whole (root_marks C roots) sized refl)
  back_so_far front (place ∷ back) is =
      let at : slice_index order (length front) ≡ place = ap (λ xs. slice_index xs (length front)) is ∙ at_seam front place back in
      let count : length order ≡ length front + length (place ∷ back) = ap length is ∙ length-append front (place ∷ back) in
      let within : length front < length order = omega arith in
      let further : ConeSoFar C roots order (length (front ++ place ∷ [])) (marked_back C back (root_marks C roots))
      = back_so_far (front ++ place ∷ []) back (is ∙ sym (append_assoc front (place ∷ []) back)) in
      let next : ConeSoFar C roots order (length front + 1) (marked_back C back (root_marks C roots))
      = subst (λ n. ConeSoFar C roots order n (marked_back C back (root_marks C roots))) (length-append front (place ∷ [])) further in
      subst (λ p. ConeSoFar C roots order (length front) (marked_pins (C.inputs + length C.latches) p (node C p).reads (marked_back C back (root_marks C roots)))) at
      (cone_step C roots order whole (length front) (marked_back C back (root_marks C roots)) within (all (length front) within) all next)

-- the computed marks are the cone
pub cone_marks_exact : (C : Circuit) (roots order : List ℕ) → order ≡ evaluation_order (fan_ins C) → IsOrder (fan_ins C) order → MarksCone C roots (cone_marks C roots)
unfolding cone_marks
cone_marks_exact C roots order is whole =
    cone_end C roots order whole (marked_back C (evaluation_order (fan_ins C)) (root_marks C roots))
    (back_so_far C roots order whole (order_within C order is) [] (evaluation_order (fan_ins C)) is)

same_bits : (x y : Bool) → (IsTrue x → IsTrue y) → (IsTrue y → IsTrue x) → x ≡ y
same_bits true y there back = sym (there refl)
same_bits false true there back = back refl
same_bits false false there back = refl

-- there is one list of marks for a cone
pub one_cone : (C : Circuit) (roots : List ℕ) (a b : List Bool) → MarksCone C roots a → MarksCone C roots b → a ≡ b
one_cone C roots a b one other = ext_get_or false a b (one.sized ∙ sym other.sized) (λ q h. same q (subst (λ n. q < n) one.sized h))
  where
    same : (q : ℕ) → q < length C.nodes → bit a q ≡ bit b q
    same q there = same_bits (bit a q) (bit b q) (λ is. (other.exact q there).1 ((one.exact q there).0 is)) (λ is. (one.exact q there).1 ((other.exact q there).0 is))

-- marks of a cone are the computed ones
pub marks_are : (C : Circuit) (roots order : List ℕ) (marks : List Bool) → order ≡ evaluation_order (fan_ins C) → IsOrder (fan_ins C) order → MarksCone C roots marks → marks ≡ cone_marks C roots
marks_are C roots order marks is whole here = one_cone C roots marks (cone_marks C roots) here (cone_marks_exact C roots order is whole)
