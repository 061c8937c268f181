-- Marks of cells say which outputs share one, and so which groups are the first fit.
use Rattle.std.proofs.Common.{◌≡◌, ℕ, zero, suc, ◌+◌, ◌-◌, ◌<◌, inl, inr, Bool, true, false, ◌&&◌, ◌||◌, List, [], ◌∷◌, ◌++◌, take, drop, length, slice_index, Contains, IsTrue, Result, Ok, Err, IfOk, refl, sym, ap, ap₂, ◌∙◌, subst, arith, length-append, length-drop}
use Rattle.std.proofs.lemmas.Bool.{cases_lt, false≢true}
use Rattle.std.proofs.lemmas.List.{get_or_append_left, get_or-append-add, get_or-drop, take_all}
use Rattle.tsc_bits.specs.Counting.{some_both}
use Rattle.fault_secure.specs.Circuit.{Circuit, nets, bit}
use Rattle.register_laws.specs.RegisterStructure.{Reaches}
use Rattle.parity_code.specs.FirstFit.{first_fit, marks_of, share}
use Rattle.parity_code.proofs.FirstFitLemmas.{overlap_at}
use Rattle.register_synth.specs.Reaching.{ReachesSome, MarksReaching}
use Rattle.register_synth.specs.RegisterGroups.{HaveCommonCell, AreRegisterGroups}
use Rattle.register_synth.specs.inner.Sharing.{MarksCells, AreMarks}

-- where two lists of marks meet, some place is marked in both
pub met_at : (xs ys : List Bool) → some_both xs ys ≡ true → (q : ℕ) × (q < length xs) × (q < length ys) × (bit xs q ≡ true) × (bit ys q ≡ true)
met_at [] ys e = absurd (false≢true e)
met_at (x ∷ xs) [] e = absurd (false≢true e)
met_at (x ∷ xs) (y ∷ ys) e = both x y e (met_at xs ys)
  where
    both : (x y : Bool) → ((x && y) || some_both xs ys) ≡ true → (some_both xs ys ≡ true → (q : ℕ) × (q < length xs) × (q < length ys) × (bit xs q ≡ true) × (bit ys q ≡ true))
        → (q : ℕ) × (q < length (x ∷ xs)) × (q < length (y ∷ ys)) × (bit (x ∷ xs) q ≡ true) × (bit (y ∷ ys) q ≡ true)
    both true true e later = (0, omega arith, omega arith, refl, refl)
    both true false e later = on true false (later e)
      where
        on : (x y : Bool) → (q : ℕ) × (q < length xs) × (q < length ys) × (bit xs q ≡ true) × (bit ys q ≡ true)
            → (q : ℕ) × (q < length (x ∷ xs)) × (q < length (y ∷ ys)) × (bit (x ∷ xs) q ≡ true) × (bit (y ∷ ys) q ≡ true)
        on x y (q, h, k, a, b) = (suc q, omega arith, omega arith, a, b)
    both false y e later = on false y (later e)
      where
        on : (x y : Bool) → (q : ℕ) × (q < length xs) × (q < length ys) × (bit xs q ≡ true) × (bit ys q ≡ true)
            → (q : ℕ) × (q < length (x ∷ xs)) × (q < length (y ∷ ys)) × (bit (x ∷ xs) q ≡ true) × (bit (y ∷ ys) q ≡ true)
        on x y (q, h, k, a, b) = (suc q, omega arith, omega arith, a, b)

-- marks of nets, from the cells on
pub cells_marked : (C : Circuit) (root : ℕ) (marks : List Bool) → MarksReaching C (root ∷ []) marks → MarksCells C root (drop C.inputs marks)
cells_marked C root marks are = record {
  sized = omega (arith, are.sized, length-drop C.inputs marks);
  exact = λ k within. (
      let there : C.inputs + k < nets C = omega (arith, are.sized, length-drop C.inputs marks) in
      let at : bit (drop C.inputs marks) k ≡ bit marks (C.inputs + k) = get_or-drop C.inputs marks k false in
      let is = are.exact (C.inputs + k) there in
      (λ m. from (C.inputs + k) (is.0 (sym at ∙ m)), λ r. at ∙ is.1 (record { root = root; is_root = (0, omega arith, refl); reaches = r })));
}
  where
    from : (net : ℕ) → ReachesSome C net (root ∷ []) → Reaches C net root
    from net some = at some.is_root
      where
        at : Contains (root ∷ []) some.root → Reaches C net root
        at (zero, h, e) = subst (Reaches C net) (sym e) some.reaches
        at (suc i, h, e) = absurd (omega arith)

-- the marks of one output more
pub marks_more : (C : Circuit) (outputs : ℕ) (cells : List (List Bool)) (marks : List Bool) → AreMarks C outputs cells → MarksCells C (slice_index C.outputs outputs) marks
    → AreMarks C (outputs + 1) (cells ++ marks ∷ [])
marks_more C outputs cells marks are is = record {
  sized = omega (arith, are.sized, length-append cells (marks ∷ []));
  each = λ o within. elim (cases_lt o outputs) [
    | inl before ↦ subst (MarksCells C (slice_index C.outputs o)) (sym (get_or_append_left cells (marks ∷ []) [] o (omega (arith, are.sized)))) (are.each o before)
    | inr end ↦ (
        let last : o ≡ outputs = omega arith in
        let place : o ≡ length cells + 0 = omega (arith, are.sized) in
        subst (MarksCells C (slice_index C.outputs o)) (sym (ap (marks_of (cells ++ marks ∷ [])) place ∙ get_or-append-add cells (marks ∷ []) 0 []))
        (subst (λ n. MarksCells C (slice_index C.outputs n) marks) (sym last) is))
  ];
}

pub no_marks : (C : Circuit) → AreMarks C 0 []
no_marks C = record { sized = refl; each = λ o within. absurd (omega arith) }

-- two outputs share a cell exactly where their marks meet
module _ (C : Circuit) (cells : List (List Bool)) (are : AreMarks C (length C.outputs) cells) (a b : ℕ) (a_in : a < length C.outputs) (b_in : b < length C.outputs) where
  common : IsTrue (share cells a b) → HaveCommonCell C (slice_index C.outputs a) (slice_index C.outputs b)
  common m = at (met_at (marks_of cells a) (marks_of cells b) m)
    where
      at : (q : ℕ) × (q < length (marks_of cells a)) × (q < length (marks_of cells b)) × (bit (marks_of cells a) q ≡ true) × (bit (marks_of cells b) q ≡ true)
          → HaveCommonCell C (slice_index C.outputs a) (slice_index C.outputs b)
      at (q, h, k, x, y) = record {
        cell = C.inputs + q;
        is_cell = record { no_input = omega arith; inside = omega (arith, (are.each a a_in).sized) };
        first = ((are.each a a_in).exact q h).0 x;
        second = ((are.each b b_in).exact q k).0 y;
      }

  meeting : HaveCommonCell C (slice_index C.outputs a) (slice_index C.outputs b) → IsTrue (share cells a b)
  meeting has =
      let low = has.is_cell.no_input in
      let high = has.is_cell.inside in
      let is : has.cell ≡ C.inputs + (has.cell - C.inputs) = omega arith in
      overlap_at (marks_of cells a) (marks_of cells b) (has.cell - C.inputs)
      (((are.each a a_in).exact (has.cell - C.inputs) (omega (arith, (are.each a a_in).sized))).1 (subst (λ n. Reaches C n (slice_index C.outputs a)) is has.first))
      (((are.each b b_in).exact (has.cell - C.inputs) (omega (arith, (are.each b b_in).sized))).1 (subst (λ n. Reaches C n (slice_index C.outputs b)) is has.second))

pub groups_fit : (C : Circuit) (cells : List (List Bool)) (groups : List (List ℕ)) → AreMarks C (length C.outputs) cells → groups ≡ first_fit (share cells) (length C.outputs)
    → AreRegisterGroups C groups
groups_fit C cells groups are fit = record {
  shares = share cells;
  exact = λ a b a_in b_in. (common C cells are a b a_in b_in, meeting C cells are a b a_in b_in);
  fit = fit;
}

-- the marks from the cells on, as the code cuts them
pub cut : (C : Circuit) (marks seen : List Bool) (inputs : ℕ) → inputs ≡ C.inputs → seen ≡ marks → take (length seen - inputs) (drop inputs seen) ≡ drop C.inputs marks
cut C marks seen inputs at same = take_all (length seen - inputs) (drop inputs seen) (omega (arith, length-drop inputs seen)) ∙ ap₂ drop at same

-- as they are copied
pub cells_copied : {E : Type 0} (C : Circuit) (root : ℕ) (marks part : List Bool) (r : Result (List Bool) E) → MarksReaching C (root ∷ []) marks → part ≡ drop C.inputs marks
    → IfOk r (λ list. list ≡ part) → IfOk r (MarksCells C root)
cells_copied C root marks part (Ok list) are is same = subst (MarksCells C root) (sym (same ∙ is)) (cells_marked C root marks are)
cells_copied C root marks part (Err e) are is same = same
