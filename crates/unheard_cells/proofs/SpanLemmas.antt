-- The spans of nodes, widened place by place, and the lists of their nets.
use Rattle.std.proofs.Common.{◌≡◌, ℕ, ◌+◌, ◌-◌, ◌<◌, ◌≤◌, ◌==◌, ◌⊎◌, Bool, true, false, if◌then◌else◌, List, [], ◌∷◌, ◌++◌, drop, length, IsTrue, slice_index, slice_index_or, refl, sym, ap, subst, ◌∙◌, inl, inr, arith}
use Rattle.std.proofs.lemmas.Bool.{cases_lt, cases_Bool, ne_eqb, false≢true}
use Rattle.std.proofs.lemmas.List.{get_or_append_left, get_or_push}
use Rattle.std.proofs.Math.Logic.{⊎_elim}
use Rattle.fault_secure.specs.Circuit.{Circuit, bit}
use Rattle.fault_secure.specs.Depends.{Depends}
use Rattle.fault_secure.specs.CodePlan.{CodePlan}
use Rattle.tsc_net.specs.PlanView.{net_numbers}
use Rattle.tsc_net.specs.declared.ids.NetId.{NetId}
use Rattle.tsc_net.proofs.NetNumbers.{number_at}
use Rattle.net_cones.specs.Cones.{MarksCone}
use Rattle.unheard_cells.specs.Spans.{widened_if, AreSpansOf, IsSpanOf}
use Rattle.unheard_cells.specs.declared.spans.Span.{Span}

-- ---- one place more

-- where there is a place so far, the first one stays
old_low : (low past place k : ℕ) → low ≤ k → k < past → (if past == 0 then place else low) ≤ k
old_low low past place k is below =
    subst (λ (b : Bool). (if b then place else low) ≤ k) (sym (ne_eqb past 0 (λ e. omega arith))) is

new_low : (low past place : ℕ) → low ≤ past → past ≤ place → (if past == 0 then place else low) ≤ place
new_low low past place order within = elim (cases_Bool (past == 0)) [
  | inl none ↦ subst (λ (b : Bool). (if b then place else low) ≤ place) (sym none) (omega arith)
  | inr some ↦ subst (λ (b : Bool). (if b then place else low) ≤ place) (sym some) (omega arith)
]

module _ (N : Circuit) (list : List ℕ) where
  -- the node's mark tells whether the next net depends on it
  wider : (q place : ℕ) (mark : Bool) (span : Span) → (Depends N q (slice_index list place) → IsTrue mark) → IsSpanOf N list place q span
      → IsSpanOf N list (place + 1) q (widened_if mark place span)
  wider q place false span marked is = record {
    order = is.order;
    within = let low = is.within in omega arith;
    whole = λ k below d. ⊎_elim
        (λ (less : k < place). is.whole k less d)
        (λ (more : place ≤ k). (let here : k ≡ place = omega arith in absurd (false≢true (marked (subst (λ (n : ℕ). Depends N q (slice_index list n)) here d)))))
        (cases_lt k place);
  }
  wider q place true span marked is = record {
    order = (let low = new_low span.low span.past place is.order is.within in omega arith);
    within = omega arith;
    whole = λ k below d. ⊎_elim
        (λ (less : k < place). (let old = is.whole k less d in (old_low span.low span.past place k old.0 old.1, omega arith)))
        (λ (more : place ≤ k). (let low = new_low span.low span.past place is.order is.within in (omega arith, omega arith)))
        (cases_lt k place);
  }

  pub wider_spans : (place : ℕ) (marks : List Bool) (old new : List Span) → place < length list → AreSpansOf N list place old
      → MarksCone N (slice_index list place ∷ []) marks → length new ≡ length old
      → ((q : ℕ) (d : Span) → q < length old → slice_index_or new q d ≡ widened_if (bit marks q) place (slice_index_or old q d)) → AreSpansOf N list (place + 1) new
  wider_spans place marks old new there are marked sized each = record {
    sized = sized ∙ are.sized;
    each = λ q d inside. subst (IsSpanOf N list (place + 1) q) (sym (each q d (let s = are.sized in omega arith)))
        (wider q place (bit marks q) (slice_index_or old q d)
        (λ depends. (marked.exact q inside).1 (record { root = slice_index list place; is_root = (0, omega arith, refl); depends = depends })) (are.each q d inside));
  }

-- ---- lists

-- one list more, at the place of the net that it begins with after the rails
pub near_more : (P : CodePlan) (shown : List ℕ) (near : List (List NetId)) (low : ℕ) (list : List NetId) → length near ≡ low
    → ((k : ℕ) (d : List NetId) → k < low → net_numbers (slice_index_or near k d) ≡ P.rail1 ∷ (P.rail2 ∷ drop k shown)) → net_numbers list ≡ P.rail1 ∷ (P.rail2 ∷ drop low shown)
    → (k : ℕ) (d : List NetId) → k < low + 1 → net_numbers (slice_index_or (near ++ list ∷ []) k d) ≡ P.rail1 ∷ (P.rail2 ∷ drop k shown)
near_more P shown near low list sized each here k d below = ⊎_elim
    (λ (less : k < low). ap net_numbers (get_or_append_left near (list ∷ []) d k (omega arith)) ∙ each k d less)
    (λ (more : low ≤ k).
    let same : k ≡ low = omega arith in
    ap net_numbers (get_or_push near list d k (omega arith)) ∙ here ∙ ap (λ (n : ℕ). P.rail1 ∷ (P.rail2 ∷ drop n shown)) (sym same))
    (cases_lt k low)

-- the marks of the cone of the net at a place
pub one_root : (N : Circuit) (list : List NetId) (place : ℕ) (root : NetId) (marks : List Bool) → place < length list → root ≡ slice_index_or list place root
    → MarksCone N (net_numbers (root ∷ [])) marks → MarksCone N (slice_index (net_numbers list) place ∷ []) marks
one_root N list place root marks inside is marked =
    subst (λ (n : ℕ). MarksCone N (n ∷ []) marks) (ap (λ (net : NetId). net.number) is ∙ sym (number_at list place root inside)) marked
