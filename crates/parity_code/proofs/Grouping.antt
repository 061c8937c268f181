-- First-fit groups are apart.
use Rattle.std.proofs.Common.{◌≡◌, ℕ, zero, suc, ◌-◌, ◌<◌, Bool, true, false, List, [], ◌∷◌, length, slice_index, slice_index_or, All, Contains, IsTrue, refl, sym, ◌∙◌, subst, arith}
use Rattle.std.proofs.lemmas.Bool.{false≢true}
use Rattle.std.proofs.lemmas.List.{get_or-map}
use Rattle.std.proofs.lemmas.List.Elements.{All-head, All-tail, All-get_or}
use Rattle.fault_secure.specs.Circuit.{Circuit, bit}
use Rattle.fault_secure.specs.Depends.{Depends}
use Rattle.parity_code.specs.ParityFunction.{outputs_at, HaveCommonNode, GroupsApart}
use Rattle.net_cones.specs.Cones.{MarksCone}
use Rattle.parity_code.specs.FirstFit.{first_fit, marks_of, share, AreFirstFit}
use Rattle.parity_code.proofs.FirstFitLemmas.{overlap_at, Apart, first_fit-apart, first_fit-within}
use Rattle.parity_code.proofs.PlacesWithin.{places_within}
use Rattle.fault_secure.proofs.DependsLemmas.{depends_there}

self_root : (x : ℕ) → Contains (x ∷ []) x
self_root x = (0, omega arith, refl)

-- an output's cone has a node where the output depends on it
marked_where : (C : Circuit) (net q : ℕ) (marks : List Bool) → MarksCone C (net ∷ []) marks → Depends C q net → IsTrue (bit marks q)
marked_where C net q marks is depends =
    (is.exact q (depends_there C q net depends)).1 (record { root = net; is_root = self_root net; depends = depends })

-- what holds of each group and of none holds at every place
all_at : (P : List ℕ → Type 0) (groups : List (List ℕ)) → All P groups → P [] → (i : ℕ) → P (slice_index_or groups i [])
all_at P [] all none i = none
all_at P (group ∷ groups) all none zero = All-head P group groups all
all_at P (group ∷ groups) all none (suc i) = all_at P groups (All-tail P group groups all) none i

none_apart : (shares : ℕ → ℕ → Bool) → Apart shares []
unfolding Apart
none_apart shares a b low high = absurd (omega arith)

-- two members of a group that is apart have no common node
members_apart : (C : Circuit) (cones : List (List Bool)) → ((o : ℕ) → o < length C.outputs → MarksCone C (slice_index C.outputs o ∷ []) (marks_of cones o))
    → (G : List ℕ) → Apart (share cones) G → All (λ place. place < length C.outputs) G → (a b : ℕ) → a < b → b < length G
    → HaveCommonNode C (slice_index (outputs_at C G) a) (slice_index (outputs_at C G) b) → ⊥
unfolding Apart
members_apart C cones marks G apart within a b low high common =
    let pa : slice_index G a < length C.outputs = All-get_or (λ place. place < length C.outputs) G a 0 (omega arith) within in
    let pb : slice_index G b < length C.outputs = All-get_or (λ place. place < length C.outputs) G b 0 high within in
    let out_a : slice_index (outputs_at C G) a ≡ slice_index C.outputs (slice_index G a) = get_or-map (slice_index C.outputs) G a 0 0 (omega arith) in
    let out_b : slice_index (outputs_at C G) b ≡ slice_index C.outputs (slice_index G b) = get_or-map (slice_index C.outputs) G b 0 0 high in
    let at_a : IsTrue (bit (marks_of cones (slice_index G a)) common.node)
    = marked_where C (slice_index C.outputs (slice_index G a)) common.node (marks_of cones (slice_index G a)) (marks (slice_index G a) pa) (subst (Depends C common.node) out_a common.first) in
    let at_b : IsTrue (bit (marks_of cones (slice_index G b)) common.node)
    = marked_where C (slice_index C.outputs (slice_index G b)) common.node (marks_of cones (slice_index G b)) (marks (slice_index G b) pb) (subst (Depends C common.node) out_b common.second) in
    let yes : share cones (slice_index G b) (slice_index G a) ≡ true = overlap_at (marks_of cones (slice_index G b)) (marks_of cones (slice_index G a)) common.node at_b at_a in
    let no : share cones (slice_index G b) (slice_index G a) ≡ false = apart a b low high in
    false≢true (sym no ∙ yes)

-- first-fit groups are apart
pub first_fit_groups_apart : (C : Circuit) (groups : List (List ℕ)) → AreFirstFit C groups → GroupsApart C groups
first_fit_groups_apart C groups fit = record {
  apart = λ group a b low high common.
      members_apart C fit.cones fit.marks (slice_index_or groups group [])
      (subst (λ gs. Apart (share fit.cones) (slice_index_or gs group [])) (sym fit.fit)
      (all_at (Apart (share fit.cones)) (first_fit (share fit.cones) (length C.outputs)) (first_fit-apart (share fit.cones) (length C.outputs)) (none_apart (share fit.cones)) group))
      (subst (λ gs. All (λ place. place < length C.outputs) (slice_index_or gs group [])) (sym fit.fit)
      (places_within (λ place. place < length C.outputs) (first_fit (share fit.cones) (length C.outputs)) (first_fit-within (share fit.cones) (length C.outputs) (length C.outputs) (omega arith)) group))
      a b low high common;
}
