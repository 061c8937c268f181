-- The lines that share a node, by masks and by dependence.
use Rattle.std.proofs.Common.{◌≡◌, ℕ, zero, suc, ◌+◌, ◌<◌, ◌↔◌, inl, inr, bit_or, true, false, ◌||◌, List, [], ◌∷◌, length, slice_index, Contains, IsTrue, refl, sym, ◌∙◌, ap, subst, arith}
use Rattle.std.proofs.lemmas.Bool.{cases_lt, false≢true}
use Rattle.std.proofs.lemmas.List.{get_or-map}
use Rattle.tsc_bits.specs.Bits.{bit_worth}
use Rattle.tsc_bits.proofs.Bits.{bit_worth-or, bit_worth-zero}
use Rattle.fault_secure.specs.Circuit.{Circuit, bit}
use Rattle.fault_secure.specs.CodePlan.{CodePlan, monitored}
use Rattle.fault_secure.specs.Depends.{Depends}
use Rattle.fault_secure.specs.Structure.{SharesNode}
use Rattle.net_cones.specs.Cones.{DependsOnSome}
use Rattle.structure_audit.specs.StructureReason.{IsFirstCommon}
use Rattle.structure_audit.specs.Lines.{line_marks, AreLineMasks, MeetBefore, HaveCommonBit}
use Rattle.structure_audit.proofs.PinLemmas.{or_cases, or_left, or_right}
use Rattle.fault_secure.proofs.DependsLemmas.{depends_there}

-- ---- the mask of all lines that meet one line

pub sharing_none : (masks : List ℕ) (k place : ℕ) → IsTrue (bit_worth k 0) ↔ MeetBefore masks 0 k place
sharing_none masks k place = (λ is. absurd (false≢true (sym (bit_worth-zero k) ∙ is)), λ meet. absurd (let w = meet.within in omega arith))

further : (masks : List ℕ) (end k place : ℕ) → MeetBefore masks end k place → MeetBefore masks (end + 1) k place
further masks end k place meet = record { node = meet.node; within = (let w = meet.within in omega arith); of_first = meet.of_first; of_second = meet.of_second }

-- a node that the line's own mask has adds its lines
pub sharing_in : (masks : List ℕ) (i place sharing mask new : ℕ) → mask ≡ slice_index masks i → bit_worth place mask ≡ true → new ≡ bit_or sharing mask
    → ((k : ℕ) → IsTrue (bit_worth k sharing) ↔ MeetBefore masks i k place) → (k : ℕ) → IsTrue (bit_worth k new) ↔ MeetBefore masks (i + 1) k place
sharing_in masks i place sharing mask new at has is so_far k = (from, to)
  where
    bits : bit_worth k new ≡ (bit_worth k sharing || bit_worth k mask)
    bits = ap (bit_worth k) is ∙ bit_worth-or k sharing mask

    from : IsTrue (bit_worth k new) → MeetBefore masks (i + 1) k place
    from set = elim (or_cases (bit_worth k sharing) (bit_worth k mask) (sym bits ∙ set)) [
      | inl old ↦ further masks i k place ((so_far k).0 old)
      | inr here ↦ record { node = i; within = omega arith; of_first = sym (ap (bit_worth k) at) ∙ here; of_second = sym (ap (bit_worth place) at) ∙ has }
    ]

    to : MeetBefore masks (i + 1) k place → IsTrue (bit_worth k new)
    to meet = elim (cases_lt meet.node i) [
      | inl low ↦ bits ∙ or_left (bit_worth k sharing) (bit_worth k mask) ((so_far k).1 (record { node = meet.node; within = low; of_first = meet.of_first; of_second = meet.of_second }))
      | inr high ↦ (
          let w = meet.within in
          let e : meet.node ≡ i = omega arith in
          bits ∙ or_right (bit_worth k sharing) (bit_worth k mask) (ap (bit_worth k) at ∙ subst (λ n. IsTrue (bit_worth k (slice_index masks n))) e meet.of_first))
    ]

-- a node that it doesn't have adds none
pub sharing_out : (masks : List ℕ) (i place sharing mask new : ℕ) → mask ≡ slice_index masks i → bit_worth place mask ≡ false → new ≡ sharing
    → ((k : ℕ) → IsTrue (bit_worth k sharing) ↔ MeetBefore masks i k place) → (k : ℕ) → IsTrue (bit_worth k new) ↔ MeetBefore masks (i + 1) k place
sharing_out masks i place sharing mask new at hasn't is so_far k = (from, to)
  where
    from : IsTrue (bit_worth k new) → MeetBefore masks (i + 1) k place
    from set = further masks i k place ((so_far k).0 (sym (ap (bit_worth k) is) ∙ set))

    to : MeetBefore masks (i + 1) k place → IsTrue (bit_worth k new)
    to meet = elim (cases_lt meet.node i) [
      | inl low ↦ ap (bit_worth k) is ∙ (so_far k).1 (record { node = meet.node; within = low; of_first = meet.of_first; of_second = meet.of_second })
      | inr high ↦ (
          let w = meet.within in
          let e : meet.node ≡ i = omega arith in
          absurd (false≢true (sym hasn't ∙ ap (bit_worth place) at ∙ subst (λ n. IsTrue (bit_worth place (slice_index masks n))) e meet.of_second)))
    ]

-- ---- bits of masks and dependence

module _ (N : Circuit) (P : CodePlan) (masks : List ℕ) (are : AreLineMasks N (monitored N P) masks) where
  marked : (k q : ℕ) → q < length N.nodes → bit (line_marks k masks) q ≡ bit_worth k (slice_index masks q)
  marked k q there = let s = are.sized in get_or-map (bit_worth k) masks q 0 false (omega arith)

  pub bit_depends : (k q : ℕ) → k < length (monitored N P) → q < length N.nodes → IsTrue (bit_worth k (slice_index masks q)) → Depends N q (slice_index (monitored N P) k)
  bit_depends k q within there is = only some.root some.is_root some.depends
    where
      some : DependsOnSome N q (slice_index (monitored N P) k ∷ [])
      some = ((are.lines k within).exact q there).0 (marked k q there ∙ is)

      only : (root : ℕ) → Contains (slice_index (monitored N P) k ∷ []) root → Depends N q root → Depends N q (slice_index (monitored N P) k)
      only root (zero, _, e) depends = subst (Depends N q) (sym e) depends
      only root (suc n, low, e) depends = absurd (omega arith)

  pub depends_bit : (k q : ℕ) → k < length (monitored N P) → Depends N q (slice_index (monitored N P) k) → IsTrue (bit_worth k (slice_index masks q))
  depends_bit k q within depends =
      let there : q < length N.nodes = depends_there N q (slice_index (monitored N P) k) depends in
      sym (marked k q there) ∙ ((are.lines k within).exact q there).1 (record { root = slice_index (monitored N P) k; is_root = (0, omega arith, refl); depends = depends })

  pub meet_shares : (a b : ℕ) → a < length (monitored N P) → b < length (monitored N P) → HaveCommonBit masks a b → SharesNode N P a b
  meet_shares a b ain bin meet =
      let there : meet.node < length N.nodes = (let w = meet.within in let s = are.sized in omega arith) in
      record { shared = meet.node; first = bit_depends a meet.node ain there meet.of_first; second = bit_depends b meet.node bin there meet.of_second }

  pub shares_meet : (a b : ℕ) → a < length (monitored N P) → b < length (monitored N P) → SharesNode N P a b → HaveCommonBit masks a b
  shares_meet a b ain bin s =
      let there : s.shared < length N.nodes = depends_there N s.shared (slice_index (monitored N P) a) s.first in
      record {
        node = s.shared;
        within = (let e = are.sized in omega arith);
        of_first = depends_bit a s.shared ain s.first;
        of_second = depends_bit b s.shared bin s.second;
      }

  -- the first node by masks is the first by dependence
  pub first_node : (a b q : ℕ) → a < length (monitored N P) → b < length (monitored N P) → q < length masks
      → IsTrue (bit_worth a (slice_index masks q)) → IsTrue (bit_worth b (slice_index masks q))
      → ((r : ℕ) → r < q → IsTrue (bit_worth a (slice_index masks r)) → IsTrue (bit_worth b (slice_index masks r)) → ⊥)
      → IsFirstCommon N (slice_index (monitored N P) a) (slice_index (monitored N P) b) q
  first_node a b q ain bin within one other earliest =
      let there : q < length N.nodes = (let s = are.sized in omega arith) in
      record {
        of_first = bit_depends a q ain there one;
        of_second = bit_depends b q bin there other;
        earliest = λ r low of_a of_b. earliest r low (depends_bit a r ain of_a) (depends_bit b r bin of_b);
      }
