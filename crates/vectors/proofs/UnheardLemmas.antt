-- A fault that no rail hears leaves both rails as they are, so that they agree where they do without a fault.
use Rattle.std.proofs.Common.{◌≡◌, ℕ, ◌+◌, ◌-◌, ◌<◌, ◌≤◌, not, Bool, true, false, nat_lt, nat_le, List, length, slice_index_or, Contains, Option, None, Some, IsTrue, refl, sym, ◌∙◌, subst, arith, true≢false}
use Rattle.std.proofs.lemmas.Bool.{and_parts, ltb-true}
use Rattle.std.proofs.lemmas.List.{get_or_default}
use Rattle.fault_secure.specs.Circuit.{Circuit, node_net, nets, bit}
use Rattle.fault_secure.specs.CodePlan.{CodePlan}
use Rattle.fault_secure.specs.Depends.{Depends}
use Rattle.fault_secure.specs.FailingCell.{SettlesBut}
use Rattle.fault_secure.specs.Settle.{Settles, Acyclic}
use Rattle.fault_secure.specs.StuckAt.{StuckAt, NoFault, Stem, Pin, fault_cell, is_listed, pins_of}
use Rattle.fault_secure.proofs.OneRun.{one_valuation}
use Rattle.structure_laws.proofs.FailingCell.{listed_faults_settle_but, working}
use Rattle.structure_laws.proofs.Outside.{outside_cone_unchanged}
use Rattle.net_cones.specs.Cones.{MarksCone}
use Rattle.lane_sim.specs.First.{IsFirstIn}
use Rattle.lane_sim.specs.Points.{PointsState, point_input, point_state}
use Rattle.lane_sim.specs.FaultBench.{AgreeUnder}
use Rattle.vectors.specs.Unheard.{rails, IsUnheard}

-- the first where one of two things holds, which hold at the same numbers, is the first where the other does
pub first_alike : (E F : ℕ → Type 0) (many : ℕ) (point : Option ℕ) → ((p : ℕ) → E p → F p) → ((p : ℕ) → F p → E p) → IsFirstIn E 0 many point → IsFirstIn F 0 many point
first_alike E F many None there back none = λ p low high holds. none p low high (back p holds)
first_alike E F many (Some point) there back first = (first.0, first.1, there point first.2, λ p low high holds. first.3 p low high (back p holds))

module _ (N : Circuit) (P : CodePlan) (f : StuckAt) (points : PointsState) (acyclic : Acyclic N) (listed : IsTrue (is_listed N f)) (unheard : IsUnheard N P f) where
  -- a net that doesn't depend on the node has the bit that it has without the fault
  kept : (p : ℕ) (v u : List Bool) → Settles N f (point_input points p) (point_state points p) v → Settles N NoFault (point_input points p) (point_state points p) u
      → (net : ℕ) → (Depends N unheard.node net → ⊥) → bit v net ≡ bit u net
  kept p v u failing right net free =
      let x = point_input points p in
      let s = point_state points p in
      let but = (listed_faults_settle_but N f x s s v listed (λ l below off. refl) failing).1 in
      outside_cone_unchanged N unheard.node x s v u acyclic (subst (λ cell. SettlesBut N cell x s v) unheard.at but) (working N (node_net N unheard.node) x s u right) net free

  abbrev Under : StuckAt → ℕ → Type 0
  Under g p = AgreeUnder N g points P.rail1 P.rail2 p

  pub agree_without : (p : ℕ) → Under f p → Under NoFault p
  agree_without p a =
      let one = one_valuation N NoFault (point_input points p) (point_state points p) acyclic in
      let same = kept p a.valuation one.valuation a.settles one.settles in
      record { valuation = one.valuation; settles = one.settles; agree = sym (same P.rail1 unheard.first) ∙ (a.agree ∙ same P.rail2 unheard.second) }

  pub agree_with : (p : ℕ) → Under NoFault p → Under f p
  agree_with p a =
      let one = one_valuation N f (point_input points p) (point_state points p) acyclic in
      let same = kept p one.valuation a.valuation one.settles a.settles in
      record { valuation = one.valuation; settles = one.settles; agree = same P.rail1 unheard.first ∙ (a.agree ∙ sym (same P.rail2 unheard.second)) }

  pub first_without : (many : ℕ) (point : Option ℕ) → IsFirstIn (Under f) 0 many point → IsFirstIn (Under NoFault) 0 many point
  first_without many point found = first_alike (Under f) (Under NoFault) many point agree_without agree_with found

  pub first_with : (many : ℕ) (point : Option ℕ) → IsFirstIn (Under NoFault) 0 many point → IsFirstIn (Under f) 0 many point
  first_with many point found = first_alike (Under NoFault) (Under f) many point agree_with agree_without found

-- ---- which faults are known to be such

-- the cell of a listed fault is a net
pub cell_inside : (N : Circuit) (f : StuckAt) → IsTrue (is_listed N f) → fault_cell f < nets N
cell_inside N NoFault listed = absurd (cc)
cell_inside N (Stem net held) listed = ltb-true net (nets N) (and_parts (nat_le N.inputs net) (nat_lt net (nets N)) listed).1
cell_inside N (Pin driver index held) listed = ltb-true driver (nets N) (and_parts (nat_lt driver (nets N)) (nat_lt index (pins_of N driver)) listed).0

not_marked : (at : Bool) → IsTrue (not at) → at ≡ false
not_marked true isnt = sym isnt
not_marked false isnt = refl

-- the fault is at a node that isn't marked
pub unheard_at : (N : Circuit) (P : CodePlan) (f : StuckAt) (marks : List Bool) (cell first : ℕ) (at : Bool) → MarksCone N (rails P) marks → cell ≡ fault_cell f
    → first ≡ N.inputs + length N.latches → first ≤ cell → fault_cell f < nets N → at ≡ slice_index_or marks (cell - first) at → IsTrue (not at) → IsUnheard N P f
unheard_at N P f marks cell first at cone cell_is first_is past below found isnt = record {
  node = cell - first;
  inside = inside;
  at = omega (arith, cell_is, first_is);
  first = none P.rail1 (0, omega arith, refl);
  second = none P.rail2 (1, omega arith, refl);
}
  where
    inside : cell - first < length N.nodes
    inside = omega (arith, cell_is, first_is, below)

    unmarked : bit marks (cell - first) ≡ false
    unmarked = sym (get_or_default marks (cell - first) at false (omega (arith, cone.sized, inside))) ∙ (sym found ∙ not_marked at isnt)

    none : (root : ℕ) → Contains (rails P) root → Depends N (cell - first) root → ⊥
    none root is_root depends = true≢false (sym ((cone.exact (cell - first) inside).1 (record { root = root; is_root = is_root; depends = depends })) ∙ unmarked)
