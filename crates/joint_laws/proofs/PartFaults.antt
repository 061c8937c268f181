-- Where a fault of the joint is for a part: at one of its cells, or at none.
use Rattle.std.proofs.Common.{◌≡◌, ℕ, zero, suc, ◌+◌, ◌<◌, ◌≤◌, ◌⊎◌, ◌==◌, Bool, ◌&&◌, if◌then◌else◌, nat_lt, nat_le, length, IsTrue, refl, sym, ap, subst, ◌∙◌, inl, inr, arith, eq-eqb}
use Rattle.std.proofs.lemmas.Bool.{cases_eq, cases_lt, ne_eqb, cond-true, cond-false, lt-ltb, le-ltb, and_parts, and_from, le-leb, leb-true, ltb-true}
use Rattle.std.proofs.lemmas.List.{length-map}
use Rattle.fault_secure.specs.Circuit.{Circuit, NodeOf, node, latch_net, node_net, nets}
use Rattle.fault_secure.specs.StuckAt.{StuckAt, NoFault, Stem, Pin, pins_of, is_listed, fault_cell}
use Rattle.fault_secure.specs.FailingCell.{IsCell}
use Rattle.fault_secure.proofs.Places.{Place, place_of}
use Rattle.fault_secure.proofs.Places.Place.{Input, Latch, Node, Beyond}
use Rattle.structure_laws.proofs.FailingCell.{fault_at, pins_of_input}
use Rattle.joint_laws.specs.Parts.{StandsIn}
use Rattle.joint_laws.proofs.PartBits.{ActsAs}

-- the cell of the joint is that of a cell of the part
abbrev pub IsOfPart : Circuit → (ℕ → ℕ) → ℕ → Type 0
IsOfPart C at cell = (c : ℕ) × IsCell C c × (at c ≡ cell)

-- the cell of the joint is that of no cell of the part
abbrev pub IsNotOfPart : Circuit → (ℕ → ℕ) → ℕ → Type 0
IsNotOfPart C at cell = (c : ℕ) → IsCell C c → at c ≡ cell → ⊥

sought : (C : Circuit) (at : ℕ → ℕ) (cell below : ℕ) → IsOfPart C at cell ⊎ ((c : ℕ) → c < below → IsCell C c → at c ≡ cell → ⊥)
sought C at cell zero = inr (λ c h is e. omega arith)
sought C at cell (suc last) = elim (sought C at cell last) [
  | inl found ↦ inl found
  | inr none ↦ elim (cases_lt last C.inputs) [
    | inl low ↦ inr (λ c h is e. let k = is.no_input in none c (omega arith) is e)
    | inr high ↦ elim (cases_lt last (nets C)) [
      | inr past ↦ inr (λ c h is e. let k = is.inside in none c (omega arith) is e)
      | inl inside ↦ elim (cases_eq (at last) cell) [
        | inl here ↦ inl (last, record { no_input = high; inside = inside }, here)
        | inr off ↦ inr (λ c h is e. elim (cases_eq c last) [
          | inl same ↦ off (ap at (sym same) ∙ e)
          | inr other ↦ none c (omega arith) is e
        ])
      ]
    ]
  ]
]

-- a cell of the joint is that of a cell of the part, or of none
pub of_part_or_not : (C : Circuit) (at : ℕ → ℕ) (cell : ℕ) → IsOfPart C at cell ⊎ IsNotOfPart C at cell
of_part_or_not C at cell = elim (sought C at cell (nets C)) [
  | inl found ↦ inl found
  | inr none ↦ inr (λ c is e. none c is.inside is e)
]

-- a listed fault is at a cell
pub listed_at : (N : Circuit) (f : StuckAt) → IsTrue (is_listed N f) → IsCell N (fault_cell f)
listed_at N NoFault listed = absurd (cc)
listed_at N (Stem net held) listed =
    let parts = and_parts (nat_le N.inputs net) (nat_lt net (nets N)) listed in
    record { no_input = leb-true N.inputs net parts.0; inside = ltb-true net (nets N) parts.1 }
listed_at N (Pin driver index held) listed =
    let parts = and_parts (nat_lt driver (nets N)) (nat_lt index (pins_of N driver)) listed in
    record { no_input = pins_of_input N driver index parts.1; inside = ltb-true driver (nets N) parts.0 }

pins_of_latch : (N : Circuit) (l : ℕ) → l < length N.latches → pins_of N (latch_net N l) ≡ 1
pins_of_latch N l h =
    cond-false (nat_lt (latch_net N l) N.inputs) _ _ (le-ltb _ _ (omega arith))
    ∙ cond-true (nat_lt (latch_net N l) (N.inputs + length N.latches)) _ _ (lt-ltb _ _ (omega arith))

pins_of_node : (N : Circuit) (j : ℕ) → pins_of N (node_net N j) ≡ length (node N j).reads
pins_of_node N j =
    cond-false (nat_lt (node_net N j) N.inputs) _ _ (le-ltb _ _ (omega arith))
    ∙ cond-false (nat_lt (node_net N j) (N.inputs + length N.latches)) _ _ (le-ltb _ _ (omega arith))
    ∙ ap (λ k. length (node N k).reads) (omega arith)

module _ (J C : Circuit) (at : ℕ → ℕ) (first_latch first_node : ℕ) (m : StandsIn J C at first_latch first_node) where
  -- a cell of the part is one of the joint
  cell_at_place : (c : ℕ) → IsCell C c → Place C c → IsCell J (at c)
  cell_at_place c is (Input h) = absurd (let k = is.no_input in omega arith)
  cell_at_place c is (Latch l h e) =
      let fits = m.latches_fit in
      subst (IsCell J) (sym (ap at e ∙ m.latch_nets l h)) (record { no_input = omega arith; inside = omega arith })
  cell_at_place c is (Node j h e) =
      let fits = m.nodes_fit in
      subst (IsCell J) (sym (ap at e ∙ m.node_nets j h)) (record { no_input = omega arith; inside = omega arith })
  cell_at_place c is (Beyond h) = absurd (let k = is.inside in omega arith)

  pub cell_is_cell : (c : ℕ) → IsCell C c → IsCell J (at c)
  cell_is_cell c is = cell_at_place c is (place_of C c)

  -- two nets of the part that are one in the joint are one where one of them is a cell's
  one_at : (c net : ℕ) → Place C c → Place C net → IsCell C c → net < nets C → at net ≡ at c → c ≡ net
  one_at c net (Input h) there is inside e = absurd (let k = is.no_input in omega arith)
  one_at c net (Beyond h) there is inside e = absurd (let k = is.inside in omega arith)
  one_at c net (Latch l h a) (Input k) is inside e =
      absurd (let i : at net < J.inputs = m.inputs net k in let n : at c ≡ latch_net J (first_latch + l) = ap at a ∙ m.latch_nets l h in omega arith)
  one_at c net (Latch l h a) (Latch i k b) is inside e =
      let n : at c ≡ latch_net J (first_latch + l) = ap at a ∙ m.latch_nets l h in
      let o : at net ≡ latch_net J (first_latch + i) = ap at b ∙ m.latch_nets i k in omega arith
  one_at c net (Latch l h a) (Node j k b) is inside e =
      absurd (let n : at c ≡ latch_net J (first_latch + l) = ap at a ∙ m.latch_nets l h in
      let o : at net ≡ node_net J (first_node + j) = ap at b ∙ m.node_nets j k in let fits = m.latches_fit in omega arith)
  one_at c net (Latch l h a) (Beyond k) is inside e = absurd (omega arith)
  one_at c net (Node j h a) (Input k) is inside e =
      absurd (let i : at net < J.inputs = m.inputs net k in let n : at c ≡ node_net J (first_node + j) = ap at a ∙ m.node_nets j h in omega arith)
  one_at c net (Node j h a) (Latch l k b) is inside e =
      absurd (let n : at c ≡ node_net J (first_node + j) = ap at a ∙ m.node_nets j h in
      let o : at net ≡ latch_net J (first_latch + l) = ap at b ∙ m.latch_nets l k in let fits = m.latches_fit in omega arith)
  one_at c net (Node j h a) (Node i k b) is inside e =
      let n : at c ≡ node_net J (first_node + j) = ap at a ∙ m.node_nets j h in
      let o : at net ≡ node_net J (first_node + i) = ap at b ∙ m.node_nets i k in omega arith
  one_at c net (Node j h a) (Beyond k) is inside e = absurd (omega arith)

  same_net : (c : ℕ) → IsCell C c → (net : ℕ) → net < nets C → (at c == at net) ≡ (c == net)
  same_net c is net inside = elim (cases_eq c net) [
    | inl here ↦ eq-eqb (at c) (at net) (ap at here) ∙ sym (eq-eqb c net here)
    | inr off ↦ ne_eqb (at c) (at net) (λ e. off (one_at c net (place_of C c) (place_of C net) is inside (sym e))) ∙ sym (ne_eqb c net off)
  ]

  -- a fault at a cell of the part acts as that of the part
  pub stem_acts : (c : ℕ) (held : Bool) → IsCell C c → ActsAs C at (Stem (at c) held) (Stem c held)
  stem_acts c held is = record {
    stem = λ net b inside. ap (λ here. if here then held else b) (same_net c is net inside);
    pin = λ net k b cell. refl;
  }

  pub pin_acts : (c index : ℕ) (held : Bool) → IsCell C c → ActsAs C at (Pin (at c) index held) (Pin c index held)
  pin_acts c index held is = record {
    stem = λ net b inside. refl;
    pin = λ net k b cell. ap (λ here. if here && (index == k) then held else b) (same_net c is net cell.inside);
  }

  -- no cell of the part stands at an input of the joint
  off_at : (net cell : ℕ) → J.inputs ≤ cell → IsNotOfPart C at cell → net < nets C → (net < C.inputs) ⊎ (C.inputs ≤ net) → at net ≡ cell → ⊥
  off_at net cell no_input off inside (inl low) e = let k = m.inputs net low in omega arith
  off_at net cell no_input off inside (inr high) e = off net (record { no_input = high; inside = inside }) e

  -- a fault at no cell of the part acts as none
  pub off_acts : (f : StuckAt) → J.inputs ≤ fault_cell f → IsNotOfPart C at (fault_cell f) → ActsAs C at f NoFault
  off_acts f no_input off = record {
    stem = λ net b inside. (fault_at f (at net) (off_at net (fault_cell f) no_input off inside (cases_lt net C.inputs))).stem b;
    pin = λ net k b cell. (fault_at f (at net) (off net cell)).pin k b;
  }

  -- as many pins
  pins_at : (c : ℕ) → IsCell C c → Place C c → pins_of J (at c) ≡ pins_of C c
  pins_at c is (Input h) = absurd (let k = is.no_input in omega arith)
  pins_at c is (Latch l h e) =
      let fits = m.latches_fit in
      ap (pins_of J) (ap at e ∙ m.latch_nets l h) ∙ pins_of_latch J (first_latch + l) (omega arith) ∙ sym (ap (pins_of C) e ∙ pins_of_latch C l h)
  pins_at c is (Node j h e) =
      ap (pins_of J) (ap at e ∙ m.node_nets j h) ∙ pins_of_node J (first_node + j)
      ∙ ap (λ (n : NodeOf). length n.reads) (m.nodes j h) ∙ length-map (node C j).reads at ∙ sym (ap (pins_of C) e ∙ pins_of_node C j)
  pins_at c is (Beyond h) = absurd (let k = is.inside in omega arith)

  pub stem_listed : (c : ℕ) (held : Bool) → IsCell C c → IsTrue (is_listed C (Stem c held))
  stem_listed c held is = and_from _ _ (le-leb C.inputs c is.no_input) (lt-ltb c (nets C) is.inside)

  pub pin_listed : (c index : ℕ) (held : Bool) → IsCell C c → IsTrue (is_listed J (Pin (at c) index held)) → IsTrue (is_listed C (Pin c index held))
  pin_listed c index held is listed =
      let parts = and_parts (nat_lt (at c) (nets J)) (nat_lt index (pins_of J (at c))) listed in
      and_from _ _ (lt-ltb c (nets C) is.inside) (ap (nat_lt index) (sym (pins_at c is (place_of C c))) ∙ parts.1)
