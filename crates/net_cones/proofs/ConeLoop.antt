-- Marking cones backward along an evaluation order.
use Rattle.std.proofs.Common.{◌≡◌, ℕ, suc, ◌+◌, ◌<◌, ◌≤◌, ◌==◌, inl, inr, Bool, true, false, not, if◌then◌else◌, List, [], ◌∷◌, length, replicate, slice_index, slice_index_or, Contains, IsTrue, cond, refl, sym, ◌∙◌, ap, subst, arith}
use Rattle.std.proofs.lemmas.Bool.{cases_lt, cases_eq, false≢true}
use Rattle.std.proofs.lemmas.Grind.{common_steps}
use Rattle.std.proofs.lemmas.List.{length-map, get_or-map, length-replicate}
use Rattle.fault_secure.specs.Circuit.{Circuit, node, node_net, pin_net, bit, no_node}
use Rattle.fault_secure.specs.Depends.{Depends}
use Rattle.fault_secure.specs.Depends.Depends.{itself, through}
use Rattle.tsc_net.specs.Order.{fan_in, fan_ins, place_in, IsOrder}
use Rattle.fault_secure.proofs.DependsLemmas.{feeds}
use Rattle.net_cones.specs.Cones.{DependsOnSome, MarksCone}
use Rattle.net_cones.specs.Marks.{mark_drivers, marked_pins}
use Rattle.net_cones.proofs.MarkLemmas.{drivers_stay, drivers_from, drivers_set, length-mark_drivers}
use Rattle.fault_secure.proofs.EqualBits.{bit-replicate}
use Rattle.tsc_net.proofs.OrderLists.{fan_in_has}

-- the marks while the order is walked back: only nodes that a root depends on are marked, the roots' drivers are, and so are
-- the drivers of the pins of each marked node from place `left` of the order on
pub record ConeSoFar (C : Circuit) (roots order : List ℕ) (left : ℕ) (marks : List Bool) : Type 0 where
  pub sized : length marks ≡ length C.nodes
  pub sound : (q : ℕ) → IsTrue (bit marks q) → DependsOnSome C q roots
  pub rooted : (q root : ℕ) → q < length C.nodes → Contains roots root → root ≡ node_net C q → IsTrue (bit marks q)
  pub closed : (i pin k : ℕ) → left ≤ i → i < length order → pin < length (node C (slice_index order i)).reads → k < length C.nodes
      → pin_net C (slice_index order i) pin ≡ node_net C k → IsTrue (bit marks (slice_index order i)) → IsTrue (bit marks k)

-- the test of two different numbers fails
pub same_false : (x y : ℕ) → (y ≡ x → ⊥) → (y == x) ≡ false
same_false x y apart = grind (arith, common_steps)

-- the test of two equal numbers passes
pub same_true : (x y : ℕ) → y ≡ x → (y == x) ≡ true
same_true x y e = grind (arith, common_steps)

-- the item at the place of an item that stands in the list
found_at : (x : ℕ) (xs : List ℕ) → place_in xs x < length xs → slice_index xs (place_in xs x) ≡ x
found_at x [] within = absurd (omega arith)
found_at x (y ∷ xs) within = elim (cases_eq y x) [
  | inl same ↦ (
      let here : place_in (y ∷ xs) x ≡ 0 = ap (λ b. cond (not b) (1 + place_in xs x) 0) (same_true x y same) in
      ap (slice_index (y ∷ xs)) here ∙ same)
  | inr other ↦ (
      let here : place_in (y ∷ xs) x ≡ 1 + place_in xs x = ap (λ b. cond (not b) (1 + place_in xs x) 0) (same_false x y other) in
      let next : place_in (y ∷ xs) x ≡ suc (place_in xs x) = omega arith in
      ap (slice_index (y ∷ xs)) next ∙ found_at x xs (omega arith))
]

-- a net that depends on a node is driven by one
depends_driver : (C : Circuit) (q net : ℕ) → Depends C q net → (k : ℕ) × (k < length C.nodes) × (net ≡ node_net C k)
depends_driver C q _ (itself net there drives) = (q, there, drives)
depends_driver C q _ (through net j pin there drives has reads) = (j, there, drives)

module _ (C : Circuit) (roots order : List ℕ) (whole : IsOrder (fan_ins C) order) where
  -- the place of an item of the order
  placed : (i : ℕ) → i < length order → slice_index order i < length C.nodes → place_in order (slice_index order i) ≡ i
  placed i within there = whole.once i within

  -- what a node reads stands before it
  reads_before : (i j : ℕ) → i < length order → j < length order → slice_index order i < length C.nodes → slice_index order j < length C.nodes
      → Contains (node C (slice_index order j)).reads (C.inputs + length C.latches + slice_index order i) → i < j
  reads_before i j iin jin ithere jthere reads =
      let count : length (fan_ins C) ≡ length C.nodes = length-map C.nodes (λ n. fan_in (C.inputs + length C.latches) n.reads) in
      let fan : slice_index_or (fan_ins C) (slice_index order j) [] ≡ fan_in (C.inputs + length C.latches) (node C (slice_index order j)).reads
      = get_or-map (λ n. fan_in (C.inputs + length C.latches) n.reads) C.nodes (slice_index order j) no_node [] jthere in
      let has : Contains (slice_index_or (fan_ins C) (slice_index order j) []) (slice_index order i)
      = subst (λ xs. Contains xs (slice_index order i)) (sym fan) (fan_in_has (C.inputs + length C.latches) (node C (slice_index order j)).reads (slice_index order i) reads) in
      let before : place_in order (slice_index order i) < place_in order (slice_index order j)
      = whole.after (slice_index order j) (slice_index order i) (omega arith) has in
      let a : place_in order (slice_index order i) ≡ i = placed i iin ithere in
      let b : place_in order (slice_index order j) ≡ j = placed j jin jthere in
      omega arith

  -- a net at a pin is read
  reads_pin : (j pin k : ℕ) → pin < length (node C j).reads → pin_net C j pin ≡ node_net C k → Contains (node C j).reads (C.inputs + length C.latches + k)
  reads_pin j pin k has is = (pin, has, at (node C j).reads pin has is)
    where
      at : (xs : List ℕ) (pin : ℕ) → pin < length xs → slice_index xs pin ≡ C.inputs + length C.latches + k → slice_index_or xs pin (C.inputs + length C.latches + k) ≡ C.inputs + length C.latches + k
      at xs pin has is = grind (arith, common_steps)

  -- the step back over one node
  pub cone_step : (left : ℕ) (marks : List Bool) → left < length order → slice_index order left < length C.nodes
      → ((i : ℕ) → i < length order → slice_index order i < length C.nodes)
      → ConeSoFar C roots order (left + 1) marks
      → ConeSoFar C roots order left (marked_pins (C.inputs + length C.latches) (slice_index order left) (node C (slice_index order left)).reads marks)
  cone_step left marks within there all so_far = choose (bit marks (slice_index order left)) refl
    where
      place : ℕ
      place = slice_index order left

      reads : List ℕ
      reads = (node C (slice_index order left)).reads

      base : ℕ
      base = C.inputs + length C.latches

      unmarked : bit marks (slice_index order left) ≡ false → ConeSoFar C roots order left marks
      unmarked clear = record {
        sized = so_far.sized;
        sound = so_far.sound;
        rooted = so_far.rooted;
        closed = λ i pin k low high has kin is marked. elim (cases_eq i left) [
          | inl same ↦ absurd (false≢true (sym clear ∙ subst (λ i. IsTrue (bit marks (slice_index order i))) same marked))
          | inr other ↦ so_far.closed i pin k (omega arith) high has kin is marked
        ];
      }

      new_marks : List Bool
      new_marks = mark_drivers (C.inputs + length C.latches) (node C (slice_index order left)).reads marks

      sized : length new_marks ≡ length C.nodes
      sized = length-mark_drivers (C.inputs + length C.latches) (node C (slice_index order left)).reads marks ∙ so_far.sized

      sound : IsTrue (bit marks (slice_index order left)) → (q : ℕ) → IsTrue (bit new_marks q) → DependsOnSome C q roots
      sound here q is = elim (drivers_from (C.inputs + length C.latches) q (node C (slice_index order left)).reads marks is) [
        | inl old ↦ so_far.sound q old
        | inr (pin, has, e) ↦ (
            let some : DependsOnSome C (slice_index order left) roots = so_far.sound (slice_index order left) here in
            let is_pin : pin_net C (slice_index order left) pin ≡ node_net C q = at (node C (slice_index order left)).reads pin q has e in
            record {
              root = some.root;
              is_root = some.is_root;
              depends = feeds C q (slice_index order left) pin some.root (q_there q is) is_pin has some.depends;
            })
      ]
        where
          at : (xs : List ℕ) (pin q : ℕ) → pin < length xs → slice_index_or xs pin (C.inputs + length C.latches + q) ≡ C.inputs + length C.latches + q → slice_index xs pin ≡ C.inputs + length C.latches + q
          at xs pin q has e = grind (arith, common_steps)

          q_there : (q : ℕ) → IsTrue (bit new_marks q) → q < length C.nodes
          q_there q is = elim (cases_lt q (length C.nodes)) [
            | inl low ↦ low
            | inr high ↦ (
                let e : length new_marks ≡ length C.nodes = sized in
                absurd (false≢true (sym (past new_marks q (omega arith)) ∙ is)))
          ]
            where
              past : (xs : List Bool) (q : ℕ) → length xs ≤ q → bit xs q ≡ false
              past xs q high = grind (arith, common_steps)

      marked : IsTrue (bit marks (slice_index order left)) → ConeSoFar C roots order left new_marks
      marked here = record {
        sized = sized;
        sound = sound here;
        rooted = λ q root qin is_root is. drivers_stay (C.inputs + length C.latches) q (node C (slice_index order left)).reads marks (so_far.rooted q root qin is_root is);
        closed = λ i pin k low high has kin is is_marked. elim (cases_eq i left) [
          | inl same ↦ (
              let has' : pin < length (node C (slice_index order left)).reads = subst (λ i. pin < length (node C (slice_index order i)).reads) same has in
              let is' : pin_net C (slice_index order left) pin ≡ node_net C k = subst (λ i. pin_net C (slice_index order i) pin ≡ node_net C k) same is in
              let s : length marks ≡ length C.nodes = so_far.sized in
              drivers_set (C.inputs + length C.latches) k (node C (slice_index order left)).reads marks (omega arith) (reads_pin (slice_index order left) pin k has' is'))
          | inr other ↦ elim (drivers_from (C.inputs + length C.latches) (slice_index order i) (node C (slice_index order left)).reads marks is_marked) [
            | inl old ↦ drivers_stay (C.inputs + length C.latches) k (node C (slice_index order left)).reads marks (so_far.closed i pin k (omega arith) high has kin is old)
            | inr new ↦ (
                let before : i < left = reads_before i left high within (all i high) there new in absurd (omega arith))
          ]
        ];
      }

      choose : (b : Bool) → bit marks (slice_index order left) ≡ b → ConeSoFar C roots order left (if b then new_marks else marks)
      choose true is = marked is
      choose false is = unmarked is

  -- before the walk the roots' drivers are marked, and nothing else
  pub cone_start : (marks : List Bool) → length marks ≡ length C.nodes → marks ≡ mark_drivers (C.inputs + length C.latches) roots (replicate (length C.nodes) false)
      → ConeSoFar C roots order (length order) marks
  cone_start marks sized is = record {
    sized = sized;
    sound = λ q marked. elim (drivers_from (C.inputs + length C.latches) q roots (replicate (length C.nodes) false) (subst (λ m. IsTrue (bit m q)) is marked)) [
      | inl old ↦ absurd (false≢true (sym (bit-replicate (length C.nodes) q) ∙ old))
      | inr root ↦ record { root = C.inputs + length C.latches + q; is_root = root; depends = itself (C.inputs + length C.latches + q) (marked_there q marked) refl }
    ];
    rooted = λ q root qin is_root e. (
        let count : length (replicate {A = Bool} (length C.nodes) false) ≡ length C.nodes = length-replicate (length C.nodes) false in
        subst (λ m. IsTrue (bit m q)) (sym is) (drivers_set (C.inputs + length C.latches) q roots (replicate (length C.nodes) false) (omega arith) (subst (Contains roots) e is_root)));
    closed = λ i pin k low high has kin e marked. absurd (omega arith);
  }
    where
      marked_there : (q : ℕ) → IsTrue (bit marks q) → q < length C.nodes
      marked_there q marked = elim (cases_lt q (length C.nodes)) [
        | inl low ↦ low
        | inr high ↦ absurd (false≢true (sym (past marks q (omega arith)) ∙ marked))
      ]
        where
          past : (xs : List Bool) (q : ℕ) → length xs ≤ q → bit xs q ≡ false
          past xs q high = grind (arith, common_steps)

  -- after the walk what a marked net depends on is marked
  reached : (marks : List Bool) → ConeSoFar C roots order 0 marks → (q net : ℕ) → Depends C q net → (m : ℕ) → m < length C.nodes → net ≡ node_net C m → IsTrue (bit marks m) → IsTrue (bit marks q)
  reached marks so_far q _ (itself net there drives) m min is marked = let e : m ≡ q = omega arith in subst (λ k. IsTrue (bit marks k)) e marked
  reached marks so_far q _ (through net j pin there drives has reads) m min is marked =
      let same : m ≡ j = omega arith in
      let count : length (fan_ins C) ≡ length C.nodes = length-map C.nodes (λ n. fan_in (C.inputs + length C.latches) n.reads) in
      let there' : place_in order j < length order = whole.each j (omega arith) in
      let at : (i : ℕ) × (i < length order) × (slice_index order i ≡ j) = (place_in order j, there', found_at j order there') in
      let driver : (k : ℕ) × (k < length C.nodes) × (pin_net C j pin ≡ node_net C k) = depends_driver C q (pin_net C j pin) reads in
      let has' : pin < length (node C (slice_index order at.0)).reads = subst (λ j. pin < length (node C j).reads) (sym at.2) has in
      let is' : pin_net C (slice_index order at.0) pin ≡ node_net C driver.0 = subst (λ j. pin_net C j pin ≡ node_net C driver.0) (sym at.2) driver.2 in
      let marked' : IsTrue (bit marks (slice_index order at.0)) = subst (λ k. IsTrue (bit marks k)) (same ∙ sym at.2) marked in
      reached marks so_far q (pin_net C j pin) reads driver.0 driver.1 driver.2 (so_far.closed at.0 pin driver.0 (omega arith) at.1 has' driver.1 is' marked')

  -- after the walk the marks are the cone
  pub cone_end : (marks : List Bool) → ConeSoFar C roots order 0 marks → MarksCone C roots marks
  cone_end marks so_far = record { sized = so_far.sized; exact = λ q there. (so_far.sound q, λ some. found q there some) }
    where
      found : (q : ℕ) → q < length C.nodes → DependsOnSome C q roots → IsTrue (bit marks q)
      found q there some =
          let driver : (k : ℕ) × (k < length C.nodes) × (some.root ≡ node_net C k) = depends_driver C q some.root some.depends in
          reached marks so_far q some.root some.depends driver.0 driver.1 driver.2 (so_far.rooted driver.0 some.root driver.1 some.is_root driver.2)
