-- The checker's nodes of an evaluation order stand in an order in which they can be settled.
use Rattle.std.proofs.Common.{◌≡◌, ℕ, suc, ◌+◌, ◌<◌, ◌≤◌, ◌⊎◌, inl, inr, Bool, true, false, not, ◌&&◌, cond, List, [], ◌∷◌, length, slice_index, slice_index_or, Contains, refl, sym, ◌∙◌, ap, subst, arith}
use Rattle.std.specs.List.{filter}
use Rattle.std.proofs.lemmas.Bool.{cases_Bool, cases_eq, and_parts, and_from, false≢true}
use Rattle.std.proofs.lemmas.Grind.{common_steps}
use Rattle.std.proofs.lemmas.List.{length-map, get_or-map}
use Rattle.fault_secure.specs.Circuit.{Circuit, node, node_net, pin_net, bit, no_node}
use Rattle.fault_secure.specs.CodePlan.{CodePlan}
use Rattle.fault_secure.specs.Depends.{Depends, InChecker}
use Rattle.tsc_net.specs.Order.{fan_in, fan_ins, evaluation_order, place_in, IsOrder}
use Rattle.net_cones.specs.Cones.{DependsOnSome, MarksCone}
use Rattle.net_cones.proofs.OrderWithin.{order_within}
use Rattle.monitored_nets.specs.Marks.{MarksFunction}
use Rattle.checker_audit.specs.Program.{checker_places}
use Rattle.checker_audit.specs.Program.{AreInOrder, IsProgram}
use Rattle.checker_audit.proofs.Putting.{here, there, cons_cases, nothing}
use Rattle.tsc_net.proofs.OrderLists.{fan_in_has}
use Rattle.net_cones.proofs.ConeLoop.{same_false}

-- filtered nodes
filter-there : (p : ℕ → Bool) (x : ℕ) (xs : List ℕ) → p x ≡ true → filter p (x ∷ xs) ≡ x ∷ filter p xs
filter-there p x xs e = ap (λ b. cond b (x ∷ filter p xs) (filter p xs)) e

filter-gone : (p : ℕ → Bool) (x : ℕ) (xs : List ℕ) → p x ≡ false → filter p (x ∷ xs) ≡ filter p xs
filter-gone p x xs e = ap (λ b. cond b (x ∷ filter p xs) (filter p xs)) e

filter_from : (p : ℕ → Bool) (xs : List ℕ) (y : ℕ) → Contains (filter p xs) y → Contains xs y × (p y ≡ true)
filter_from p [] y c = absurd (nothing y c)
filter_from p (x ∷ xs) y c = elim (cases_Bool (p x)) [
  | inl e ↦ elim (cons_cases x y (filter p xs) (subst (λ l. Contains l y) (filter-there p x xs e) c)) [
    | inl same ↦ (subst (Contains (x ∷ xs)) same (here x xs), ap p (sym same) ∙ e)
    | inr later ↦ (let rest = filter_from p xs y later in (there x y xs rest.0, rest.1))
  ]
  | inr e ↦ (let rest = filter_from p xs y (subst (λ l. Contains l y) (filter-gone p x xs e) c) in (there x y xs rest.0, rest.1))
]

filter_has : (p : ℕ → Bool) (xs : List ℕ) (y : ℕ) → Contains xs y → p y ≡ true → Contains (filter p xs) y
filter_has p [] y c e = absurd (nothing y c)
filter_has p (x ∷ xs) y c e = elim (cons_cases x y xs c) [
  | inl same ↦ subst (λ l. Contains l y) (sym (filter-there p x xs (ap p same ∙ e))) (subst (Contains (x ∷ filter p xs)) same (here x (filter p xs)))
  | inr later ↦ elim (cases_Bool (p x)) [
    | inl t ↦ subst (λ l. Contains l y) (sym (filter-there p x xs t)) (there x y (filter p xs) (filter_has p xs y later e))
    | inr f ↦ subst (λ l. Contains l y) (sym (filter-gone p x xs f)) (filter_has p xs y later e)
  ]
]

-- some nodes of an order are in order
filter_order : (N : Circuit) (p : ℕ → Bool) (xs : List ℕ) → AreInOrder N xs → AreInOrder N (filter p xs)
filter_order N p [] order = tt
filter_order N p (x ∷ xs) order = elim (cases_Bool (p x)) [
  | inl e ↦ subst (AreInOrder N) (sym (filter-there p x xs e)) (
    λ pin r has c. order.0 pin r has (elim (cons_cases x r (filter p xs) c) [ inl same ↦ subst (Contains (x ∷ xs)) same (here x xs) | inr later ↦ there x r xs (filter_from p xs r later).0 ]),
    λ c. order.1 (filter_from p xs x c).0,
    filter_order N p xs order.2,
  )
  | inr e ↦ subst (AreInOrder N) (sym (filter-gone p x xs e)) (filter_order N p xs order.2)
]

-- an item that has a place stands in the list
placed : (x : ℕ) (xs : List ℕ) → place_in xs x < length xs → Contains xs x
placed x [] within = absurd (omega arith)
placed x (y ∷ xs) within = elim (cases_eq y x) [
  | inl same ↦ subst (Contains (y ∷ xs)) same (here y xs)
  | inr other ↦ (
      let next : place_in (y ∷ xs) x ≡ 1 + place_in xs x = ap (λ b. cond (not b) (1 + place_in xs x) 0) (same_false x y other) in
      there y x xs (placed x xs (omega arith)))
]

module _ (N : Circuit) (order : List ℕ) (whole : IsOrder (fan_ins N) order) (all : (i : ℕ) → i < length order → slice_index order i < length N.nodes) where
  reads_pin : (j pin k : ℕ) → pin < length (node N j).reads → pin_net N j pin ≡ node_net N k → Contains (node N j).reads (N.inputs + length N.latches + k)
  reads_pin j pin k has is = (pin, has, at (node N j).reads pin has is)
    where
      at : (xs : List ℕ) (pin : ℕ) → pin < length xs → slice_index xs pin ≡ N.inputs + length N.latches + k → slice_index_or xs pin (N.inputs + length N.latches + k) ≡ N.inputs + length N.latches + k
      at xs pin has is = grind (arith, common_steps)

  -- what a node reads stands before it
  reads_before : (i j pin : ℕ) → i < length order → j < length order → pin < length (node N (slice_index order j)).reads
      → pin_net N (slice_index order j) pin ≡ node_net N (slice_index order i) → i < j
  reads_before i j pin iin jin has is =
      let count : length (fan_ins N) ≡ length N.nodes = length-map N.nodes (λ n. fan_in (N.inputs + length N.latches) n.reads) in
      let jthere : slice_index order j < length N.nodes = all j jin in
      let fan : slice_index_or (fan_ins N) (slice_index order j) [] ≡ fan_in (N.inputs + length N.latches) (node N (slice_index order j)).reads
      = get_or-map (λ n. fan_in (N.inputs + length N.latches) n.reads) N.nodes (slice_index order j) no_node [] jthere in
      let has' : Contains (slice_index_or (fan_ins N) (slice_index order j) []) (slice_index order i)
      = subst (λ xs. Contains xs (slice_index order i)) (sym fan)
      (fan_in_has (N.inputs + length N.latches) (node N (slice_index order j)).reads (slice_index order i) (reads_pin (slice_index order j) pin (slice_index order i) has is)) in
      let before : place_in order (slice_index order i) < place_in order (slice_index order j)
      = whole.after (slice_index order j) (slice_index order i) (omega arith) has' in
      let a : place_in order (slice_index order i) ≡ i = whole.once i iin in
      let b : place_in order (slice_index order j) ≡ j = whole.once j jin in
      omega arith

-- what holds of each item and those from it on, by places
module _ (N : Circuit) where
  by_places : (xs : List ℕ)
      → ((i j pin : ℕ) → i ≤ j → j < length xs → pin < length (node N (slice_index xs i)).reads → pin_net N (slice_index xs i) pin ≡ node_net N (slice_index xs j) → ⊥)
      → ((i j : ℕ) → i < j → j < length xs → slice_index xs i ≡ slice_index xs j → ⊥) → AreInOrder N xs
  by_places [] reads apart = tt
  by_places (x ∷ xs) reads apart = (
    λ pin r has (k, within, e) is. reads 0 k pin (omega arith) within has (is ∙ ap (node_net N) (sym (default (x ∷ xs) k r within e))),
    λ (k, within, e). apart 0 (suc k) (omega arith) (omega arith) (sym (default xs k x within e)),
    by_places xs (λ i j pin low within has is. reads (suc i) (suc j) pin (omega arith) (omega arith) has is) (λ i j low within is. apart (suc i) (suc j) (omega arith) (omega arith) is),
  )
    where
      default : (xs : List ℕ) (k r : ℕ) → k < length xs → slice_index_or xs k r ≡ r → slice_index xs k ≡ r
      default xs k r within e = grind (arith, common_steps)

pub program_is : (N : Circuit) (P : CodePlan) (order : List ℕ) (rails function : List Bool) (places : List ℕ) → IsOrder (fan_ins N) order → order ≡ evaluation_order (fan_ins N)
    → MarksCone N (P.rail1 ∷ (P.rail2 ∷ [])) rails → MarksFunction N P function → places ≡ checker_places rails function order → IsProgram N P places
program_is N P order rails function places whole is marks functions same =
    subst (IsProgram N P) (sym same) (record { order = filter_order N test order sorted; sound = sound; whole = complete })
  where
    test : ℕ → Bool
    test = λ place. bit rails place && not (bit function place)

    all : (i : ℕ) → i < length order → slice_index order i < length N.nodes
    all = order_within N order is

    sorted : AreInOrder N order
    sorted = by_places N order
        (λ i j pin low within has reads. (let before : j < i = reads_before N order whole all j i pin within (omega arith) has reads in omega arith))
        (λ i j low within e. (
        let a : place_in order (slice_index order i) ≡ i = whole.once i (omega arith) in
        let b : place_in order (slice_index order j) ≡ j = whole.once j within in
        let c : place_in order (slice_index order i) ≡ place_in order (slice_index order j) = ap (place_in order) e in
        omega arith))

    inside : (q : ℕ) → Contains order q → q < length N.nodes
    inside q (k, within, e) = subst (λ q. q < length N.nodes) (default order k q within e) (all k within)
      where
        default : (xs : List ℕ) (k r : ℕ) → k < length xs → slice_index_or xs k r ≡ r → slice_index xs k ≡ r
        default xs k r within e = grind (arith, common_steps)

    rail : (q : ℕ) → DependsOnSome N q (P.rail1 ∷ (P.rail2 ∷ [])) → Depends N q P.rail1 ⊎ Depends N q P.rail2
    rail q d = elim (cons_cases P.rail1 d.root (P.rail2 ∷ []) d.is_root) [
      | inl e ↦ inl (subst (Depends N q) (sym e) d.depends)
      | inr more ↦ elim (cons_cases P.rail2 d.root [] more) [
        | inl e ↦ inr (subst (Depends N q) (sym e) d.depends)
        | inr none ↦ absurd (nothing d.root none)
      ]
    ]

    not_true : (b : Bool) → not b ≡ true → b ≡ true → ⊥
    not_true b e f = false≢true (ap not (sym f) ∙ e)

    off : (b : Bool) → (b ≡ true → ⊥) → not b ≡ true
    off true apart = absurd (apart refl)
    off false apart = refl

    sound : (q : ℕ) → Contains (checker_places rails function order) q → (q < length N.nodes) × InChecker N P q
    sound q c =
        let from = filter_from test order q c in
        let within = inside q from.0 in
        let parts = and_parts (bit rails q) (not (bit function q)) from.1 in (
          within,
          record {
            depends = rail q ((marks.exact q within).0 parts.0);
            outside = λ f. not_true (bit function q) parts.1 ((functions.exact q within).1 f);
          },
        )

    some_rail : (q : ℕ) → Depends N q P.rail1 ⊎ Depends N q P.rail2 → DependsOnSome N q (P.rail1 ∷ (P.rail2 ∷ []))
    some_rail q (inl d) = record { root = P.rail1; is_root = here P.rail1 (P.rail2 ∷ []); depends = d }
    some_rail q (inr d) = record { root = P.rail2; is_root = there P.rail1 P.rail2 (P.rail2 ∷ []) (here P.rail2 []); depends = d }

    complete : (q : ℕ) → q < length N.nodes → InChecker N P q → Contains (checker_places rails function order) q
    complete q within checks =
        let count : length (fan_ins N) ≡ length N.nodes = length-map N.nodes (λ n. fan_in (N.inputs + length N.latches) n.reads) in
        filter_has test order q (placed q order (whole.each q (omega arith)))
        (and_from (bit rails q) (not (bit function q)) ((marks.exact q within).1 (some_rail q checks.depends))
        (off (bit function q) (λ f. checks.outside ((functions.exact q within).0 f))))

-- the places of an order are below the number of marks
pub order_below : (N : Circuit) (order : List ℕ) (n : ℕ) → order ≡ evaluation_order (fan_ins N) → n ≡ length N.nodes → (k d : ℕ) → k < length order → slice_index_or order k d < n
order_below N order n is sized k d within =
    let low : slice_index order k < length N.nodes = order_within N order is k within in
    let e : slice_index_or order k d ≡ slice_index order k = default order k d within in
    omega arith
  where
    default : (xs : List ℕ) (k d : ℕ) → k < length xs → slice_index_or xs k d ≡ slice_index xs k
    default xs k d within = grind (arith, common_steps)
