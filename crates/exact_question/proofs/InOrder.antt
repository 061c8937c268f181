-- No variable stands twice among the variables of the question, so each has its place as its number.
use Rattle.std.proofs.Common.{◌≡◌, ℕ, zero, suc, ◌+◌, ◌<◌, ◌≤◌, Bool, true, false, if◌then◌else◌, List, [], ◌∷◌, ◌++◌, length, slice_index_or, All, Contains, refl, ap, subst, inl, inr, arith}
use Rattle.std.proofs.lemmas.List.Elements.{All-nil, All-cons, All-append, All-weaker, All-contains, Contains-get_or, Contains-append_cases}
use Rattle.fault_secure.specs.Circuit.{Circuit, NodeOf, no_node}
use Rattle.fault_secure.specs.CodePlan.{CodePlan, members}
use Rattle.refutations.specs.declared.literal.Literal.{Literal}
use Rattle.exact_question.specs.Variables.{Copy, Source, Right, Failing, Variable, Input, Net, Row, Choice, Gate, Differs, Chosen, OutputDiffers, Odd, RailsDiffer, Unheard, key, is_key, number_of, spread}
use Rattle.exact_question.specs.Rows.{rows_of}
use Rattle.exact_question.specs.Question.{row_variables, node_variables, chosen_variables, failing_variables, group_variables, input_variables, variables}
use Rattle.exact_question.specs.Laws.{VariablesAreInOrder}
use Rattle.exact_question.proofs.Numbers.{All-spread, same_variable, key_itself, contains_first, contains_later}

-- ---- lists without a variable that stands twice

abbrev Distinct : List Variable → Type 0
Distinct [] = Unit {0}
Distinct (v ∷ vs) = (Contains vs v → ⊥) × Distinct vs

in_order : (vs : List Variable) (k : ℕ) (d : Variable) → Distinct vs → k < length vs → number_of (slice_index_or vs k d) vs ≡ k
in_order [] k d distinct inside = absurd (omega arith)
in_order (w ∷ ws) zero d distinct inside = ap (λ b. if b then 0 else suc (number_of w ws)) (key_itself (key w))
in_order (w ∷ ws) (suc k) d distinct inside = by (in_order ws k d distinct.1 (omega arith)) (is_key (key (slice_index_or ws k d)) (key w)) refl
  where
    by : number_of (slice_index_or ws k d) ws ≡ k → (b : Bool) → is_key (key (slice_index_or ws k d)) (key w) ≡ b
        → (if b then 0 else suc (number_of (slice_index_or ws k d) ws)) ≡ suc k
    by rest true same =
        absurd (distinct.0 (subst (Contains ws) (same_variable (slice_index_or ws k d) w same) (Contains-get_or ws k d (omega arith))))
    by rest false same = ap suc rest

distinct_append : (as_ bs : List Variable) → Distinct as_ → Distinct bs → ((v : Variable) → Contains as_ v → Contains bs v → ⊥) → Distinct (as_ ++ bs)
distinct_append [] bs first second apart = second
distinct_append (a ∷ as_) bs first second apart = (
  λ at. elim (Contains-append_cases as_ bs a at) [
    | inl here ↦ first.0 here
    | inr there ↦ apart a (contains_first a as_) there
  ],
  distinct_append as_ bs first.1 second (λ v left right. apart v (contains_later a v as_ left) right),
)

distinct_spread : {A : Type 0} (index : Variable → ℕ) (f : ℕ → A → List Variable) (items : List A) (d : A) (i : ℕ)
    → ((k : ℕ) → k < length items → Distinct (f k (slice_index_or items k d)))
    → ((k : ℕ) → k < length items → All (λ v. index v ≡ i + k) (f k (slice_index_or items k d))) → Distinct (spread f items)
distinct_spread index f [] d i each at = tt
distinct_spread index f (a ∷ as_) d i each at =
    distinct_append (f 0 a) (spread (λ k. f (suc k)) as_) (each 0 (omega arith))
    (distinct_spread index (λ k. f (suc k)) as_ d (suc i) (λ k inside. each (suc k) (omega arith))
    (λ k inside. All-weaker (λ v. index v ≡ i + suc k) (λ v. index v ≡ suc i + k) (λ v e. omega (arith, e)) (f (suc k) (slice_index_or as_ k d)) (at (suc k) (omega arith))))
    (λ v left right.
    let low : index v ≡ i + 0 = All-contains (λ v. index v ≡ i + 0) (f 0 a) v (at 0 (omega arith)) left in
    let high : suc i ≤ index v = All-contains (λ v. suc i ≤ index v) (spread (λ k. f (suc k)) as_) v
    (All-spread (λ v. suc i ≤ index v) (λ k. f (suc k)) as_ d (λ k inside.
    All-weaker (λ v. index v ≡ i + suc k) (λ v. suc i ≤ index v) (λ v e. omega (arith, e)) (f (suc k) (slice_index_or as_ k d)) (at (suc k) (omega arith)))) right in
    omega (arith, low, high))

-- ---- what tells variables apart

abbrev kind : Variable → ℕ
kind v = (key v).kind

abbrev first : Variable → ℕ
first v = (key v).first

abbrev second : Variable → ℕ
second v = (key v).second

abbrev of_copy : Copy → ℕ
of_copy Source = 1
of_copy Right = 2
of_copy Failing = 3

-- the part of the list in which a variable stands
abbrev part : Variable → ℕ
part (Input i) = 0
part (Net copy j) = of_copy copy
part (Row copy j r) = of_copy copy
part (Choice j) = 3
part (Gate j) = 3
part (Differs j) = 3
part (Chosen j) = 3
part (OutputDiffers k) = 4
part (Odd g k) = 5
part (RailsDiffer copy) = 6
part Unheard = 6

not_among : (v : Variable) (vs : List Variable) → All (λ w. kind w ≡ kind v → ⊥) vs → Contains vs v → ⊥
not_among v vs off at = All-contains (λ w. kind w ≡ kind v → ⊥) vs v off at refl

-- what is known of a variable of row r of node j
abbrev IsOfRow : Copy → ℕ → ℕ → Variable → Type 0
IsOfRow copy j r v = (3 < kind v) × (kind v < 7) × (first v ≡ j) × (second v ≡ r) × (part v ≡ of_copy copy)

row_is : (copy : Copy) (j r : ℕ) → IsOfRow copy j r (Row copy j r)
row_is Source j r = (omega arith, omega arith, refl, refl, refl)
row_is Right j r = (omega arith, omega arith, refl, refl, refl)
row_is Failing j r = (omega arith, omega arith, refl, refl, refl)

row_are : (copy : Copy) (j r : ℕ) (row : List Literal) → All (IsOfRow copy j r) (row_variables copy j r row)
row_are copy j r [] = All-nil (IsOfRow copy j r)
row_are copy j r (l ∷ []) = All-nil (IsOfRow copy j r)
row_are copy j r (l ∷ k ∷ ls) = All-cons (IsOfRow copy j r) (Row copy j r) [] (row_is copy j r) (All-nil (IsOfRow copy j r))

none : (v : Variable) → Contains [] v → ⊥
none v at = let inside = at.1 in omega arith

row_distinct : (copy : Copy) (j r : ℕ) (row : List Literal) → Distinct (row_variables copy j r row)
row_distinct copy j r [] = tt
row_distinct copy j r (l ∷ []) = tt
row_distinct copy j r (l ∷ k ∷ ls) = (none (Row copy j r), tt)

abbrev IsOfRows : Copy → ℕ → Variable → Type 0
IsOfRows copy j v = (3 < kind v) × (kind v < 7) × (first v ≡ j) × (part v ≡ of_copy copy)

rows_are : (copy : Copy) (j : ℕ) (rows : List (List Literal)) → All (IsOfRows copy j) (spread (row_variables copy j) rows)
rows_are copy j rows = All-spread (IsOfRows copy j) (row_variables copy j) rows [] (λ r inside.
    All-weaker (IsOfRow copy j r) (IsOfRows copy j) (λ v h. (h.0, h.1, h.2, h.4)) (row_variables copy j r (slice_index_or rows r [])) (row_are copy j r (slice_index_or rows r [])))

rows_distinct : (copy : Copy) (j : ℕ) (rows : List (List Literal)) → Distinct (spread (row_variables copy j) rows)
rows_distinct copy j rows = distinct_spread second (row_variables copy j) rows [] 0
    (λ r inside. row_distinct copy j r (slice_index_or rows r []))
    (λ r inside. All-weaker (IsOfRow copy j r) (λ v. second v ≡ 0 + r) (λ v h. (let e = h.3 in omega arith)) (row_variables copy j r (slice_index_or rows r [])) (row_are copy j r (slice_index_or rows r [])))

-- what is known of a variable of node j of a part
abbrev IsOfNode : ℕ → ℕ → Variable → Type 0
IsOfNode p j v = (first v ≡ j) × (part v ≡ p)

-- ---- copies without a fault

net_kind : (copy : Copy) (j : ℕ) → kind (Net copy j) < 4
net_kind Source j = omega arith
net_kind Right j = omega arith
net_kind Failing j = omega arith

net_first : (copy : Copy) (j : ℕ) → first (Net copy j) ≡ j
net_first Source j = refl
net_first Right j = refl
net_first Failing j = refl

node_are : (copy : Copy) (j : ℕ) (n : NodeOf) → All (IsOfNode (of_copy copy) j) (node_variables copy j n)
node_are copy j n =
    All-cons (IsOfNode (of_copy copy) j) (Net copy j) (spread (row_variables copy j) (rows_of n)) (net_first copy j, refl)
    (All-weaker (IsOfRows copy j) (IsOfNode (of_copy copy) j) (λ v h. (h.2, h.3)) (spread (row_variables copy j) (rows_of n)) (rows_are copy j (rows_of n)))

node_distinct : (copy : Copy) (j : ℕ) (n : NodeOf) → Distinct (node_variables copy j n)
node_distinct copy j n = (
  not_among (Net copy j) (spread (row_variables copy j) (rows_of n))
      (All-weaker (IsOfRows copy j) (λ v. kind v ≡ kind (Net copy j) → ⊥) (λ v h e. (let low = h.0 in let high = net_kind copy j in omega (arith, e)))
      (spread (row_variables copy j) (rows_of n)) (rows_are copy j (rows_of n))),
  rows_distinct copy j (rows_of n),
)

-- ---- the copy with a failing cell

module _ (j : ℕ) (n : NodeOf) where
  abbrev rows : List Variable
  rows = spread (row_variables Failing j) (rows_of n)

  abbrev after : List Variable
  after = Differs j ∷ chosen_variables j

  abbrev IsAfter : Variable → Type 0
  IsAfter v = (8 < kind v) × (first v ≡ j) × (part v ≡ 3)

  chosen_are : (i : ℕ) → i ≡ j → All (λ v. (kind v ≡ 10) × (first v ≡ j) × (part v ≡ 3)) (chosen_variables i)
  chosen_are zero is = All-nil (λ (v : Variable). (kind v ≡ 10) × (first v ≡ j) × (part v ≡ 3))
  chosen_are (suc i) is =
      All-cons (λ (v : Variable). (kind v ≡ 10) × (first v ≡ j) × (part v ≡ 3)) (Chosen (suc i)) [] (refl, is, refl)
      (All-nil (λ (v : Variable). (kind v ≡ 10) × (first v ≡ j) × (part v ≡ 3)))

  chosen_distinct : (i : ℕ) → Distinct (chosen_variables i)
  chosen_distinct zero = tt
  chosen_distinct (suc i) = (none (Chosen (suc i)), tt)

  after_are : All IsAfter after
  after_are =
      All-cons IsAfter (Differs j) (chosen_variables j) (omega arith, refl, refl)
      (All-weaker (λ v. (kind v ≡ 10) × (first v ≡ j) × (part v ≡ 3)) IsAfter (λ v h. ((let e = h.0 in omega arith), h.1, h.2)) (chosen_variables j) (chosen_are j refl))

  after_distinct : Distinct after
  after_distinct = (
    not_among (Differs j) (chosen_variables j)
        (All-weaker (λ v. (kind v ≡ 10) × (first v ≡ j) × (part v ≡ 3)) (λ v. kind v ≡ kind (Differs j) → ⊥) (λ v h e. (let ten = h.0 in omega (arith, e))) (chosen_variables j) (chosen_are j refl)),
    chosen_distinct j,
  )

  -- those after the first three: of rows, or after them
  abbrev IsLater : Variable → Type 0
  IsLater v = (3 < kind v) × (kind v ≡ 7 → ⊥) × (kind v ≡ 8 → ⊥) × (first v ≡ j) × (part v ≡ 3)

  later_are : All IsLater (rows ++ after)
  later_are =
      All-append IsLater rows after
      (All-weaker (IsOfRows Failing j) IsLater (λ v h. (let low = h.0 in let high = h.1 in (low, (λ e. omega (arith, e)), (λ e. omega (arith, e)), h.2, h.3))) rows (rows_are Failing j (rows_of n)))
      (All-weaker IsAfter IsLater (λ v h. (let low = h.0 in (omega arith, (λ e. omega (arith, e)), (λ e. omega (arith, e)), h.1, h.2))) after after_are)

  later_distinct : Distinct (rows ++ after)
  later_distinct = distinct_append rows after (rows_distinct Failing j (rows_of n)) after_distinct (λ v left right.
      let low = All-contains (IsOfRows Failing j) rows v (rows_are Failing j (rows_of n)) left in
      let high = All-contains IsAfter after v after_are right in
      let small = low.1 in let great = high.0 in omega arith)

  failing_are : All (IsOfNode 3 j) (failing_variables j n)
  failing_are =
      All-cons (IsOfNode 3 j) (Choice j) (Gate j ∷ Net Failing j ∷ (rows ++ after)) (refl, refl)
      (All-cons (IsOfNode 3 j) (Gate j) (Net Failing j ∷ (rows ++ after)) (refl, refl)
      (All-cons (IsOfNode 3 j) (Net Failing j) (rows ++ after) (refl, refl)
      (All-weaker IsLater (IsOfNode 3 j) (λ v h. (h.3, h.4)) (rows ++ after) later_are)))

  failing_distinct : Distinct (failing_variables j n)
  failing_distinct = (
    not_among (Choice j) (Gate j ∷ Net Failing j ∷ (rows ++ after))
        (All-cons (λ v. kind v ≡ 7 → ⊥) (Gate j) (Net Failing j ∷ (rows ++ after)) (λ e. omega (arith, e))
        (All-cons (λ v. kind v ≡ 7 → ⊥) (Net Failing j) (rows ++ after) (λ e. omega (arith, e)) (All-weaker IsLater (λ v. kind v ≡ 7 → ⊥) (λ v h. h.1) (rows ++ after) later_are))),
    (
      not_among (Gate j) (Net Failing j ∷ (rows ++ after))
          (All-cons (λ v. kind v ≡ 8 → ⊥) (Net Failing j) (rows ++ after) (λ e. omega (arith, e)) (All-weaker IsLater (λ v. kind v ≡ 8 → ⊥) (λ v h. h.2) (rows ++ after) later_are)),
      (
        not_among (Net Failing j) (rows ++ after)
            (All-weaker IsLater (λ v. kind v ≡ 3 → ⊥) (λ v h e. (let low = h.0 in omega (arith, e))) (rows ++ after) later_are),
        later_distinct,
      ),
    ),
  )

-- ---- the other parts

inputs_are : (n : ℕ) → All (λ v. (first v < n) × (part v ≡ 0)) (input_variables n)
inputs_are zero = All-nil (λ (v : Variable). (first v < 0) × (part v ≡ 0))
inputs_are (suc n) =
    All-append (λ (v : Variable). (first v < suc n) × (part v ≡ 0)) (input_variables n) (Input n ∷ [])
    (All-weaker (λ v. (first v < n) × (part v ≡ 0)) (λ v. (first v < suc n) × (part v ≡ 0)) (λ v h. ((let low = h.0 in omega arith), h.1)) (input_variables n) (inputs_are n))
    (All-cons (λ (v : Variable). (first v < suc n) × (part v ≡ 0)) (Input n) [] (omega arith, refl) (All-nil (λ (v : Variable). (first v < suc n) × (part v ≡ 0))))

inputs_distinct : (n : ℕ) → Distinct (input_variables n)
inputs_distinct zero = tt
inputs_distinct (suc n) = distinct_append (input_variables n) (Input n ∷ []) (inputs_distinct n) (none (Input n), tt) (λ v left right.
    let low = (All-contains (λ v. (first v < n) × (part v ≡ 0)) (input_variables n) v (inputs_are n) left).0 in
    let at : first v ≡ n = All-contains (λ v. first v ≡ n) (Input n ∷ []) v (All-cons (λ v. first v ≡ n) (Input n) [] refl (All-nil (λ v. first v ≡ n))) right in
    omega arith)

group_are : (g : ℕ) (group : List ℕ) → All (IsOfNode 5 g) (group_variables g group)
group_are g [] = All-nil (IsOfNode 5 g)
group_are g (place ∷ places) = All-spread (IsOfNode 5 g) (λ k place. Odd g k ∷ []) places 0 (λ k inside. All-cons (IsOfNode 5 g) (Odd g k) [] (refl, refl) (All-nil (IsOfNode 5 g)))

group_distinct : (g : ℕ) (group : List ℕ) → Distinct (group_variables g group)
group_distinct g [] = tt
group_distinct g (place ∷ places) = distinct_spread second (λ k place. Odd g k ∷ []) places 0 0 (λ k inside. (none (Odd g k), tt))
    (λ k inside. All-cons (λ v. second v ≡ 0 + k) (Odd g k) [] (omega arith) (All-nil (λ v. second v ≡ 0 + k)))

-- ---- all parts

-- a part of nodes, outputs or groups
spread_distinct : {A : Type 0} (p : ℕ) (f : ℕ → A → List Variable) (items : List A) (d : A) → ((k : ℕ) (a : A) → Distinct (f k a)) → ((k : ℕ) (a : A) → All (IsOfNode p k) (f k a))
    → Distinct (spread f items)
spread_distinct p f items d each at = distinct_spread first f items d 0 (λ k inside. each k (slice_index_or items k d))
    (λ k inside. All-weaker (IsOfNode p k) (λ v. first v ≡ 0 + k) (λ v h. (let e = h.0 in omega arith)) (f k (slice_index_or items k d)) (at k (slice_index_or items k d)))

spread_part : {A : Type 0} (p : ℕ) (f : ℕ → A → List Variable) (items : List A) (d : A) → ((k : ℕ) (a : A) → All (IsOfNode p k) (f k a)) → All (λ v. part v ≡ p) (spread f items)
spread_part p f items d at = All-spread (λ v. part v ≡ p) f items d (λ k inside.
    All-weaker (IsOfNode p k) (λ v. part v ≡ p) (λ v h. h.1) (f k (slice_index_or items k d)) (at k (slice_index_or items k d)))

-- up to a part no variable stands twice
record UpTo (p : ℕ) (vs : List Variable) : Type 0 where
  distinct : Distinct vs
  parts : All (λ v. part v ≤ p) vs

next_part : (p : ℕ) (as_ bs : List Variable) → UpTo p as_ → Distinct bs → All (λ v. part v ≡ suc p) bs → UpTo (suc p) (as_ ++ bs)
next_part p as_ bs before distinct parts = record {
  distinct = distinct_append as_ bs before.distinct distinct (λ v left right.
      let low = All-contains (λ v. part v ≤ p) as_ v before.parts left in
      let high = All-contains (λ v. part v ≡ suc p) bs v parts right in
      omega arith);
  parts = All-append (λ v. part v ≤ suc p) as_ bs
      (All-weaker (λ v. part v ≤ p) (λ v. part v ≤ suc p) (λ v h. omega arith) as_ before.parts)
      (All-weaker (λ v. part v ≡ suc p) (λ v. part v ≤ suc p) (λ v h. omega (arith, h)) bs parts);
}

module _ (C N : Circuit) (P : CodePlan) where
  abbrev last : List Variable
  last = RailsDiffer Right ∷ RailsDiffer Failing ∷ Unheard ∷ []

  last_distinct : Distinct last
  last_distinct = (
    not_among (RailsDiffer Right) (RailsDiffer Failing ∷ Unheard ∷ [])
        (All-cons (λ v. kind v ≡ 14 → ⊥) (RailsDiffer Failing) (Unheard ∷ []) (λ e. omega (arith, e))
        (All-cons (λ v. kind v ≡ 14 → ⊥) Unheard [] (λ e. omega (arith, e)) (All-nil (λ v. kind v ≡ 14 → ⊥)))),
    (
      not_among (RailsDiffer Failing) (Unheard ∷ []) (All-cons (λ v. kind v ≡ 15 → ⊥) Unheard [] (λ e. omega (arith, e)) (All-nil (λ v. kind v ≡ 15 → ⊥))),
      (none Unheard, tt),
    ),
  )

  last_part : All (λ v. part v ≡ 6) last
  last_part =
      All-cons (λ v. part v ≡ 6) (RailsDiffer Right) (RailsDiffer Failing ∷ Unheard ∷ []) refl
      (All-cons (λ v. part v ≡ 6) (RailsDiffer Failing) (Unheard ∷ []) refl (All-cons (λ v. part v ≡ 6) Unheard [] refl (All-nil (λ v. part v ≡ 6))))

  abbrev output_variable : ℕ → ℕ → List Variable
  output_variable place net = OutputDiffers place ∷ []

  outputs_are : (k : ℕ) (net : ℕ) → All (IsOfNode 4 k) (output_variable k net)
  outputs_are k net = All-cons (IsOfNode 4 k) (OutputDiffers k) [] (refl, refl) (All-nil (IsOfNode 4 k))

  all_distinct : UpTo 6 (variables C N P)
  all_distinct =
      let inputs : List Variable = input_variables N.inputs in
      let source : List Variable = spread (node_variables Source) C.nodes in
      let right : List Variable = spread (node_variables Right) N.nodes in
      let failing : List Variable = spread failing_variables N.nodes in
      let outputs : List Variable = spread (λ place net. OutputDiffers place ∷ []) C.outputs in
      let groups : List Variable = spread group_variables (members P) in
      next_part 5 (inputs ++ source ++ right ++ failing ++ outputs ++ groups) last
      (next_part 4 (inputs ++ source ++ right ++ failing ++ outputs) groups
      (next_part 3 (inputs ++ source ++ right ++ failing) outputs
      (next_part 2 (inputs ++ source ++ right) failing
      (next_part 1 (inputs ++ source) right
      (next_part 0 inputs source
      (record { distinct = inputs_distinct N.inputs; parts = All-weaker (λ v. (first v < N.inputs) × (part v ≡ 0)) (λ v. part v ≤ 0) (λ v h. (let e = h.1 in omega arith)) inputs (inputs_are N.inputs) })
      (spread_distinct 1 (node_variables Source) C.nodes no_node (node_distinct Source) (node_are Source)) (spread_part 1 (node_variables Source) C.nodes no_node (node_are Source)))
      (spread_distinct 2 (node_variables Right) N.nodes no_node (node_distinct Right) (node_are Right)) (spread_part 2 (node_variables Right) N.nodes no_node (node_are Right)))
      (spread_distinct 3 failing_variables N.nodes no_node failing_distinct failing_are) (spread_part 3 failing_variables N.nodes no_node failing_are))
      (spread_distinct 4 output_variable C.outputs 0 (λ k net. (none (OutputDiffers k), tt)) outputs_are) (spread_part 4 output_variable C.outputs 0 outputs_are))
      (spread_distinct 5 group_variables (members P) [] group_distinct group_are) (spread_part 5 group_variables (members P) [] group_are))
      last_distinct last_part

-- the variable at each place has it as its number
pub variables_are_in_order : VariablesAreInOrder
variables_are_in_order C N P k inside = in_order (variables C N P) k Unheard (all_distinct C N P).distinct inside
