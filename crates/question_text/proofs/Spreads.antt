-- The clauses of nodes, outputs and groups, with their variables numbered, item by item.
use Rattle.std.proofs.Common.{◌≡◌, ℕ, zero, suc, ◌+◌, ◌-◌, ◌<◌, ◌≤◌, Bool, true, false, cond, List, [], ◌∷◌, ◌++◌, map, length, take, nat_lt, slice_index, slice_index_or, All, refl, sym, ap, ap₂, ◌∙◌, arith, length-append}
use Rattle.std.proofs.lemmas.List.{map-append, get_or_append_left, get_or-append-add}
use Rattle.std.proofs.lemmas.List.Elements.{All-head, All-tail}
use Rattle.fault_secure.specs.Circuit.{NodeOf, no_node}
use Rattle.fault_secure.specs.CodePlan.{members_from}
use Rattle.refutations.specs.declared.literal.Literal.{Literal}
use Rattle.tsc_net.specs.declared.plan.Group.{Group}
use Rattle.exact_question.specs.Variables.{Copy, Variable, Input, Net, Odd, Unheard, spread}
use Rattle.exact_question.specs.Gates.{Claim, yes, xor_clauses}
use Rattle.exact_question.specs.Question.{of_net, group_variables}
use Rattle.question_text.specs.declared.cells.Cell.{Cell}
use Rattle.question_text.specs.Gates.{is_one, xor_of}
use Rattle.question_text.specs.Nodes.{wide_of, first_numbers, numbers_from, node_gates, nodes_gates}
use Rattle.question_text.specs.Failing.{cells_from, cell_end, cell_at, cell_gates, choice_gates, failing_gates}
use Rattle.question_text.specs.Reasons.{one_at, outputs_gates, ones_from, chain_gates, chain_end, group_gates, group_even, nets_of, group_end, groups_gates, groups_even, groups_end}
use Rattle.question_text.proofs.Same.{lit, lits}
use Rattle.question_text.proofs.Ends.{groups_least}
use Rattle.question_text.proofs.Places.{At, at_same, at_left, at_right}
use Rattle.question_text.proofs.Numbered.{singles_long, at_single}

-- ---- numbers of nets

pub first_long : (n : ℕ) → length (first_numbers n) ≡ n
first_long zero = refl
first_long (suc n) = let e = first_long n in omega (arith, e, length-append (first_numbers n) (n ∷ []))

pub first_at : (n i : ℕ) → i < n → slice_index (first_numbers n) i ≡ i
first_at zero i inside = absurd (omega arith)
first_at (suc n) i inside = by (λ below. first_at n i below) (nat_lt i n) refl
  where
    by : (i < n → slice_index (first_numbers n) i ≡ i) → (b : Bool) → nat_lt i n ≡ b → slice_index (first_numbers n ++ n ∷ []) i ≡ i
    by before true below =
        let low : i < n = grind arith in
        let long : i < length (first_numbers n) = omega (arith, first_long n, low) in
        get_or_append_left (first_numbers n) (n ∷ []) 0 i long ∙ before low
    by before false past =
        let same : i ≡ length (first_numbers n) + 0 = let e : i ≡ n = grind arith in omega (arith, first_long n, e) in
        ap (slice_index (first_numbers n ++ n ∷ [])) same ∙ get_or-append-add (first_numbers n) (n ∷ []) 0 0 ∙ (let e : n ≡ i = grind arith in e)

pub behind_first : (inputs j : ℕ) (numbers : List ℕ) → slice_index (first_numbers inputs ++ numbers) (inputs + j) ≡ slice_index numbers j
behind_first inputs j numbers =
    ap (λ n. slice_index (first_numbers inputs ++ numbers) (n + j)) (sym (first_long inputs)) ∙ get_or-append-add (first_numbers inputs) numbers j 0

pub numbers_long : (at : ℕ) (nodes : List NodeOf) → length (numbers_from at nodes) ≡ length nodes
numbers_long at [] = refl
numbers_long at (n ∷ nodes) = let e = numbers_long (at + 1 + wide_of n) nodes in omega (arith, e)

pub cells_count : (i at : ℕ) (nodes : List NodeOf) → length (cells_from i at nodes) ≡ length nodes
cells_count i at [] = refl
cells_count i at (n ∷ nodes) = let e = cells_count (i + 1) (cell_end i at (wide_of n)) nodes in omega (arith, e)

-- each net of a copy has its number
pub nets_are : (num : Variable → ℕ) (copy : Copy) (inputs : ℕ) (numbers : List ℕ)
    → ((i : ℕ) → i < inputs → num (Input i) ≡ i) → ((j : ℕ) → j < length numbers → num (Net copy j) ≡ slice_index numbers j)
    → (net : ℕ) → net < inputs + length numbers → num (of_net copy inputs net) ≡ slice_index (first_numbers inputs ++ numbers) net
nets_are num copy inputs numbers of_input of_node net inside = by (nat_lt net inputs) refl
  where
    by : (b : Bool) → nat_lt net inputs ≡ b → num (cond b (Input net) (Net copy (net - inputs))) ≡ slice_index (first_numbers inputs ++ numbers) net
    by true below =
        let low : net < inputs = grind arith in
        let long : net < length (first_numbers inputs) = omega (arith, first_long inputs, low) in
        of_input net low ∙ sym (first_at inputs net low) ∙ sym (get_or_append_left (first_numbers inputs) numbers 0 net long)
    by false past =
        let high : inputs ≤ net = grind arith in
        of_node (net - inputs) (omega (arith, high)) ∙ sym (behind_first inputs (net - inputs) numbers)
        ∙ ap (slice_index (first_numbers inputs ++ numbers)) (let e : inputs + (net - inputs) ≡ net = omega (arith, high) in e)

module _ (num : Variable → ℕ) where
  pub xor_num : (v a b : Variable) (x y z : ℕ) → num v ≡ x → num a ≡ y → num b ≡ z
      → map (lits num) (xor_clauses v (yes a) (yes b)) ≡ xor_of x (is_one y) (is_one z)
  xor_num v a b x y z p q r =
      ap (λ n. xor_of n (is_one (num a)) (is_one (num b))) p ∙ ap (λ n. xor_of x (is_one n) (is_one (num b))) q ∙ ap (λ n. xor_of x (is_one y) (is_one n)) r

  -- ---- item by item

  pub nodes_are : (f : ℕ → NodeOf → List (List Claim)) (numbers : List ℕ) (net : ℕ) (nodes : List NodeOf)
      → ((k : ℕ) → k < length nodes → map (lits num) (f k (slice_index_or nodes k no_node)) ≡ node_gates numbers (slice_index numbers (net + k)) (slice_index_or nodes k no_node))
      → map (lits num) (spread f nodes) ≡ nodes_gates numbers net nodes
  nodes_are f numbers net [] each = refl
  nodes_are f numbers net (n ∷ nodes) each =
      map-append (lits num) (f 0 n) (spread (λ k. f (suc k)) nodes)
      ∙ ap₂ (λ a b. a ++ b)
      (each 0 (omega arith) ∙ ap (λ i. node_gates numbers (slice_index numbers i) n) (let e : net + 0 ≡ net = omega arith in e))
      (nodes_are (λ k. f (suc k)) numbers (net + 1) nodes
      (λ k inside. each (suc k) (omega arith) ∙ ap (λ i. node_gates numbers (slice_index numbers i) (slice_index_or nodes k no_node)) (let e : net + suc k ≡ net + 1 + k = omega arith in e)))

  pub failing_are : (f : ℕ → NodeOf → List (List Claim)) (numbers right : List ℕ) (inputs : ℕ) (cells : List Cell) (j net : ℕ) (nodes : List NodeOf)
      → ((k : ℕ) → k < length nodes → map (lits num) (f k (slice_index_or nodes k no_node))
      ≡ cell_gates numbers (slice_index right (net + k)) inputs cells (cell_at cells (j + k)) (slice_index_or nodes k no_node) ++ choice_gates cells (j + k))
      → map (lits num) (spread f nodes) ≡ failing_gates numbers right inputs cells j net nodes
  failing_are f numbers right inputs cells j net [] each = refl
  failing_are f numbers right inputs cells j net (n ∷ nodes) each =
      map-append (lits num) (f 0 n) (spread (λ k. f (suc k)) nodes)
      ∙ ap₂ (λ a b. a ++ b)
      (each 0 (omega arith)
      ∙ ap (λ i. cell_gates numbers (slice_index right i) inputs cells (cell_at cells (j + 0)) n ++ choice_gates cells (j + 0)) (let e : net + 0 ≡ net = omega arith in e)
      ∙ ap (λ i. cell_gates numbers (slice_index right net) inputs cells (cell_at cells i) n ++ choice_gates cells i) (let e : j + 0 ≡ j = omega arith in e))
      (failing_are (λ k. f (suc k)) numbers right inputs cells (j + 1) (net + 1) nodes
      (λ k inside. each (suc k) (omega arith)
      ∙ ap (λ i. cell_gates numbers (slice_index right i) inputs cells (cell_at cells (j + suc k)) (slice_index_or nodes k no_node) ++ choice_gates cells (j + suc k))
      (let e : net + suc k ≡ net + 1 + k = omega arith in e)
      ∙ ap (λ i. cell_gates numbers (slice_index right (net + 1 + k)) inputs cells (cell_at cells i) (slice_index_or nodes k no_node) ++ choice_gates cells i)
      (let e : j + suc k ≡ j + 1 + k = omega arith in e)))

  pub outputs_are : (f : ℕ → ℕ → List (List Claim)) (source right shown : List ℕ) (place at : ℕ) (nets : List ℕ)
      → ((k : ℕ) → k < length nets → map (lits num) (f k (slice_index_or nets k 0))
      ≡ xor_of (at + k) (one_at source (slice_index_or nets k 0)) (one_at right (slice_index shown (place + k))))
      → map (lits num) (spread f nets) ≡ outputs_gates source right shown place at nets
  outputs_are f source right shown place at [] each = refl
  outputs_are f source right shown place at (net ∷ nets) each =
      map-append (lits num) (f 0 net) (spread (λ k. f (suc k)) nets)
      ∙ ap₂ (λ a b. a ++ b)
      (each 0 (omega arith)
      ∙ ap (λ i. xor_of i (one_at source net) (one_at right (slice_index shown (place + 0)))) (let e : at + 0 ≡ at = omega arith in e)
      ∙ ap (λ i. xor_of at (one_at source net) (one_at right (slice_index shown i))) (let e : place + 0 ≡ place = omega arith in e))
      (outputs_are (λ k. f (suc k)) source right shown (place + 1) (at + 1) nets
      (λ k inside. each (suc k) (omega arith)
      ∙ ap (λ i. xor_of i (one_at source (slice_index_or nets k 0)) (one_at right (slice_index shown (place + suc k)))) (let e : at + suc k ≡ at + 1 + k = omega arith in e)
      ∙ ap (λ i. xor_of (at + 1 + k) (one_at source (slice_index_or nets k 0)) (one_at right (slice_index shown i))) (let e : place + suc k ≡ place + 1 + k = omega arith in e)))

  pub ones_are : (v : ℕ → Variable) (at : ℕ) (nets : List ℕ) → ((k : ℕ) → k < length nets → num (v k) ≡ at + k)
      → map (lit num) (spread (λ k net. yes (v k) ∷ []) nets) ≡ ones_from at nets
  ones_are v at [] each = refl
  ones_are v at (net ∷ nets) each =
      ap₂ (λ a as_. is_one a ∷ as_) (each 0 (omega arith) ∙ (let e : at + 0 ≡ at = omega arith in e))
      (ones_are (λ k. v (suc k)) (at + 1) nets (λ k inside. each (suc k) (omega arith) ∙ (let e : at + suc k ≡ at + 1 + k = omega arith in e)))

  -- ---- chains

  module _ (right word_nets : List ℕ) (word : ℕ → Claim) (IsPlace : ℕ → Type 0) (word_is : (place : ℕ) → IsPlace place → lit num (word place) ≡ one_at right (slice_index word_nets place)) where
    chain_next : (o : ℕ → Variable) (at : ℕ) (place : ℕ) (places : List ℕ) → ((k : ℕ) → k < length (place ∷ places) → num (o k) ≡ at + k)
        → (k : ℕ) → k < length places → num (o (suc k)) ≡ at + 1 + k
    chain_next o at place places each k inside = each (suc k) (omega arith) ∙ (let e : at + suc k ≡ at + 1 + k = omega arith in e)

    chain_first : (o : ℕ → Variable) (at : ℕ) (place : ℕ) (places : List ℕ) → ((k : ℕ) → k < length (place ∷ places) → num (o k) ≡ at + k) → num (o 0) ≡ at
    chain_first o at place places each = each 0 (omega arith) ∙ (let e : at + 0 ≡ at = omega arith in e)

    pub chain_are : (o : ℕ → Variable) (before : ℕ → Claim) (at : ℕ) (odd : Literal) (places : List ℕ)
        → ((k : ℕ) → k < length places → num (o k) ≡ at + k) → lit num (before 0) ≡ odd → ((k : ℕ) → before (suc k) ≡ yes (o k)) → All IsPlace places
        → map (lits num) (spread (λ k place. xor_clauses (o k) (before k) (word place)) places) ≡ chain_gates right at odd (map (slice_index word_nets) places)
    chain_are o before at odd [] each start next within = refl
    chain_are o before at odd (place ∷ places) each start next within =
        map-append (lits num) (xor_clauses (o 0) (before 0) (word place)) (spread (λ k place. xor_clauses (o (suc k)) (before (suc k)) (word place)) places)
        ∙ ap₂ (λ a b. a ++ b)
        (ap (λ n. xor_of n (lit num (before 0)) (lit num (word place))) (chain_first o at place places each)
        ∙ ap (λ l. xor_of at l (lit num (word place))) start ∙ ap (λ l. xor_of at odd l) (word_is place (All-head IsPlace place places within)))
        (chain_are (λ k. o (suc k)) (λ k. before (suc k)) (at + 1) (is_one at) places (chain_next o at place places each)
        (ap (lit num) (next 0) ∙ ap is_one (chain_first o at place places each)) (λ k. next (suc k)) (All-tail IsPlace place places within))

    pub chain_ends : (o : ℕ → Variable) (before : ℕ → Claim) (at : ℕ) (odd : Literal) (places : List ℕ)
        → ((k : ℕ) → k < length places → num (o k) ≡ at + k) → lit num (before 0) ≡ odd → ((k : ℕ) → before (suc k) ≡ yes (o k))
        → lit num (before (length places)) ≡ chain_end at odd (map (slice_index word_nets) places)
    chain_ends o before at odd [] each start next = start
    chain_ends o before at odd (place ∷ places) each start next =
        chain_ends (λ k. o (suc k)) (λ k. before (suc k)) (at + 1) (is_one at) places (chain_next o at place places each)
        (ap (lit num) (next 0) ∙ ap is_one (chain_first o at place places each)) (λ k. next (suc k))

  -- ---- groups

  module _ (none : Group) (right shown : List ℕ) where
    pub groups_are : (f : ℕ → List ℕ → List (List Claim)) (check at : ℕ) (groups : List Group)
        → ((k : ℕ) → k < length groups → map (lits num) (f k ((slice_index_or groups k none).places ++ (check + k) ∷ []))
        ≡ group_gates right (groups_end at (take k groups)) (nets_of shown (slice_index_or groups k none)))
        → map (lits num) (spread f (members_from check (map (λ g. g.places) groups))) ≡ groups_gates right shown at groups
    groups_are f check at [] each = refl
    groups_are f check at (g ∷ groups) each =
        map-append (lits num) (f 0 (g.places ++ check ∷ [])) (spread (λ k. f (suc k)) (members_from (suc check) (map (λ g. g.places) groups)))
        ∙ ap₂ (λ a b. a ++ b)
        (ap (λ i. map (lits num) (f 0 (g.places ++ i ∷ []))) (let e : check ≡ check + 0 = omega arith in e) ∙ each 0 (omega arith))
        (groups_are (λ k. f (suc k)) (suc check) (group_end at g) groups
        (λ k inside. ap (λ i. map (lits num) (f (suc k) ((slice_index_or groups k none).places ++ i ∷ []))) (let e : suc check + k ≡ check + suc k = omega arith in e) ∙ each (suc k) (omega arith)))

    pub evens_are : (f : ℕ → List ℕ → List Claim) (check at : ℕ) (groups : List Group)
        → ((k : ℕ) → k < length groups → map (lit num) (f k ((slice_index_or groups k none).places ++ (check + k) ∷ []))
        ≡ group_even right (groups_end at (take k groups)) (nets_of shown (slice_index_or groups k none)))
        → map (lit num) (spread f (members_from check (map (λ g. g.places) groups))) ≡ groups_even right shown at groups
    evens_are f check at [] each = refl
    evens_are f check at (g ∷ groups) each =
        map-append (lit num) (f 0 (g.places ++ check ∷ [])) (spread (λ k. f (suc k)) (members_from (suc check) (map (λ g. g.places) groups)))
        ∙ ap₂ (λ a b. a ++ b)
        (ap (λ i. map (lit num) (f 0 (g.places ++ i ∷ []))) (let e : check ≡ check + 0 = omega arith in e) ∙ each 0 (omega arith))
        (evens_are (λ k. f (suc k)) (suc check) (group_end at g) groups
        (λ k inside. ap (λ i. map (lit num) (f (suc k) ((slice_index_or groups k none).places ++ i ∷ []))) (let e : suc check + k ≡ check + suc k = omega arith in e) ∙ each (suc k) (omega arith)))

-- ---- where the variables of groups stand

group_long : (g check : ℕ) (places : List ℕ) → length (group_variables g (places ++ check ∷ [])) ≡ length places
group_long g check [] = refl
group_long g check (first ∷ places) = singles_long (Odd g) (places ++ check ∷ []) ∙ (let e = length-append places (check ∷ []) in omega (arith, e))

pub groups_count : (f : ℕ → List ℕ → List Variable) (check at : ℕ) (groups : List Group) → ((k c : ℕ) (places : List ℕ) → length (f k (places ++ c ∷ [])) ≡ length places)
    → at + length (spread f (members_from check (map (λ g. g.places) groups))) ≡ groups_end at groups
groups_count f check at [] each = omega arith
groups_count f check at (g ∷ groups) each =
    let first = each 0 check g.places in
    let rest = groups_count (λ k. f (suc k)) (suc check) (group_end at g) groups (λ k. each (suc k)) in
    omega (arith, first, rest, length-append (f 0 (g.places ++ check ∷ [])) (spread (λ k. f (suc k)) (members_from (suc check) (map (λ g. g.places) groups))))

pub all_groups_count : (check at : ℕ) (groups : List Group) → at + length (spread group_variables (members_from check (map (λ g. g.places) groups))) ≡ groups_end at groups
all_groups_count check at groups = groups_count group_variables check at groups group_long

at_group : (f : ℕ → List ℕ → List Variable) (check at j k p : ℕ) (groups : List Group) (none : Group) (v : Variable)
    → ((i c : ℕ) (places : List ℕ) → length (f i (places ++ c ∷ [])) ≡ length places)
    → j < length groups → At (f j ((slice_index_or groups j none).places ++ (check + j) ∷ [])) k v → at + p ≡ groups_end at (take j groups) + k
    → At (spread f (members_from check (map (λ g. g.places) groups))) p v
at_group f check at j k p [] none v long inside here is = absurd (omega arith)
at_group f check at zero k p (g ∷ groups) none v long inside here is =
    at_left (f 0 (g.places ++ check ∷ [])) (spread (λ i. f (suc i)) (members_from (suc check) (map (λ g. g.places) groups))) p v
    (at_same (f 0 (g.places ++ check ∷ [])) k p v (moved (check + 0) (let e : check + 0 ≡ check = omega arith in e) here) (omega (arith, is)))
  where
    moved : (c : ℕ) → c ≡ check → At (f 0 (g.places ++ c ∷ [])) k v → At (f 0 (g.places ++ check ∷ [])) k v
    moved c same at = record {
      inside = let e = ap (λ i. length (f 0 (g.places ++ i ∷ []))) same in let low = at.inside in omega (arith, e, low);
      here = ap (λ i. slice_index_or (f 0 (g.places ++ i ∷ [])) k Unheard) (sym same) ∙ at.here;
    }
at_group f check at (suc j) k p (g ∷ groups) none v long inside here is =
    let least = groups_least (group_end at g) (take j groups) in
    at_right (f 0 (g.places ++ check ∷ [])) (spread (λ i. f (suc i)) (members_from (suc check) (map (λ g. g.places) groups))) (length g.places) (p - length g.places) p v (long 0 check g.places)
    (at_group (λ i. f (suc i)) (suc check) (group_end at g) j k (p - length g.places) groups none v (λ i. long (suc i)) (omega arith)
    (moved (check + suc j) (let e : check + suc j ≡ suc check + j = omega arith in e) here) (omega (arith, is, least)))
    (omega (arith, is, least))
  where
    moved : (c : ℕ) → c ≡ suc check + j → At (f (suc j) ((slice_index_or groups j none).places ++ c ∷ [])) k v → At (f (suc j) ((slice_index_or groups j none).places ++ (suc check + j) ∷ [])) k v
    moved c same at = record {
      inside = let e = ap (λ i. length (f (suc j) ((slice_index_or groups j none).places ++ i ∷ []))) same in let low = at.inside in omega (arith, e, low);
      here = ap (λ i. slice_index_or (f (suc j) ((slice_index_or groups j none).places ++ i ∷ [])) k Unheard) (sym same) ∙ at.here;
    }

odd_here : (g c k : ℕ) (places : List ℕ) → k < length places → At (group_variables g (places ++ c ∷ [])) k (Odd g k)
odd_here g c k [] inside = absurd (omega arith)
odd_here g c k (first ∷ places) inside = at_single (Odd g) (places ++ c ∷ []) k (let e = length-append places (c ∷ []) in omega (arith, e))

pub at_odd : (check at j k p : ℕ) (groups : List Group) (none : Group) → j < length groups → k < length (slice_index_or groups j none).places
    → at + p ≡ groups_end at (take j groups) + k → At (spread group_variables (members_from check (map (λ g. g.places) groups))) p (Odd j k)
at_odd check at j k p groups none inside below is =
    at_group group_variables check at j k p groups none (Odd j k) group_long inside (odd_here j (check + j) k (slice_index_or groups j none).places below) is
