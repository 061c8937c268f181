-- How many gates covers take, and the nodes of a network in their evaluation order.
use Rattle.std.proofs.Common.{◌≡◌, ℕ, zero, suc, ◌+◌, ◌*◌, ◌-◌, ◌^◌, ◌<◌, ◌≤◌, ◌==◌, Bool, false, if◌then◌else◌, cond, List, [], ◌∷◌, length, take, slice_index, slice_index_or, get_or, inl, inr, refl, sym, ◌∙◌, ap, ap₂, subst, arith}
use Rattle.std.specs.List.{sum_by}
use Rattle.std.proofs.lemmas.Bool.{cases_lt, eq-eqb}
use Rattle.std.proofs.lemmas.Bool.Decides.{eqb_tells}
use Rattle.std.proofs.lemmas.List.{take_more, take_all, map_push, take-map, length-append, length-map, length-take-le}
use Rattle.std.proofs.lemmas.List.Sums.{sum_by-cons, sum_by_push, sum_by-take-le}
use Rattle.tsc_bits.specs.Bits.{bit_worth}
use Rattle.tsc_cover.specs.Cover.{Literal, Free, Wants, literals, wants_bit}
use Rattle.tsc_cover.specs.Row.{literal, literals_of, literals_of_each}
use Rattle.tsc_cover.specs.declared.rows.Row01.{Row01}
use Rattle.fault_secure.specs.Circuit.{Circuit, NodeOf, node, no_node}
use Rattle.fault_secure.specs.Size.{row_literals, cover_literals, network_size}
use Rattle.tsc_net.specs.Order.{fan_ins, place_in, IsOrder}
use Rattle.gate_net.specs.Size.{cover_gates}
use Rattle.gate_net.proofs.Joined.{literal_head}

literals_split : (l : Literal) (row : List Literal) → row_literals (l ∷ row) ≡ row_literals (l ∷ []) + row_literals row
literals_split Free row = omega arith
literals_split (Wants b) row = let h = sum_by-cons (λ (l : Literal). cond (wants_bit l) 1 0) (Wants b) row in omega (arith, h)

-- a pin more of a row, which is a Not and an And where it is asked for
pub row_few : (start here new width pin care value : ℕ) → pin < width
    → here + 2 * row_literals (literals (width - pin) care value) ≤ start + 2 * row_literals (literals width care value)
    → new ≤ here + 2 * row_literals (literal (bit_worth (width - 1 - pin) care) (bit_worth (width - 1 - pin) value) ∷ [])
    → new + 2 * row_literals (literals (width - (pin + 1)) care value) ≤ start + 2 * row_literals (literals width care value)
row_few start here new width pin care value lt before step =
    let m = width - 1 - pin in
    let here_is : row_literals (literals (width - pin) care value) ≡ row_literals (literal (bit_worth m care) (bit_worth m value) ∷ []) + row_literals (literals m care value)
    = ap row_literals (literal_head (width - pin) m care value (omega arith)) ∙ literals_split (literal (bit_worth m care) (bit_worth m value)) (literals m care value) in
    let rest : width - (pin + 1) ≡ m = omega arith in
    let left : row_literals (literals (width - (pin + 1)) care value) ≡ row_literals (literals m care value)
    = ap (λ (n : ℕ). row_literals (literals n care value)) rest in
    omega (arith, here_is, left, before, step)

-- a list taken one item further
pub taken_more : {X : Type 0} (xs : List X) (i : ℕ) (d : X) → i < length xs → length (take (i + 1) xs) ≡ length (take i xs) + 1
taken_more xs i d lt = ap length (take_more xs i d lt) ∙ length-append (take i xs) (get_or xs i d ∷ [])

-- a row more of a cover, which is its gates and an Or
pub rows_few : (start here mid new width i : ℕ) (rows : List Row01) (d : Row01) → i < length rows
    → here ≤ start + 2 * (sum_by row_literals (literals_of_each width (take i rows)) + length (take i rows))
    → mid ≤ here + (2 * row_literals (literals_of width (get_or rows i d)) + 1) → new ≤ mid + 1
    → new ≤ start + 2 * (sum_by row_literals (literals_of_each width (take (i + 1) rows)) + length (take (i + 1) rows))
rows_few start here mid new width i rows d lt before row or =
    let more : sum_by row_literals (literals_of_each width (take (i + 1) rows)) ≡ sum_by row_literals (literals_of_each width (take i rows)) + row_literals (literals_of width (get_or rows i d))
    = ap (sum_by row_literals) (ap (literals_of_each width) (take_more rows i d lt) ∙ map_push (λ (row : Row01). literals width row.care row.value) (take i rows) (get_or rows i d))
    ∙ sum_by_push row_literals (literals_of_each width (take i rows)) (literals_of width (get_or rows i d)) in
    let one = taken_more rows i d lt in
    omega (arith, more, one, before, row, or)

-- all rows of a cover
pub rows_all : (start here width i : ℕ) (rows : List Row01) → length rows ≤ i
    → here ≤ start + 2 * (sum_by row_literals (literals_of_each width (take i rows)) + length (take i rows))
    → here ≤ start + 2 * (sum_by row_literals (literals_of_each width rows) + length rows)
rows_all start here width i rows past before =
    subst (λ (list : List Row01). here ≤ start + 2 * (sum_by row_literals (literals_of_each width list) + length list)) (take_all i rows past) before

-- a sum over the numbers below n
abbrev total : (ℕ → ℕ) → ℕ → ℕ
total f zero = 0
total f (suc n) = total f n + f n

-- the function, but 0 at p
abbrev without : (ℕ → ℕ) → ℕ → ℕ → ℕ
without f p j = if j == p then 0 else f j

not_eq : (a b : ℕ) → (a ≡ b → ⊥) → (a == b) ≡ false
not_eq a b differ = elim (eqb_tells a b) [ inl same ↦ absurd (differ same.1) | inr other ↦ other.0 ]

total-without-past : (f : ℕ → ℕ) (p n : ℕ) → n ≤ p → total (without f p) n ≡ total f n
total-without-past f p zero le = refl
total-without-past f p (suc n) le =
    let other : (n == p) ≡ false = not_eq n p (omega arith) in
    let same : without f p n ≡ f n = ap (λ (b : Bool). if b then 0 else f n) other in
    let rest = total-without-past f p n (omega arith) in
    omega (arith, same, rest)

total-without : (f : ℕ → ℕ) (p n : ℕ) → p < n → total (without f p) n + f p ≡ total f n
total-without f p zero lt = absurd (omega arith)
total-without f p (suc n) lt = elim (cases_lt p n) [
  | inl below ↦ (let other : (n == p) ≡ false = not_eq n p (omega arith) in
      let same : without f p n ≡ f n = ap (λ (b : Bool). if b then 0 else f n) other in
      let rest = total-without f p n below in
      omega (arith, same, rest))
  | inr le ↦ (let here : p ≡ n = omega arith in
      let gone : without f p n ≡ 0 = ap (λ (b : Bool). if b then 0 else f n) (eq-eqb n p (sym here)) in
      let rest = total-without-past f p n (omega arith) in
      let value : f p ≡ f n = ap f here in
      omega (arith, gone, rest, value))
]

-- no number of the list is p
abbrev IsWithout : ℕ → List ℕ → Type 0
IsWithout p places = (k : ℕ) → k < length places → slice_index places k ≡ p → ⊥

-- the numbers of the list differ
abbrev Differ : List ℕ → Type 0
Differ places = (a b : ℕ) → a < length places → b < length places → slice_index places a ≡ slice_index places b → a ≡ b

sum-without : (f : ℕ → ℕ) (p : ℕ) (places : List ℕ) → IsWithout p places → sum_by (without f p) places ≡ sum_by f places
sum-without f p [] none = refl
sum-without f p (j ∷ places) none =
    let other : (j == p) ≡ false = not_eq j p (none 0 (omega arith)) in
    let same : without f p j ≡ f j = ap (λ (b : Bool). if b then 0 else f j) other in
    let rest = sum-without f p places (λ k lt e. none (suc k) (omega (arith, lt)) e) in
    sum_by-cons (without f p) j places ∙ ap₂ (λ a b. a + b) same rest ∙ sym (sum_by-cons f j places)

-- the sum over different numbers below n is at most that over all
sum-differ : (n : ℕ) (places : List ℕ) (f : ℕ → ℕ) → Differ places → ((k : ℕ) → k < length places → slice_index places k < n) → sum_by f places ≤ total f n
sum-differ n [] f differ within = omega arith
sum-differ n (p ∷ places) f differ within =
    let here : p < n = within 0 (omega arith) in
    let none : IsWithout p places = λ k lt e. (let one : suc k ≡ 0 = differ (suc k) 0 (omega (arith, lt)) (omega arith) e in absurd (omega (arith, one))) in
    let rest : sum_by (without f p) places ≤ total (without f p) n
    = sum-differ n places (without f p)
    (λ a b lt lt' e. (let one : suc a ≡ suc b = differ (suc a) (suc b) (omega (arith, lt)) (omega (arith, lt')) e in omega (arith, one)))
    (λ k lt. within (suc k) (omega (arith, lt))) in
    let all = total-without f p n here in
    let same = sum-without f p places none in
    let head = sum_by-cons f p places in
    omega (arith, rest, all, same, head)

-- the sum over the places of a list is that over its items
total-items : {X : Type 0} (h : X → ℕ) (xs : List X) (d : X) (n : ℕ) → n ≤ length xs → total (λ j. h (slice_index_or xs j d)) n ≡ sum_by h (take n xs)
total-items h xs d zero le = refl
total-items h xs d (suc n) le =
    let rest = total-items h xs d n (omega arith) in
    let more : sum_by h (take (n + 1) xs) ≡ sum_by h (take n xs) + h (slice_index_or xs n d)
    = ap (sum_by h) (take_more xs n d (omega arith)) ∙ sum_by_push h (take n xs) (slice_index_or xs n d) in
    let one : suc n ≡ n + 1 = omega arith in
    let same : sum_by h (take (suc n) xs) ≡ sum_by h (take (n + 1) xs) = ap (λ (k : ℕ). sum_by h (take k xs)) one in
    omega (arith, rest, more, same)

nodes-sum : (nodes : List NodeOf) → sum_by (λ (n : NodeOf). cover_gates n.cover) nodes
    ≡ 2 * (sum_by (λ (n : NodeOf). cover_literals n.cover) nodes + sum_by (λ (n : NodeOf). length n.cover.rows) nodes + length nodes)
nodes-sum [] = refl
nodes-sum (n ∷ nodes) =
    let rest = nodes-sum nodes in
    let all = sum_by-cons (λ (n : NodeOf). cover_gates n.cover) n nodes in
    let asked = sum_by-cons (λ (n : NodeOf). cover_literals n.cover) n nodes in
    let given = sum_by-cons (λ (n : NodeOf). length n.cover.rows) n nodes in
    omega (arith, rest, all, asked, given)

-- the gates of a node's cover
abbrev pub gates_at : Circuit → ℕ → ℕ
gates_at N j = cover_gates (node N j).cover

-- the gates of all covers, along an order that lists each node once
pub order_few : (N : Circuit) (order : List ℕ) → IsOrder (fan_ins N) order → sum_by (gates_at N) order ≤ 2 * network_size N
order_few N order is =
    let h : NodeOf → ℕ = λ (n : NodeOf). cover_gates n.cover in
    let count : length (fan_ins N) ≡ length N.nodes = length-map N.nodes _ in
    let some : sum_by (gates_at N) order ≤ total (gates_at N) (length N.nodes)
    = sum-differ (length N.nodes) order (gates_at N)
    (λ a b lt lt' e. sym (is.once a lt) ∙ ap (place_in order) e ∙ is.once b lt')
    (λ k lt. (let below : slice_index order k < length (fan_ins N) = is.within k 0 lt in omega (arith, below, count))) in
    let items : total (gates_at N) (length N.nodes) ≡ sum_by h (take (length N.nodes) N.nodes) = total-items h N.nodes no_node (length N.nodes) (omega arith) in
    let all : sum_by h (take (length N.nodes) N.nodes) ≡ sum_by h N.nodes = ap (sum_by h) (take_all (length N.nodes) N.nodes (omega arith)) in
    let sum = nodes-sum N.nodes in
    omega (arith, some, items, all, sum)

-- a node more of the order
pub order_more : (N : Circuit) (start here new place : ℕ) (order : List ℕ) (i d : ℕ) → i < length order → place ≡ get_or order i d
    → here ≤ start + sum_by (gates_at N) (take i order) → new ≤ here + gates_at N place → new ≤ start + sum_by (gates_at N) (take (i + 1) order)
order_more N start here new place order i d lt is before node =
    let more : sum_by (gates_at N) (take (i + 1) order) ≡ sum_by (gates_at N) (take i order) + gates_at N (get_or order i d)
    = ap (sum_by (gates_at N)) (take_more order i d lt) ∙ sum_by_push (gates_at N) (take i order) (get_or order i d) in
    let same : gates_at N place ≡ gates_at N (get_or order i d) = ap (gates_at N) is in
    omega (arith, more, same, before, node)

pub order_all : (N : Circuit) (start here : ℕ) (order : List ℕ) (i : ℕ) → IsOrder (fan_ins N) order → length order ≤ i
    → here ≤ start + sum_by (gates_at N) (take i order) → here ≤ start + 2 * network_size N
order_all N start here order i is past before =
    let all : sum_by (gates_at N) (take i order) ≡ sum_by (gates_at N) order = ap (sum_by (gates_at N)) (take_all i order past) in
    let few = order_few N order is in
    omega (arith, all, few, before)

-- there is room for a pin more of a row
pub pin_room : (start here width pin care value : ℕ) → pin < width
    → here + 2 * row_literals (literals (width - pin) care value) ≤ start + 2 * row_literals (literals width care value)
    → start + (2 * row_literals (literals width care value) + 1) < 2 ^ 32
    → here + 2 * row_literals (literal (bit_worth (width - 1 - pin) care) (bit_worth (width - 1 - pin) value) ∷ []) < 2 ^ 32
pin_room start here width pin care value lt before room =
    let m = width - 1 - pin in
    let here_is : row_literals (literals (width - pin) care value) ≡ row_literals (literal (bit_worth m care) (bit_worth m value) ∷ []) + row_literals (literals m care value)
    = ap row_literals (literal_head (width - pin) m care value (omega arith)) ∙ literals_split (literal (bit_worth m care) (bit_worth m value)) (literals m care value) in
    omega (arith, here_is, before, room)

-- and for a row more of a cover
pub row_room : (start here width i : ℕ) (rows : List Row01) (d : Row01) → i < length rows
    → here ≤ start + 2 * (sum_by row_literals (literals_of_each width (take i rows)) + length (take i rows))
    → start + (2 * (sum_by row_literals (literals_of_each width rows) + length rows) + 1) < 2 ^ 32
    → here + (2 * row_literals (literals_of width (get_or rows i d)) + 2) < 2 ^ 32
row_room start here width i rows d lt before room =
    let of : Row01 → List Literal = λ (row : Row01). literals width row.care row.value in
    let more : sum_by row_literals (literals_of_each width (take (i + 1) rows)) ≡ sum_by row_literals (literals_of_each width (take i rows)) + row_literals (literals_of width (get_or rows i d))
    = ap (sum_by row_literals) (ap (literals_of_each width) (take_more rows i d lt) ∙ map_push of (take i rows) (get_or rows i d))
    ∙ sum_by_push row_literals (literals_of_each width (take i rows)) (literals_of width (get_or rows i d)) in
    let part : sum_by row_literals (literals_of_each width (take (i + 1) rows)) ≤ sum_by row_literals (literals_of_each width rows)
    = subst (λ (list : List (List Literal)). sum_by row_literals list ≤ sum_by row_literals (literals_of_each width rows)) (take-map of (i + 1) rows) (sum_by-take-le row_literals (literals_of_each width rows) (i + 1)) in
    let taken : length (take i rows) + 1 ≤ length rows = (let one = taken_more rows i d lt in let most = length-take-le (i + 1) rows (omega arith) in omega (arith, one, most, lt)) in
    omega (arith, more, part, taken, before, room)

-- and for a node more of the order
pub node_room : (N : Circuit) (start here : ℕ) (order : List ℕ) (i d : ℕ) → IsOrder (fan_ins N) order → i < length order
    → here ≤ start + sum_by (gates_at N) (take i order) → start + 2 * network_size N < 2 ^ 32 → here + gates_at N (get_or order i d) < 2 ^ 32
node_room N start here order i d is lt before room =
    let more : sum_by (gates_at N) (take (i + 1) order) ≡ sum_by (gates_at N) (take i order) + gates_at N (get_or order i d)
    = ap (sum_by (gates_at N)) (take_more order i d lt) ∙ sum_by_push (gates_at N) (take i order) (get_or order i d) in
    let part = sum_by-take-le (gates_at N) order (i + 1) in
    let few = order_few N order is in
    omega (arith, more, part, few, before, room)
