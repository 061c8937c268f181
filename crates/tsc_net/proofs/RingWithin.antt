-- The ring's places are places of nodes.
use Rattle.std.proofs.Common.{◌≡◌, ℕ, zero, suc, ◌+◌, ◌<◌, ◌≤◌, ◌==◌, ◌⊎◌, Bool, true, false, ◌||◌, List, [], ◌∷◌, ◌++◌, length, map, drop, All, Option, Some, None, slice_index_or, refl, sym, ap, ◌∙◌, subst, arith, if◌then◌else◌, eqb, inl, inr, length-append, true≢false}
use Rattle.std.specs.List.{list_any, position_or_len}
use Rattle.std.proofs.lemmas.Bool.Decides.{nat_tests}
use Rattle.std.proofs.lemmas.List.Elements.{All-nil, All-push, All-drop, All-get_or, All-head, All-tail, All-weaker}
use Rattle.std.proofs.lemmas.Map.Steps.{le-length_from_below}
use Rattle.tsc_net.specs.Order.{has_place, next_node, order_from, evaluation_order, has_whole_order, first_open, blocker, walk, ring, ReadsWithin}
use Rattle.tsc_net.specs.Names.{text_at}
use Rattle.tsc_net.specs.inner.Build.{IsCycle, IsRingOf}
use Rattle.tsc_net.specs.declared.net_error.NetError.{NetError}
use Rattle.tsc_net.specs.declared.net_error.NetError.TheVariants.{Twice, Undriven, NoOutputs, Cycle, Memory}

-- the order has at most as many nodes as there are
pub order_most : (most : ℕ) (fans : List (List ℕ)) (listed : List ℕ) → length (order_from most fans listed) ≤ length listed + most
order_most zero fans listed = omega arith
order_most (suc most) fans listed = by (next_node fans listed) (λ more. order_most most fans more)
  where
    by : (r : Option ℕ) → ((more : List ℕ) → length (order_from most fans more) ≤ length more + most)
        → length {A = ℕ} (elim r [ None ↦ listed | Some j ↦ order_from most fans (listed ++ j ∷ []) ]) ≤ length listed + suc most
    by None go = omega arith
    by (Some j) go = omega (arith, go (listed ++ j ∷ []), length-append listed (j ∷ []))

-- the first node that isn't listed is one, or all are listed
first_open-cases : (listed : List ℕ) (at : ℕ) (rest : List (List ℕ))
    → (first_open listed at rest < at + length rest) ⊎ ((i : ℕ) → i < length rest → has_place listed (at + i) ≡ true)
first_open-cases listed at [] = inr (λ i h. absurd (omega arith))
first_open-cases listed at (reads ∷ rest) = by (has_place listed at) refl (first_open-cases listed (at + 1) rest)
  where
    all : has_place listed at ≡ true → ((i : ℕ) → i < length rest → has_place listed (at + 1 + i) ≡ true)
        → (i : ℕ) → i < suc (length rest) → has_place listed (at + i) ≡ true
    all here later zero h = subst (λ n. has_place listed n ≡ true) (omega arith) here
    all here later (suc i) h = subst (λ n. has_place listed n ≡ true) (omega arith) (later i (omega arith))

    by : (b : Bool) → has_place listed at ≡ b
        → ((first_open listed (at + 1) rest < at + 1 + length rest) ⊎ ((i : ℕ) → i < length rest → has_place listed (at + 1 + i) ≡ true))
        → ((if b then first_open listed (at + 1) rest else at) < at + suc (length rest)) ⊎ ((i : ℕ) → i < suc (length rest) → has_place listed (at + i) ≡ true)
    by true e (inl before) = inl (omega arith)
    by true e (inr later) = inr (all e later)
    by false e rest_cases = inl (omega arith)

-- the two tests of a place in a list
pub has_place-eqb : (q : ℕ) (xs : List ℕ) → list_any (eqb q) xs ≡ has_place xs q
has_place-eqb q [] = refl
has_place-eqb q (x ∷ xs) =
    let flip : eqb q x ≡ (x == q) = grind (arith, nat_tests) in
    ap (λ b. b || list_any (eqb q) xs) flip ∙ ap (λ b. (x == q) || b) (has_place-eqb q xs)

first_is_node : (fans : List (List ℕ)) → has_whole_order fans ≡ false → first_open (evaluation_order fans) 0 fans < length fans
first_is_node fans cut = by (first_open-cases (evaluation_order fans) 0 fans)
  where
    by : ((first_open (evaluation_order fans) 0 fans < 0 + length fans) ⊎ ((i : ℕ) → i < length fans → has_place (evaluation_order fans) (0 + i) ≡ true))
        → first_open (evaluation_order fans) 0 fans < length fans
    by (inl h) = omega arith
    by (inr all) =
        let stands : (q : ℕ) → q < length fans → list_any (eqb q) (evaluation_order fans) ≡ true =
        λ q h. has_place-eqb q (evaluation_order fans) ∙ subst (λ n. has_place (evaluation_order fans) n ≡ true) (omega arith) (all q h) in
        let many : length fans ≤ length (evaluation_order fans) = le-length_from_below (evaluation_order fans) (length fans) stands in
        let few : length (evaluation_order fans) ≤ 0 + length fans = order_most (length fans) fans [] in
        let whole : has_whole_order fans ≡ true = grind (arith, nat_tests) in
        absurd (true≢false (sym whole ∙ cut))

-- what blocks a node is a node
blocker_within : (most : ℕ) (listed reads : List ℕ) → 0 < most → All (λ k. k < most) reads → blocker listed reads < most
blocker_within most listed [] some all = some
blocker_within most listed (k ∷ reads) some all =
    by (has_place listed k) (blocker_within most listed reads some (All-tail (λ k. k < most) k reads all))
  where
    by : (b : Bool) → blocker listed reads < most → (if b then blocker listed reads else k) < most
    by true rest = rest
    by false rest = All-head (λ k. k < most) k reads all

walk_within : (most : ℕ) (fans : List (List ℕ)) (listed path : List ℕ) (at : ℕ) → ReadsWithin fans → at < length fans
    → All (λ j. j < length fans) path → All (λ j. j < length fans) (walk most fans listed path at)
walk_within zero fans listed path at reads h all = all
walk_within (suc most) fans listed path at reads h all =
    by (has_place path at) (walk_within most fans listed (path ++ at ∷ []) (blocker listed (slice_index_or fans at [])) reads
    (blocker_within (length fans) listed (slice_index_or fans at []) (omega arith) (All-get_or (λ l. All (λ k. k < length fans) l) fans at [] h reads))
    (All-push (λ j. j < length fans) path at all h))
  where
    by : (b : Bool) → All (λ j. j < length fans) (walk most fans listed (path ++ at ∷ []) (blocker listed (slice_index_or fans at [])))
        → All (λ j. j < length fans) (if b then drop (position_or_len (λ k. k == at) path) path else walk most fans listed (path ++ at ∷ []) (blocker listed (slice_index_or fans at [])))
    by true rest = All-drop (λ j. j < length fans) (position_or_len (λ k. k == at) path) path all
    by false rest = rest

pub ring_within : (fans : List (List ℕ)) → has_whole_order fans ≡ false → ReadsWithin fans → All (λ j. j < length fans) (ring fans)
ring_within fans cut reads =
    walk_within (length fans + 1) fans (evaluation_order fans) [] (first_open (evaluation_order fans) 0 fans) reads (first_is_node fans cut)
    (All-nil (λ j. j < length fans))

-- a ring of names refuses
pub cycle_refused : (fans names : List (List ℕ)) (first : ℕ) (places : List ℕ) (e : NetError) → has_whole_order fans ≡ false → places ≡ ring fans
    → IsCycle (map (λ place. text_at names (first + place)) places) e → IsRingOf fans names first e
cycle_refused fans names first places (Twice t) cut same h = absurd h
cycle_refused fans names first places (Undriven t) cut same h = absurd h
cycle_refused fans names first places NoOutputs cut same h = absurd h
cycle_refused fans names first places (Cycle texts) cut same h = (cut, h ∙ ap (map (λ place. text_at names (first + place))) same)
cycle_refused fans names first places (Memory x) cut same h = tt

-- the nets of the ring's nodes are nets
pub ring_nets : (fans : List (List ℕ)) (first many : ℕ) (places : List ℕ) → has_whole_order fans ≡ false → ReadsWithin fans → places ≡ ring fans
    → first + length fans ≡ many → All (λ place. first + place < many) places
ring_nets fans first many places cut reads same sized =
    All-weaker (λ place. place < length fans) (λ place. first + place < many) (λ place h. omega arith) places
    (subst (All (λ place. place < length fans)) (sym same) (ring_within fans cut reads))
