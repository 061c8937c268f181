-- The evaluation order, node by node: the first ready node is the next of the order.
use Rattle.std.proofs.Common.{◌≡◌, ℕ, zero, suc, ◌+◌, ◌-◌, ◌<◌, Bool, true, false, not, ◌&&◌, ◌||◌, nat_lt, List, [], ◌∷◌, ◌++◌, length, All, slice_index, slice_set, refl, sym, ap, ◌∙◌, subst, arith, inl, inr, Less, Option, Some, None, if◌then◌else◌}
use Rattle.std.specs.Ordering.{nat_cmp}
use Rattle.std.specs.List.{list_all}
use Rattle.std.proofs.lemmas.List.{get_or-map, get_or_default, get_or-set_same, get_or-set_other, length-map, length-set, length_push}
use Rattle.std.proofs.lemmas.List.Elements.{All-head, All-tail}
use Rattle.std.proofs.lemmas.List.Folds.{list_all_at}
use Rattle.std.proofs.lemmas.Bool.{cases_eq, cases_Bool, false_from_ne_true, and_from, and_left, and_right, not_from_true, not_from_false}
use Rattle.std.proofs.lemmas.Grind.{common_steps}
use Rattle.fault_secure.specs.Circuit.{bit}
use Rattle.tsc_net.specs.Order.{has_place, fan_in, next_from, next_node, order_from, evaluation_order, ReadsWithin}
use Rattle.tsc_net.specs.inner.OrderSearch.{fans_over, is_passed, IsSearch, MarksOf, GoesOn}
use Rattle.tsc_bits.specs.Lists.{list_at}
use Rattle.tsc_net.proofs.OrderLists.{fan_in_has, has_place-pushed, has_place-other, has_place-head, has_place-tail, has_place-All, count_by-set, count_by-less}

-- a test that each item passes
pub list_all-by : (p : ℕ → Bool) (xs : List ℕ) → ((k : ℕ) → k < length xs → p (slice_index xs k) ≡ true) → list_all p xs ≡ true
list_all-by p [] each = refl
list_all-by p (x ∷ xs) each = and_from (p x) (list_all p xs) (each zero (omega arith)) (list_all-by p xs (λ k h. each (suc k) (omega arith)))

-- a node that isn't listed and reads only listed ones
abbrev pub is_next : List ℕ → ℕ → List ℕ → Bool
is_next listed at reads = not (has_place listed at) && list_all (has_place listed) reads

-- the first that may be next is next
pub next_from-is : (listed : List ℕ) (fans : List (List ℕ)) (at k : ℕ) → k < length fans → is_next listed (at + k) (list_at fans k) ≡ true
    → ((i : ℕ) → i < k → is_next listed (at + i) (list_at fans i) ≡ false) → next_from listed at fans ≡ Some (at + k)
next_from-is listed [] at k h holds others = absurd (omega arith)
next_from-is listed (reads ∷ fans) at zero h holds others =
    let here : is_next listed at reads ≡ true = subst (λ i. is_next listed i reads ≡ true) (omega arith) holds in
    let place : Some at ≡ Some (at + zero) = ap Some (omega arith) in
    rw (here, place) refl
next_from-is listed (reads ∷ fans) at (suc k) h holds others =
    let past : is_next listed at reads ≡ false = subst (λ i. is_next listed i reads ≡ false) (omega arith) (others 0 (omega arith)) in
    let rest : next_from listed (at + 1) fans ≡ Some (at + 1 + k) =
    next_from-is listed fans (at + 1) k (omega arith)
    (subst (λ i. is_next listed i (list_at fans k) ≡ true) (omega arith) holds)
    (λ i below. subst (λ j. is_next listed j (list_at fans i) ≡ false) (omega arith) (others (suc i) (omega arith))) in
    let place : Some (at + 1 + k) ≡ Some (at + suc k) = ap Some (omega arith) in
    rw past (rest ∙ place)

-- where none may be next, none is
pub next_from-none : (listed : List ℕ) (fans : List (List ℕ)) (at : ℕ) → ((i : ℕ) → i < length fans → is_next listed (at + i) (list_at fans i) ≡ false)
    → next_from listed at fans ≡ None
next_from-none listed [] at others = refl
next_from-none listed (reads ∷ fans) at others =
    let past : is_next listed at reads ≡ false = subst (λ i. is_next listed i reads ≡ false) (omega arith) (others 0 (omega arith)) in
    rw past (next_from-none listed fans (at + 1)
    (λ i h. subst (λ j. is_next listed j (list_at fans i) ≡ false) (omega arith) (others (suc i) (omega arith))))

-- one step of the order, and its end
pub order_from-more : (most rest : ℕ) (fans : List (List ℕ)) (listed : List ℕ) (j : ℕ) → most ≡ suc rest → next_node fans listed ≡ Some j
    → order_from most fans listed ≡ order_from rest fans (listed ++ j ∷ [])
order_from-more most rest fans listed j e next =
    ap (λ n. order_from n fans listed) e
    ∙ ap (λ (o : Option ℕ). elim o [ None ↦ listed | Some i ↦ order_from rest fans (listed ++ i ∷ []) ]) next

pub order_from-none : (most : ℕ) (fans : List (List ℕ)) (listed : List ℕ) → next_node fans listed ≡ None → order_from most fans listed ≡ listed
order_from-none zero fans listed next = refl
order_from-none (suc most) fans listed next =
    ap (λ (o : Option ℕ). elim o [ None ↦ listed | Some i ↦ order_from most fans (listed ++ i ∷ []) ]) next

-- the marks of one more listed node
pub marks_of-more : (fans : List (List ℕ)) (marks : List Bool) (listed : List ℕ) (node : ℕ) → node < length fans → bit marks node ≡ false
    → MarksOf fans marks listed → MarksOf fans (slice_set marks node true) (listed ++ node ∷ [])
marks_of-more fans marks listed node h unmarked marked = record {
  sized = length-set marks node true ∙ marked.sized;
  marked = λ j inside. elim (cases_eq j node) [
    | inl e ↦ ap (bit (slice_set marks node true)) e ∙ get_or-set_same marks node true false within
        ∙ sym (has_place-pushed listed node) ∙ sym (ap (has_place (listed ++ node ∷ [])) e)
    | inr other ↦ get_or-set_other marks node j true false other ∙ marked.marked j inside
        ∙ sym (has_place-other listed node j (λ e. other (sym e)))
  ];
  counted = count_by-set (λ b. b) marks node true false within unmarked refl ∙ ap (λ n. n + 1) marked.counted ∙ sym (length_push listed node);
}
  where
    within : node < length marks
    within = omega (arith, marked.sized)

-- some node isn't listed: fewer are
pub listed_fewer : (fans : List (List ℕ)) (marks : List Bool) (listed : List ℕ) (node : ℕ) → node < length fans → bit marks node ≡ false
    → MarksOf fans marks listed → length listed < length fans
listed_fewer fans marks listed node h unmarked marked =
    omega (arith, count_by-less (λ b. b) marks node false true (omega (arith, marked.sized)) unmarked refl, marked.sized, marked.counted)

-- where nothing is waited for, all of the fan-in are listed
pub fan_in_listed : (base : ℕ) (marks : List Bool) (listed : List ℕ) (many : ℕ) (reads : List ℕ) → ((k : ℕ) → k < many → bit marks k ≡ has_place listed k)
    → All (λ k. k < many) (fan_in base reads) → ((pin : ℕ) → pin < length reads → is_passed base marks (slice_index reads pin) ≡ true)
    → list_all (has_place listed) (fan_in base reads) ≡ true
fan_in_listed base marks listed many [] same all passed = refl
fan_in_listed base marks listed many (net ∷ reads) same all passed =
    by (nat_lt net base) (passed 0 (omega arith)) all (λ rest. fan_in_listed base marks listed many reads same rest (λ pin h. passed (suc pin) (omega arith)))
  where
    by : (b : Bool) → b || bit marks (net - base) ≡ true → All (λ k. k < many) (if b then fan_in base reads else (net - base) ∷ fan_in base reads)
        → (All (λ k. k < many) (fan_in base reads) → list_all (has_place listed) (fan_in base reads) ≡ true)
        → list_all (has_place listed) (if b then fan_in base reads else (net - base) ∷ fan_in base reads) ≡ true
    by true here within rest = rest within
    by false here within rest =
        and_from (has_place listed (net - base)) (list_all (has_place listed) (fan_in base reads))
        (sym (same (net - base) (All-head (λ k. k < many) (net - base) (fan_in base reads) within)) ∙ here)
        (rest (All-tail (λ k. k < many) (net - base) (fan_in base reads) within))

-- the search, where nothing is still to be looked at
module _ (base : ℕ) (nets : List (List ℕ)) (marks : List Bool) (stops : List ℕ) (waiters : List (List ℕ)) (ready listed : List ℕ)
    (reads_within : ReadsWithin (fans_over base nets)) (marked : MarksOf (fans_over base nets) marks listed)
    (search : IsSearch base nets marks stops waiters ready (λ j. false)) where
  abbrev fans : List (List ℕ)
  fans = fans_over base nets

  many : length fans ≡ length nets
  many = length-map nets (fan_in base)

  -- the fan-in of a node is that of the nets that it reads
  fan_at : (j : ℕ) → j < length nets → list_at fans j ≡ fan_in base (list_at nets j)
  fan_at j h = get_or-map (fan_in base) nets j [] [] h

  fan_within : (j : ℕ) → j < length nets → All (λ k. k < length fans) (fan_in base (list_at nets j))
  fan_within j h = subst (All (λ k. k < length fans)) (fan_at j h) (reads_within j [] (omega (arith, h, many)))

  -- a ready node may be next
  pub ready_next : (j : ℕ) → has_place ready j ≡ true → is_next listed j (list_at fans j) ≡ true
  ready_next j h =
      let is = search.sound j h in
      and_from (not (has_place listed j)) (list_all (has_place listed) (list_at fans j))
      (not_from_false (has_place listed j) (sym (marked.marked j (omega (arith, is.within, many))) ∙ is.unmarked))
      (ap (list_all (has_place listed)) (fan_at j is.within)
      ∙ fan_in_listed base marks listed (length fans) (list_at nets j) marked.marked (fan_within j is.within) is.reads)

  -- one that isn't ready may not
  pub unready_not : (j : ℕ) → j < length fans → has_place ready j ≡ false → is_next listed j (list_at fans j) ≡ false
  unready_not j h unready = elim (cases_Bool (bit marks j)) [
    | inl set_already ↦ and_left (not (has_place listed j)) _ (not_from_true (has_place listed j) (sym (marked.marked j h) ∙ set_already))
    | inr unmarked ↦
        let within : j < length nets = omega (arith, h, many) in
        let waits = search.complete j within unmarked unready refl in
        let reads = (search.waiting waits.blocker j waits.unmarked waits.there).reads in
        let has = fan_in_has base (list_at nets j) waits.blocker
        (reads.pin, reads.within, get_or_default (list_at nets j) reads.pin (base + waits.blocker) 0 reads.within ∙ reads.there) in
        and_right (not (has_place listed j)) _
        (ap (list_all (has_place listed)) (fan_at j within)
        ∙ list_all_at (has_place listed) (fan_in base (list_at nets j)) has.0 waits.blocker has.1
        (ap (has_place listed) has.2 ∙ sym (marked.marked waits.blocker (omega (arith, waits.within, many))) ∙ waits.unmarked))
  ]

  -- none is ready: the order ends
  pub none_next : ready ≡ [] → next_node fans listed ≡ None
  none_next e = next_from-none listed fans 0
      (λ i h. subst (λ j. is_next listed j (list_at fans i) ≡ false) (omega arith)
      (unready_not i h (ap (λ places. has_place places i) e)))

  -- the first of the ready nodes is next
  pub first_next : (node : ℕ) (rest : List ℕ) → ready ≡ node ∷ rest → All (λ k. nat_cmp node k ≡ Less) rest → next_node fans listed ≡ Some node
  first_next node rest e later =
      next_from-is listed fans 0 node within
      (subst (λ j. is_next listed j (list_at fans node) ≡ true) (omega arith) (ready_next node here))
      (λ i below. subst (λ j. is_next listed j (list_at fans i) ≡ false) (omega arith) (unready_not i (omega (arith, within, below)) (before i below)))
      ∙ ap Some (omega arith)
    where
      here : has_place ready node ≡ true
      here = ap (λ places. has_place places node) e ∙ has_place-head node rest

      within : node < length fans
      within = omega (arith, (search.sound node here).within, many)

      less : (a b : ℕ) → nat_cmp a b ≡ Less → a < b
      less a b h = grind (arith, common_steps)

      before : (i : ℕ) → i < node → has_place ready i ≡ false
      before i below = ap (λ places. has_place places i) e ∙ has_place-tail node i rest (λ (same : node ≡ i). omega (arith, same, below))
          ∙ false_from_ne_true (has_place rest i) (λ h.
          let above : node < i = less node i (has_place-All (λ k. nat_cmp node k ≡ Less) rest i h later) in absurd (omega arith))

  -- the nodes listed begin the order still with the next
  pub goes_on : (node : ℕ) (rest : List ℕ) → ready ≡ node ∷ rest → All (λ k. nat_cmp node k ≡ Less) rest → GoesOn fans listed → GoesOn fans (listed ++ node ∷ [])
  goes_on node rest e later going =
      let here : has_place ready node ≡ true = ap (λ places. has_place places node) e ∙ has_place-head node rest in
      let is = search.sound node here in
      let within : node < length fans = omega (arith, is.within, many) in
      let fewer = listed_fewer fans marks listed node within is.unmarked marked in
      let step : length fans - length listed ≡ suc (length fans - (length listed + 1)) = omega arith in
      ap (λ n. order_from (length fans - n) fans (listed ++ node ∷ [])) (length_push listed node)
      ∙ sym (order_from-more (length fans - length listed) (length fans - (length listed + 1)) fans listed node step (first_next node rest e later)) ∙ going

  -- where none is ready they are the order
  pub order_listed : ready ≡ [] → GoesOn fans listed → listed ≡ evaluation_order fans
  order_listed e going = sym (order_from-none (length fans - length listed) fans listed (none_next e)) ∙ going

-- where no node is next, none may be
pub none_may : (listed : List ℕ) (fans : List (List ℕ)) (at : ℕ) → next_from listed at fans ≡ None → (i : ℕ) → i < length fans → is_next listed (at + i) (list_at fans i) ≡ false
none_may listed [] at none i h = absurd (omega arith)
none_may listed (reads ∷ fans) at none i h = by (is_next listed at reads) refl (none_may listed fans (at + 1)) i h
  where
    by : (b : Bool) → is_next listed at reads ≡ b → (next_from listed (at + 1) fans ≡ None → (i : ℕ) → i < length fans → is_next listed (at + 1 + i) (list_at fans i) ≡ false)
        → (i : ℕ) → i < suc (length fans) → is_next listed (at + i) (list_at (reads ∷ fans) i) ≡ false
    by true e rest i h = let no : Some at ≡ None = sym (ap (λ b. if b then Some at else next_from listed (at + 1) fans) e) ∙ none in cc
    by false e rest zero h = subst (λ n. is_next listed n reads ≡ false) (omega arith) e
    by false e rest (suc i) h =
        subst (λ n. is_next listed n (list_at fans i) ≡ false) (omega arith)
        (rest (sym (ap (λ b. if b then Some at else next_from listed (at + 1) fans) e) ∙ none) i (omega arith))
