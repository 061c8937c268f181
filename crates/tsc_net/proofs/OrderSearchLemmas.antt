-- The search for the evaluation order: what a look at a node and the listing of a node change.
use Rattle.std.proofs.Common.{◌≡◌, ℕ, ◌<◌, ◌≤◌, Bool, true, false, ◌||◌, ◌==◌, ◌+◌, ◌-◌, nat_lt, List, [], ◌∷◌, ◌++◌, length, All, get_or, slice_index, slice_index_or, slice_set, refl, sym, ap, ◌∙◌, subst, arith, inl, inr, true≢false, Less}
use Rattle.std.specs.Ordering.{nat_cmp}
use Rattle.std.specs.BTreeSet.{insert_key}
use Rattle.std.proofs.lemmas.List.{get_or-map, get_or_default, get_or-set_same, get_or-set_other, length-map, length-set, get_or_read}
use Rattle.std.proofs.lemmas.Bool.{cases_eq, cases_lt, or_parts, or_from, or_cases, or_left, or_right, eqb-true, ne_eqb}
use Rattle.std.proofs.lemmas.Bool.Decides.{nat_tests}
use Rattle.fault_secure.specs.Circuit.{NodeOf, no_node, bit}
use Rattle.tsc_net.specs.Order.{has_place, fan_in, ReadsWithin}
use Rattle.tsc_net.specs.PlanView.{net_numbers}
use Rattle.tsc_net.specs.declared.ids.NetId.{NetId}
use Rattle.tsc_net.specs.inner.OrderSearch.{nets_of, fans_over, is_passed, Reads, Waits, IsReady, IsWaiter, IsSearch}
use Rattle.tsc_bits.specs.Lists.{list_at}
use Rattle.tsc_net.proofs.OrderLists.{fan_in_has, has_place-insert, has_place-pushed, has_place-kept, has_place-cases, has_place-head, has_place-tail, has_place-rest, All-has_place, not_among_greater}

-- fewer nodes are still to be looked at, where the others are looked at already
pub search_weaker : (base : ℕ) (nets : List (List ℕ)) (marks : List Bool) (stops : List ℕ) (waiters : List (List ℕ)) (ready : List ℕ) (pending rest : ℕ → Bool)
    → ((j : ℕ) → j < length nets → rest j ≡ false → pending j ≡ false) → IsSearch base nets marks stops waiters ready pending
    → IsSearch base nets marks stops waiters ready rest
search_weaker base nets marks stops waiters ready pending rest fewer search = record {
  marks_sized = search.marks_sized;
  stops_sized = search.stops_sized;
  waiters_sized = search.waiters_sized;
  stopped = search.stopped;
  sound = search.sound;
  waiting = search.waiting;
  complete = λ j h unmarked unready done. search.complete j h unmarked unready (fewer j h done);
}

-- the nets of a node as they are read
pub nets_at : (nodes : List NodeOf) (now : List NetId) (node : ℕ) → node < length nodes → net_numbers now ≡ (slice_index_or nodes node no_node).reads
    → net_numbers now ≡ list_at (nets_of nodes) node
nets_at nodes now node h is = is ∙ sym (get_or-map (λ n. n.reads) nodes node no_node [] h)

-- as many fan-ins as nodes
pub fans_many : (base : ℕ) (nodes : List NodeOf) → length (fans_over base (nets_of nodes)) ≡ length nodes
fans_many base nodes = length-map (nets_of nodes) (fan_in base) ∙ length-map nodes (λ n. n.reads)

-- the number of a net at a place
pub number_at : (nets : List NetId) (at : ℕ) → at < length nets
    → slice_index (net_numbers nets) at ≡ (slice_index_or nets at (record { number = 0 })).number
number_at nets at h = get_or-map (λ net. net.number) nets at (record { number = 0 }) 0 h

-- what a node reads is below the last net that a node drives
pub pins_within : (base : ℕ) (nets : List (List ℕ)) (j : ℕ) → ReadsWithin (fans_over base nets) → j < length nets
    → All (λ net. net < base + length nets) (list_at nets j)
pins_within base nets j reads h k d inside = elim (cases_lt (get_or (list_at nets j) k d) base) [
  | inl before ↦ omega arith
  | inr past ↦
      let net = get_or (list_at nets j) k d in
      let many = length-map nets (fan_in base) in
      let place : base + (net - base) ≡ net = omega arith in
      let has = fan_in_has base (list_at nets j) (net - base)
      (k, inside, ap (get_or (list_at nets j) k) place ∙ get_or_default (list_at nets j) k net d inside ∙ sym place) in
      let all : All (λ i. i < length (fans_over base nets)) (fan_in base (list_at nets j)) =
      subst (All (λ i. i < length (fans_over base nets))) (get_or-map (fan_in base) nets j [] [] h) (reads j [] (omega (arith, h, many))) in
      let below : net - base < length (fans_over base nets) = subst (λ i. i < length (fans_over base nets)) has.2 (all has.0 (net - base) has.1) in
      omega (arith, below, many, past)
]

-- the same of the nets of a node as they are read
pub reads_within : (base : ℕ) (nodes : List NodeOf) (now : List NetId) (node many : ℕ) → ReadsWithin (fans_over base (nets_of nodes)) → node < length nodes
    → net_numbers now ≡ (slice_index_or nodes node no_node).reads → many ≡ length nodes → All (λ net. net < base + many) (net_numbers now)
reads_within base nodes now node many within h is count =
    let long = length-map nodes (λ n. n.reads) in
    let sized : length (nets_of nodes) ≡ many = omega (arith, long, count) in
    subst (All (λ net. net < base + many)) (sym (nets_at nodes now node h is))
    (subst (λ n. All (λ net. net < base + n) (list_at (nets_of nodes) node)) sized
    (pins_within base (nets_of nodes) node within (omega (arith, h, long))))

-- the fan-in of a node, of the nets as they are read
pub fan_seen : (base : ℕ) (nodes : List NodeOf) (now : List NetId) (node : ℕ) → node < length nodes → net_numbers now ≡ (slice_index_or nodes node no_node).reads
    → fan_in base (net_numbers now) ≡ list_at (fans_over base (nets_of nodes)) node
fan_seen base nodes now node h is =
    let long = length-map nodes (λ n. n.reads) in
    ap (fan_in base) (nets_at nodes now node h is) ∙ sym (get_or-map (fan_in base) (nets_of nodes) node [] [] (omega (arith, h, long)))

-- a pin at which a node waits: it reads the net of a node that isn't marked
pub record WaitsAt (base : ℕ) (nets : List (List ℕ)) (marks : List Bool) (node stop net : ℕ) : Type 0 where
  pub before : stop < length (list_at nets node)
  pub is : slice_index (list_at nets node) stop ≡ base + (net - base)
  pub inside : net - base < length nets
  pub unmarked : bit marks (net - base) ≡ false

pub waits_at : (base : ℕ) (nets : List (List ℕ)) (marks : List Bool) (node stop : ℕ) (reads : List NetId) → ReadsWithin (fans_over base nets) → node < length nets
    → net_numbers reads ≡ list_at nets node → stop < length reads → is_passed base marks (slice_index_or reads stop (record { number = 0 })).number ≡ false
    → WaitsAt base nets marks node stop (slice_index_or reads stop (record { number = 0 })).number
waits_at base nets marks node stop reads within h here before stopped = record {
  before = inside;
  is = net_is ∙ back;
  inside = omega (arith, below, net_is);
  unmarked = parts.1;
}
  where
    net : ℕ
    net = (slice_index_or reads stop (record { number = 0 })).number

    inside : stop < length (list_at nets node)
    inside = omega (arith, before, ap length here, length-map reads (λ (n : NetId). n.number))

    net_is : slice_index (list_at nets node) stop ≡ net
    net_is = sym (ap (λ list. slice_index list stop) here) ∙ number_at reads stop before

    parts : (nat_lt net base ≡ false) × (bit marks (net - base) ≡ false)
    parts = or_parts (nat_lt net base) (bit marks (net - base)) stopped

    driven : base ≤ net
    driven = let e = parts.0 in grind (arith, nat_tests)

    back : net ≡ base + (net - base)
    back = omega (arith, driven)

    below : slice_index (list_at nets node) stop < base + length nets
    below = pins_within base nets node within h stop 0 inside

-- at the net of a node its mark alone decides
pub passed_at : (base : ℕ) (marks : List Bool) (b : ℕ) → is_passed base marks (base + b) ≡ bit marks b
passed_at base marks b =
    let driven : nat_lt (base + b) base ≡ false = grind (arith, nat_tests) in
    let place : base + b - base ≡ b = omega arith in
    ap (λ t. t || bit marks (base + b - base)) driven ∙ ap (bit marks) place

-- the lists with one more who waits
abbrev pub with_waiter : List (List ℕ) → ℕ → ℕ → List (List ℕ)
with_waiter waiters b node = slice_set waiters b (list_at waiters b ++ node ∷ [])

-- what was passed in a node's list from its stop on
pub passed_in : (base : ℕ) (nets : List (List ℕ)) (marks : List Bool) (stops reads : List ℕ) (node start stop : ℕ) → node < length stops
    → start ≡ slice_index_or stops node start → reads ≡ list_at nets node
    → ((pin : ℕ) → start ≤ pin → pin < stop → pin < length reads → is_passed base marks (slice_index reads pin) ≡ true)
    → (pin : ℕ) → slice_index stops node ≤ pin → pin < stop → pin < length (list_at nets node) → is_passed base marks (slice_index (list_at nets node) pin) ≡ true
passed_in base nets marks stops reads node start stop h from is passed =
    let there : start ≡ slice_index stops node = get_or_read stops node start h from 0 in
    subst (λ list. (pin : ℕ) → slice_index stops node ≤ pin → pin < stop → pin < length list → is_passed base marks (slice_index list pin) ≡ true) is
    (λ pin after. passed pin (omega arith))

-- a look at a node
module _ (base : ℕ) (nets : List (List ℕ)) (marks : List Bool) (stops : List ℕ) (waiters : List (List ℕ)) (ready : List ℕ) (pending : ℕ → Bool)
    (node stop : ℕ) (within : node < length nets) (unmarked : bit marks node ≡ false)
    (passed : (pin : ℕ) → slice_index stops node ≤ pin → pin < stop → pin < length (list_at nets node) → is_passed base marks (slice_index (list_at nets node) pin) ≡ true)
    (search : IsSearch base nets marks stops waiters ready (λ j. (node == j) || pending j)) where
  -- nothing is waited for at the pins before the stop
  pub look_passed : (pin : ℕ) → pin < stop → pin < length (list_at nets node) → is_passed base marks (slice_index (list_at nets node) pin) ≡ true
  look_passed pin h inside = elim (cases_lt pin (slice_index stops node)) [
    | inl before ↦ search.stopped node pin before inside
    | inr after ↦ passed pin after h inside
  ]

  pub look_stopped : (j pin : ℕ) → pin < slice_index (slice_set stops node stop) j → pin < length (list_at nets j)
      → is_passed base marks (slice_index (list_at nets j) pin) ≡ true
  look_stopped j pin h inside = elim (cases_eq j node) [
    | inl e ↦
        let here : slice_index (slice_set stops node stop) j ≡ stop =
        ap (slice_index (slice_set stops node stop)) e ∙ get_or-set_same stops node stop 0 (omega (arith, search.stops_sized)) in
        subst (λ i. is_passed base marks (slice_index (list_at nets i) pin) ≡ true) (sym e)
        (look_passed pin (omega arith) (subst (λ i. pin < length (list_at nets i)) e inside))
    | inr other ↦
        let there : slice_index (slice_set stops node stop) j ≡ slice_index stops j = get_or-set_other stops node j stop 0 other in
        search.stopped j pin (omega arith) inside
  ]

  -- nothing is waited for at its pins: it is ready
  pub look_ready : length (list_at nets node) ≤ stop → IsSearch base nets marks (slice_set stops node stop) waiters (insert_key nat_cmp ready node) pending
  look_ready all = record {
    marks_sized = search.marks_sized;
    stops_sized = length-set stops node stop ∙ search.stops_sized;
    waiters_sized = search.waiters_sized;
    stopped = look_stopped;
    sound = sound;
    waiting = search.waiting;
    complete = complete;
  }
    where
      here : IsReady base nets marks node
      here = record { within = within; unmarked = unmarked; reads = λ pin inside. look_passed pin (omega arith) inside }

      sound : (j : ℕ) → has_place (insert_key nat_cmp ready node) j ≡ true → IsReady base nets marks j
      sound j h = elim (or_cases (node == j) (has_place ready j) (sym (has_place-insert ready node j) ∙ h)) [
        | inl e ↦ subst (IsReady base nets marks) (eqb-true node j e) here
        | inr old ↦ search.sound j old
      ]

      complete : (j : ℕ) → j < length nets → bit marks j ≡ false → has_place (insert_key nat_cmp ready node) j ≡ false → pending j ≡ false
          → Waits nets marks waiters j
      complete j h unset unready done =
          let parts = or_parts (node == j) (has_place ready j) (sym (has_place-insert ready node j) ∙ unready) in
          search.complete j h unset parts.1 (or_from (node == j) (pending j) parts.0 done)

  -- it waits on the next that it reads and isn't marked
  pub look_waits : (b : ℕ) → stop < length (list_at nets node) → slice_index (list_at nets node) stop ≡ base + b → b < length nets → bit marks b ≡ false
      → IsSearch base nets marks (slice_set stops node stop) (slice_set waiters b (list_at waiters b ++ node ∷ [])) ready pending
  look_waits b before is inside free = record {
    marks_sized = search.marks_sized;
    stops_sized = length-set stops node stop ∙ search.stops_sized;
    waiters_sized = length-set waiters b (list_at waiters b ++ node ∷ []) ∙ search.waiters_sized;
    stopped = look_stopped;
    sound = search.sound;
    waiting = waiting;
    complete = complete;
  }
    where
      at_b : list_at (with_waiter waiters b node) b ≡ list_at waiters b ++ node ∷ []
      at_b = get_or-set_same waiters b (list_at waiters b ++ node ∷ []) [] (omega (arith, search.waiters_sized))

      elsewhere : (i : ℕ) → (i ≡ b → ⊥) → list_at (with_waiter waiters b node) i ≡ list_at waiters i
      elsewhere i other = get_or-set_other waiters b i (list_at waiters b ++ node ∷ []) [] other

      here : IsWaiter base nets marks b node
      here = record { within = within; unmarked = unmarked; reads = record { pin = stop; within = before; there = is } }

      at_blocker : (j : ℕ) → has_place (list_at waiters b ++ node ∷ []) j ≡ true → IsWaiter base nets marks b j
      at_blocker j h = elim (has_place-cases (list_at waiters b) node j h) [
        | inl old ↦ search.waiting b j free old
        | inr e ↦ subst (IsWaiter base nets marks b) e here
      ]

      waiting : (i j : ℕ) → bit marks i ≡ false → has_place (list_at (with_waiter waiters b node) i) j ≡ true → IsWaiter base nets marks i j
      waiting i j unset h = elim (cases_eq i b) [
        | inl e ↦ subst (λ k. IsWaiter base nets marks k j) (sym e)
            (at_blocker j (sym (ap (λ places. has_place places j) (ap (list_at (with_waiter waiters b node)) e ∙ at_b)) ∙ h))
        | inr other ↦ search.waiting i j unset (sym (ap (λ places. has_place places j) (elsewhere i other)) ∙ h)
      ]

      -- those that waited wait on
      kept : (j : ℕ) → Waits nets marks waiters j → Waits nets marks (with_waiter waiters b node) j
      kept j waits = elim (cases_eq waits.blocker b) [
        | inl e ↦ record {
          blocker = waits.blocker;
          within = waits.within;
          unmarked = waits.unmarked;
          there = ap (λ places. has_place places j) (ap (list_at (with_waiter waiters b node)) e ∙ at_b)
              ∙ has_place-kept (list_at waiters b) node j (sym (ap (λ i. has_place (list_at waiters i) j) e) ∙ waits.there);
        }
        | inr other ↦ record {
          blocker = waits.blocker;
          within = waits.within;
          unmarked = waits.unmarked;
          there = ap (λ places. has_place places j) (elsewhere waits.blocker other) ∙ waits.there;
        }
      ]

      complete : (j : ℕ) → j < length nets → bit marks j ≡ false → has_place ready j ≡ false → pending j ≡ false
          → Waits nets marks (with_waiter waiters b node) j
      complete j h unset unready done = elim (cases_eq node j) [
        | inl e ↦ subst (Waits nets marks (with_waiter waiters b node)) e (record {
          blocker = b;
          within = inside;
          unmarked = free;
          there = ap (λ places. has_place places node) at_b ∙ has_place-pushed (list_at waiters b) node;
        })
        | inr other ↦ kept j (search.complete j h unset unready (or_from (node == j) (pending j) (ne_eqb node j other) done))
      ]

-- the listing of the first ready node
module _ (base : ℕ) (nets : List (List ℕ)) (marks : List Bool) (stops : List ℕ) (waiters : List (List ℕ)) (ready : List ℕ)
    (node : ℕ) (later : All (λ k. nat_cmp node k ≡ Less) ready)
    (search : IsSearch base nets marks stops waiters (node ∷ ready) (λ j. false)) where
  pub listed_ready : IsReady base nets marks node
  listed_ready = search.sound node (has_place-head node ready)

  marked_node : bit (slice_set marks node true) node ≡ true
  marked_node = get_or-set_same marks node true false (omega (arith, search.marks_sized, listed_ready.within))

  marked_other : (j : ℕ) → (j ≡ node → ⊥) → bit (slice_set marks node true) j ≡ bit marks j
  marked_other j other = get_or-set_other marks node j true false other

  -- what was marked stays marked
  still_marked : (j : ℕ) → bit marks j ≡ true → bit (slice_set marks node true) j ≡ true
  still_marked j h = elim (cases_eq j node) [
    | inl e ↦ ap (bit (slice_set marks node true)) e ∙ marked_node
    | inr other ↦ marked_other j other ∙ h
  ]

  -- where nothing was waited for, nothing is
  still_passed : (net : ℕ) → is_passed base marks net ≡ true → is_passed base (slice_set marks node true) net ≡ true
  still_passed net h = elim (or_cases (nat_lt net base) (bit marks (net - base)) h) [
    | inl e ↦ or_left (nat_lt net base) _ e
    | inr e ↦ or_right (nat_lt net base) _ (still_marked (net - base) e)
  ]

  -- what isn't marked afterwards is another, and wasn't marked before
  unmarked_other : (j : ℕ) → bit (slice_set marks node true) j ≡ false → j ≡ node → ⊥
  unmarked_other j h e = true≢false (sym (ap (bit (slice_set marks node true)) e ∙ marked_node) ∙ h)

  unmarked_before : (j : ℕ) → bit (slice_set marks node true) j ≡ false → bit marks j ≡ false
  unmarked_before j h = sym (marked_other j (unmarked_other j h)) ∙ h

  -- who waits isn't the node itself
  waiter_other : (b j : ℕ) → IsWaiter base nets marks b j → bit marks b ≡ false → j ≡ node → ⊥
  waiter_other b j waiter unset e =
      let reads : Reads base nets node b = subst (λ i. Reads base nets i b) e waiter.reads in
      true≢false (sym (listed_ready.reads reads.pin reads.within) ∙ ap (is_passed base marks) reads.there ∙ passed_at base marks b ∙ unset)

  waiter_after : (b j : ℕ) → IsWaiter base nets marks b j → bit marks b ≡ false → IsWaiter base nets (slice_set marks node true) b j
  waiter_after b j waiter unset = record {
    within = waiter.within;
    unmarked = marked_other j (waiter_other b j waiter unset) ∙ waiter.unmarked;
    reads = waiter.reads;
  }

  -- those whose wait is over
  woken_at : (j : ℕ) → has_place (list_at waiters node) j ≡ true → IsWaiter base nets (slice_set marks node true) node j
  woken_at j h = waiter_after node j (search.waiting node j listed_ready.unmarked h) listed_ready.unmarked

  pub woken_within : All (λ j. j < length nets) (list_at waiters node)
  woken_within = All-has_place (list_at waiters node) (λ j. j < length nets) (λ j h. (woken_at j h).within)

  pub woken_unmarked : All (λ j. bit (slice_set marks node true) j ≡ false) (list_at waiters node)
  woken_unmarked = All-has_place (list_at waiters node) (λ j. bit (slice_set marks node true) j ≡ false) (λ j h. (woken_at j h).unmarked)

  pub search_listed : IsSearch base nets (slice_set marks node true) stops (slice_set waiters node []) ready (has_place (list_at waiters node))
  search_listed = record {
    marks_sized = length-set marks node true ∙ search.marks_sized;
    stops_sized = search.stops_sized;
    waiters_sized = length-set waiters node [] ∙ search.waiters_sized;
    stopped = λ j pin h inside. still_passed _ (search.stopped j pin h inside);
    sound = sound;
    waiting = waiting;
    complete = complete;
  }
    where
      elsewhere : (i : ℕ) → (i ≡ node → ⊥) → list_at (slice_set waiters node []) i ≡ list_at waiters i
      elsewhere i other = get_or-set_other waiters node i [] [] other

      sound : (j : ℕ) → has_place ready j ≡ true → IsReady base nets (slice_set marks node true) j
      sound j h =
          let old = search.sound j (has_place-rest node j ready h) in
          let other : j ≡ node → ⊥ = λ e. true≢false (sym h ∙ ap (has_place ready) e ∙ not_among_greater node ready later) in
          record {
            within = old.within;
            unmarked = marked_other j other ∙ old.unmarked;
            reads = λ pin inside. still_passed _ (old.reads pin inside);
          }

      waiting : (b j : ℕ) → bit (slice_set marks node true) b ≡ false → has_place (list_at (slice_set waiters node []) b) j ≡ true
          → IsWaiter base nets (slice_set marks node true) b j
      waiting b j unset h =
          let old = unmarked_before b unset in
          waiter_after b j (search.waiting b j old (sym (ap (λ places. has_place places j) (elsewhere b (unmarked_other b unset))) ∙ h)) old

      on : (j : ℕ) → has_place (list_at waiters node) j ≡ false → Waits nets marks waiters j
          → Waits nets (slice_set marks node true) (slice_set waiters node []) j
      on j done waits =
          let other : waits.blocker ≡ node → ⊥ = λ e. true≢false (sym waits.there ∙ ap (λ i. has_place (list_at waiters i) j) e ∙ done) in
          record {
            blocker = waits.blocker;
            within = waits.within;
            unmarked = marked_other waits.blocker other ∙ waits.unmarked;
            there = ap (λ places. has_place places j) (elsewhere waits.blocker other) ∙ waits.there;
          }

      complete : (j : ℕ) → j < length nets → bit (slice_set marks node true) j ≡ false → has_place ready j ≡ false
          → has_place (list_at waiters node) j ≡ false → Waits nets (slice_set marks node true) (slice_set waiters node []) j
      complete j h unset unready done =
          let other : node ≡ j → ⊥ = λ e. unmarked_other j unset (sym e) in
          on j done (search.complete j h (unmarked_before j unset) (has_place-tail node j ready other ∙ unready) refl)
