-- The search marks what reaches its roots.
use Rattle.std.proofs.Common.{◌≡◌, ℕ, zero, suc, ◌+◌, ◌<◌, ◌≤◌, if◌then◌else◌, inl, inr, Bool, true, false, cond, List, [], ◌∷◌, ◌++◌, length, replicate, slice_index, slice_index_or, slice_set, Contains, All, IsTrue, refl, sym, ap, ◌∙◌, subst, arith, length-append}
use Rattle.std.proofs.lemmas.Grind.{common_steps}
use Rattle.std.proofs.lemmas.Bool.{cases_lt, cases_eq, lt-ltb, le-ltb, false≢true}
use Rattle.std.proofs.lemmas.List.{length-replicate, length-set, get_or-set_same, get_or-set_other, get_or_append_left, get_or-append-add}
use Rattle.std.proofs.lemmas.List.Elements.{All-from_get_or, Contains-append_left, Contains-append_right}
use Rattle.std.proofs.lemmas.List.Sums.{sum_by-set, count_by-le-length}
use Rattle.tsc_bits.specs.Counting.{ones}
use Rattle.fault_secure.specs.Circuit.{Circuit, node, latch_net, node_net, pin_net, nets, bit}
use Rattle.fault_secure.specs.Closed.{IsClosed}
use Rattle.fault_secure.proofs.EqualBits.{bit-replicate}
use Rattle.register_laws.specs.RegisterPlan.{next_net}
use Rattle.register_laws.specs.RegisterStructure.Reaches.{own}
use Rattle.register_laws.proofs.Outside.{marks_hold_what_reaches}
use Rattle.register_synth.specs.Reaching.{ReachesSome, MarksReaching}
use Rattle.register_synth.specs.inner.Search.{Search, found_net, found_nets, nets_read, led_on, searched}
use Rattle.register_synth.proofs.Before.{read_by_latch, read_by_node, read_reaches}

-- what was found: the marked nets, each once, and each reaches a root
pub record IsFound (C : Circuit) (roots : List ℕ) (s : Search) : Type 0 where
  pub sized : length s.marks ≡ nets C
  pub sound : (net : ℕ) → IsTrue (bit s.marks net) → ReachesSome C net roots
  pub listed : (net : ℕ) → IsTrue (bit s.marks net) → Contains s.found net
  pub inside : (k : ℕ) → k < length s.found → IsTrue (bit s.marks (slice_index s.found k))
  pub counted : length s.found ≡ ones s.marks

-- what was found stays
pub record Stays (s t : Search) : Type 0 where
  pub marks : (net : ℕ) → IsTrue (bit s.marks net) → IsTrue (bit t.marks net)
  pub longer : length s.found ≤ length t.found
  pub found : (k : ℕ) → k < length s.found → slice_index t.found k ≡ slice_index s.found k

stays_same : (s : Search) → Stays s s
stays_same s = record { marks = λ net is. is; longer = omega arith; found = λ k h. refl }

stays_on : (s t u : Search) → Stays s t → Stays t u → Stays s u
stays_on s t u a b = record {
  marks = λ net is. b.marks net (a.marks net is);
  longer = let x = a.longer in let y = b.longer in omega arith;
  found = λ k h. b.found k (let x = a.longer in omega arith) ∙ a.found k h;
}

-- ---- a bit that is set

set_here : (marks : List Bool) (net : ℕ) → net < length marks → IsTrue (bit (slice_set marks net true) net)
set_here marks net h = get_or-set_same marks net true false h

set_other : (marks : List Bool) (net other : ℕ) → (other ≡ net → ⊥) → bit (slice_set marks net true) other ≡ bit marks other
set_other marks net other apart = get_or-set_other marks net other true false apart

set_keeps : (marks : List Bool) (net other : ℕ) → net < length marks → IsTrue (bit marks other) → IsTrue (bit (slice_set marks net true) other)
set_keeps marks net other h is = elim (cases_eq other net) [
  | inl same ↦ subst (λ n. IsTrue (bit (slice_set marks net true) n)) (sym same) (set_here marks net h)
  | inr apart ↦ set_other marks net other apart ∙ is
]

set_from : (marks : List Bool) (net other : ℕ) → IsTrue (bit (slice_set marks net true) other) → (other ≡ net → ⊥) → IsTrue (bit marks other)
set_from marks net other is apart = sym (set_other marks net other apart) ∙ is

set_ones : (marks : List Bool) (net : ℕ) → net < length marks → ones (slice_set marks net true) + cond (bit marks net) 1 0 ≡ ones marks + 1
set_ones marks net h = sum_by-set (λ b. cond b 1 0) marks net true false h

-- ---- one net

module _ (C : Circuit) (roots : List ℕ) (s : Search) (net : ℕ) (is : IsFound C roots s) (within : net < nets C) where
  in_marks : net < length s.marks
  in_marks = let e = is.sized in omega arith

  abbrev with_it : (b : Bool) → Search
  with_it b = record { marks = slice_set s.marks net true; found = if b then s.found else s.found ++ net ∷ [] }

  one_stays_at : (b : Bool) → Stays s (with_it b)
  one_stays_at true = record { marks = λ other m. set_keeps s.marks net other in_marks m; longer = omega arith; found = λ k h. refl }
  one_stays_at false = record {
    marks = λ other m. set_keeps s.marks net other in_marks m;
    longer = omega (arith, length-append s.found (net ∷ []));
    found = λ k h. get_or_append_left s.found (net ∷ []) 0 k h;
  }

  one_sound : ReachesSome C net roots → (other : ℕ) → IsTrue (bit (slice_set s.marks net true) other) → ReachesSome C other roots
  one_sound reaches other m = elim (cases_eq other net) [
    | inl same ↦ subst (λ n. ReachesSome C n roots) (sym same) reaches
    | inr apart ↦ is.sound other (set_from s.marks net other m apart)
  ]

  one_found_at : ReachesSome C net roots → (b : Bool) → bit s.marks net ≡ b → IsFound C roots (with_it b)
  one_found_at reaches true e = record {
    sized = length-set s.marks net true ∙ is.sized;
    sound = one_sound reaches;
    listed = λ other m. elim (cases_eq other net) [
      | inl same ↦ subst (Contains s.found) (sym same) (is.listed net e)
      | inr apart ↦ is.listed other (set_from s.marks net other m apart)
    ];
    inside = λ k h. set_keeps s.marks net (slice_index s.found k) in_marks (is.inside k h);
    counted = omega (arith, is.counted, set_ones s.marks net in_marks, ap (λ b. cond {A = ℕ} b 1 0) e);
  }
  one_found_at reaches false e = record {
    sized = length-set s.marks net true ∙ is.sized;
    sound = one_sound reaches;
    listed = λ other m. elim (cases_eq other net) [
      | inl same ↦ subst (Contains (s.found ++ net ∷ [])) (sym same) (Contains-append_right s.found (net ∷ []) net (0, omega arith, refl))
      | inr apart ↦ Contains-append_left s.found (net ∷ []) other (is.listed other (set_from s.marks net other m apart))
    ];
    inside = λ k h. elim (cases_lt k (length s.found)) [
      | inl low ↦ subst (λ n. IsTrue (bit (slice_set s.marks net true) n)) (sym (get_or_append_left s.found (net ∷ []) 0 k low))
          (set_keeps s.marks net (slice_index s.found k) in_marks (is.inside k low))
      | inr high ↦ (
          let last : k ≡ length s.found + 0 = omega (arith, length-append s.found (net ∷ [])) in
          subst (λ n. IsTrue (bit (slice_set s.marks net true) n))
          (sym (ap (slice_index (s.found ++ net ∷ [])) last ∙ get_or-append-add s.found (net ∷ []) 0 0)) (set_here s.marks net in_marks))
    ];
    counted = omega (arith, is.counted, set_ones s.marks net in_marks, ap (λ b. cond {A = ℕ} b 1 0) e, length-append s.found (net ∷ []));
  }

  pub one_found : ReachesSome C net roots → IsFound C roots (found_net s net)
  one_found reaches = one_found_at reaches (bit s.marks net) refl

  pub one_stays : Stays s (found_net s net)
  one_stays = one_stays_at (bit s.marks net)

  pub one_marked : IsTrue (bit (found_net s net).marks net)
  one_marked = set_here s.marks net in_marks

-- ---- some nets

-- each net of the list is a net, and reaches a root
abbrev pub AllReach : Circuit → List ℕ → List ℕ → Type 0
AllReach C roots list = (net : ℕ) → Contains list net → (net < nets C) × ReachesSome C net roots

first_in : (net : ℕ) (list : List ℕ) → Contains (net ∷ list) net
first_in net list = (0, omega arith, refl)

later_in : (net : ℕ) (list : List ℕ) (other : ℕ) → Contains list other → Contains (net ∷ list) other
later_in net list other (k, h, e) = (suc k, omega arith, e)

pub all_found : (C : Circuit) (roots list : List ℕ) (s : Search) → AllReach C roots list → IsFound C roots s → IsFound C roots (found_nets s list)
all_found C roots [] s reach is = is
all_found C roots (net ∷ list) s reach is =
    let here = reach net (first_in net list) in
    all_found C roots list (found_net s net) (λ other has. reach other (later_in net list other has)) (one_found C roots s net is here.0 here.1)

pub all_stay : (C : Circuit) (roots list : List ℕ) (s : Search) → AllReach C roots list → IsFound C roots s → Stays s (found_nets s list)
all_stay C roots [] s reach is = stays_same s
all_stay C roots (net ∷ list) s reach is =
    let here = reach net (first_in net list) in
    stays_on s (found_net s net) (found_nets (found_net s net) list) (one_stays C roots s net is here.0)
    (all_stay C roots list (found_net s net) (λ other has. reach other (later_in net list other has)) (one_found C roots s net is here.0 here.1))

pub all_marked : (C : Circuit) (roots list : List ℕ) (s : Search) → AllReach C roots list → IsFound C roots s
    → (net : ℕ) → Contains list net → IsTrue (bit (found_nets s list).marks net)
all_marked C roots [] s reach is net (k, h, e) = absurd (omega arith)
all_marked C roots (first ∷ list) s reach is net (zero, h, e) =
    let here = reach first (first_in first list) in
    let after = all_stay C roots list (found_net s first) (λ other has. reach other (later_in first list other has)) (one_found C roots s first is here.0 here.1) in
    subst (λ n. IsTrue (bit (found_nets (found_net s first) list).marks n)) e (after.marks first (one_marked C roots s first is here.0))
all_marked C roots (first ∷ list) s reach is net (suc k, h, e) =
    let here = reach first (first_in first list) in
    all_marked C roots list (found_net s first) (λ other has. reach other (later_in first list other has)) (one_found C roots s first is here.0 here.1)
    net (k, omega arith, e)

-- ---- the search

module _ (C : Circuit) (roots : List ℕ) (closed : IsClosed C) (roots_in : (net : ℕ) → Contains roots net → net < nets C) where
  -- so far: the roots are marked, and what the first nets of the list are made from
  pub record SoFar (places : ℕ) (s : Search) : Type 0 where
    pub is : IsFound C roots s
    pub rooted : (net : ℕ) → Contains roots net → IsTrue (bit s.marks net)
    pub led : (k net : ℕ) → k < places → k < length s.found → Contains (nets_read C (slice_index s.found k)) net → IsTrue (bit s.marks net)

  abbrev nothing : Search
  nothing = record { marks = replicate (nets C) false; found = [] }

  nothing_found : IsFound C roots nothing
  nothing_found = record {
    sized = length-replicate {A = Bool} (nets C) false;
    sound = λ net m. absurd (false≢true (sym (bit-replicate (nets C) net) ∙ m));
    listed = λ net m. absurd (false≢true (sym (bit-replicate (nets C) net) ∙ m));
    inside = λ k h. absurd (omega arith);
    counted = sym (none (nets C));
  }
    where
      none : (n : ℕ) → ones (replicate n false) ≡ 0
      none zero = refl
      none (suc n) = none n

  roots_reach : AllReach C roots roots
  roots_reach net has = (roots_in net has, record { root = net; is_root = has; reaches = own net refl })

  read_within : (s : Search) → IsFound C roots s → (k : ℕ) → k < length s.found → AllReach C roots (nets_read C (slice_index s.found k))
  read_within s is k h other has =
      let here = is.inside k h in
      read_reaches C closed roots (slice_index s.found k) other (inside (slice_index s.found k) here) (is.sound (slice_index s.found k) here) has
    where
      inside : (net : ℕ) → IsTrue (bit s.marks net) → net < nets C
      inside net m = elim (cases_lt net (nets C)) [
        | inl low ↦ low
        | inr high ↦ (let e = is.sized in absurd (false≢true (sym (past s.marks net (omega arith)) ∙ m)))
      ]
        where
          past : (xs : List Bool) (q : ℕ) → length xs ≤ q → bit xs q ≡ false
          past xs q high = grind (arith, common_steps)

  on_from : (places : ℕ) (s : Search) → SoFar places s → places < length s.found → SoFar (suc places) (found_nets s (nets_read C (slice_index s.found places)))
  on_from places s so low =
      let reach = read_within s so.is places low in
      let stays = all_stay C roots (nets_read C (slice_index s.found places)) s reach so.is in
      record {
        is = all_found C roots (nets_read C (slice_index s.found places)) s reach so.is;
        rooted = λ net has. stays.marks net (so.rooted net has);
        led = λ k net below h has. elim (cases_lt k places) [
          | inl before ↦ (
              let there : k < length s.found = omega arith in
              stays.marks net (so.led k net before there (subst (λ n. Contains (nets_read C n) net) (stays.found k there) has)))
          | inr at ↦ (
              let same : k ≡ places = omega arith in
              all_marked C roots (nets_read C (slice_index s.found places)) s reach so.is net
              (subst (λ n. Contains (nets_read C n) net) (stays.found places low)
              (subst (λ i. Contains (nets_read C (slice_index (found_nets s (nets_read C (slice_index s.found places))).found i)) net) same has)))
        ];
      }

  on_past : (places : ℕ) (s : Search) → SoFar places s → length s.found ≤ places → SoFar (suc places) s
  on_past places s so high = record {
    is = so.is;
    rooted = so.rooted;
    led = λ k net below h has. so.led k net (omega arith) h has;
  }

  on : (places : ℕ) (s : Search) → SoFar places s → SoFar (suc places) (led_on C s places)
  on places s so = elim (cases_lt places (length s.found)) [
    | inl low ↦ subst (λ b. SoFar (suc places) (if b then found_nets s (nets_read C (slice_index s.found places)) else s))
        (sym (lt-ltb places (length s.found) low)) (on_from places s so low)
    | inr high ↦ subst (λ b. SoFar (suc places) (if b then found_nets s (nets_read C (slice_index s.found places)) else s))
        (sym (le-ltb places (length s.found) high)) (on_past places s so high)
  ]

  search : (places : ℕ) → SoFar places (searched C roots places)
  search zero = record {
    is = all_found C roots roots nothing roots_reach nothing_found;
    rooted = all_marked C roots roots nothing roots_reach nothing_found;
    led = λ k net below h has. absurd (omega arith);
  }
  search (suc places) = on places (searched C roots places) (search places)

  -- where as many places were gone over as there are nets, what leads to a marked net is marked
  module _ (s : Search) (so : SoFar (nets C) s) where
    all_led : (net other : ℕ) → IsTrue (bit s.marks net) → Contains (nets_read C net) other → IsTrue (bit s.marks other)
    all_led net other m has = at (so.is.listed net m)
      where
        at : Contains s.found net → IsTrue (bit s.marks other)
        at (k, h, e) =
            let is : slice_index s.found k ≡ net = grind (arith, common_steps) in
            let few : ones s.marks ≤ length s.marks = count_by-le-length (λ b. b) s.marks in
            so.led k other (omega (arith, so.is.counted, so.is.sized)) h (subst (λ n. Contains (nets_read C n) other) (sym is) has)

    pin_led : (j pin : ℕ) → j < length C.nodes → pin < length (node C j).reads → IsTrue (bit s.marks (node_net C j)) → IsTrue (bit s.marks (pin_net C j pin))
    pin_led j pin h l m = all_led (node_net C j) (pin_net C j pin) m
        (subst (λ ns. Contains ns (pin_net C j pin)) (sym (read_by_node C j)) (pin, l, at (node C j).reads l))
      where
        at : (reads : List ℕ) → pin < length reads → slice_index_or reads pin (slice_index reads pin) ≡ slice_index reads pin
        at reads l = grind (arith, common_steps)

    latch_led : (l : ℕ) → l < length C.latches → IsTrue (bit s.marks (latch_net C l)) → IsTrue (bit s.marks (next_net C l))
    latch_led l h m = all_led (latch_net C l) (next_net C l) m
        (subst (λ ns. Contains ns (next_net C l)) (sym (read_by_latch C l h)) (0, omega arith, refl))

    marked : (net : ℕ) → ReachesSome C net roots → IsTrue (bit s.marks net)
    marked net some = marks_hold_what_reaches C (bit s.marks) net some.root pin_led latch_led (so.rooted some.root some.is_root) some.reaches

  marks : MarksReaching C roots (searched C roots (nets C)).marks
  marks =
      let so = search (nets C) in
      record { sized = so.is.sized; exact = λ net within. (so.is.sound net, marked (searched C roots (nets C)) so net) }

pub searched_marks : (C : Circuit) (roots : List ℕ) → IsClosed C → All (λ root. root < nets C) roots → MarksReaching C roots (searched C roots (nets C)).marks
searched_marks C roots closed within = marks C roots closed (λ net has. below net has)
  where
    below : (net : ℕ) → Contains roots net → net < nets C
    below net (k, h, e) = subst (λ n. n < nets C) e (within k net h)

-- a net that was found is a net
found_in : (C : Circuit) (roots : List ℕ) (s : Search) → IsFound C roots s → (k : ℕ) → k < length s.found → slice_index s.found k < nets C
found_in C roots s is k h = elim (cases_lt (slice_index s.found k) (nets C)) [
  | inl low ↦ low
  | inr high ↦ (let e = is.sized in absurd (false≢true (sym (past s.marks (slice_index s.found k) (omega arith)) ∙ is.inside k h)))
]
  where
    past : (xs : List Bool) (q : ℕ) → length xs ≤ q → bit xs q ≡ false
    past xs q high = grind (arith, common_steps)

-- the search keeps a mark for each net, and finds nets
pub searched_inside : (C : Circuit) (roots : List ℕ) → IsClosed C → All (λ root. root < nets C) roots → (places : ℕ)
    → (length (searched C roots places).marks ≡ nets C) × All (λ net. net < nets C) (searched C roots places).found
searched_inside C roots closed within places =
    let so = search C roots closed (λ net has. below net has) places in
    (so.is.sized, All-from_get_or (λ net. net < nets C) (searched C roots places).found 0 (found_in C roots (searched C roots places) so.is))
  where
    below : (net : ℕ) → Contains roots net → net < nets C
    below net (k, h, e) = subst (λ n. n < nets C) e (within k net h)
