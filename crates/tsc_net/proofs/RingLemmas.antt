-- The ring, node by node: the walk from blocker to blocker.
use Rattle.std.proofs.Common.{◌≡◌, ℕ, zero, suc, ◌+◌, ◌-◌, ◌<◌, ◌≤◌, Bool, true, false, not, cond, ◌||◌, ◌==◌, eqb, List, [], ◌∷◌, ◌++◌, length, drop, slice_index, slice_set, nat_lt, All, refl, sym, ap, ◌∙◌, subst, arith, inl, inr, true≢false, if◌then◌else◌, count_by}
use Rattle.std.specs.List.{position_or_len}
use Rattle.std.proofs.lemmas.List.{get_or-set_same, get_or-set_other, length-set, length_push}
use Rattle.std.proofs.lemmas.List.Elements.{All-head, All-tail}
use Rattle.std.proofs.lemmas.List.Folds.{position_or_len_push}
use Rattle.std.proofs.lemmas.List.Sums.{count_by-le-length, sum_by-cons}
use Rattle.std.proofs.lemmas.Bool.{cases_eq, cases_lt, eq-eqb, ne_eqb, or_parts, eqb-false}
use Rattle.fault_secure.specs.Circuit.{bit}
use Rattle.tsc_net.specs.Order.{has_place, fan_in, first_open, blocker, walk, ring, evaluation_order, has_whole_order}
use Rattle.tsc_net.specs.inner.OrderSearch.{is_passed, MarksOf, step_of, StepsOf, IsWalk}
use Rattle.tsc_bits.specs.Lists.{list_at}
use Rattle.tsc_net.proofs.OrderLists.{has_place-pushed, has_place-other, count_by-set, count_by-less}

-- the first node that isn't listed
pub first_open-is : (listed : List ℕ) (fans : List (List ℕ)) (at k : ℕ) → k < length fans → ((i : ℕ) → i < k → has_place listed (at + i) ≡ true)
    → has_place listed (at + k) ≡ false → at + k ≡ first_open listed at fans
first_open-is listed [] at k h passed stopped = absurd (omega arith)
first_open-is listed (reads ∷ fans) at zero h passed stopped =
    let here : has_place listed at ≡ false = subst (λ i. has_place listed i ≡ false) (omega arith) stopped in
    rw here (omega arith)
first_open-is listed (reads ∷ fans) at (suc k) h passed stopped =
    let here : has_place listed at ≡ true = subst (λ i. has_place listed i ≡ true) (omega arith) (passed 0 (omega arith)) in
    let rest : at + 1 + k ≡ first_open listed (at + 1) fans =
    first_open-is listed fans (at + 1) k (omega arith)
    (λ i below. subst (λ j. has_place listed j ≡ true) (omega arith) (passed (suc i) (omega arith)))
    (subst (λ j. has_place listed j ≡ false) (omega arith) stopped) in
    rw here (omega (arith, rest))

-- where a place stands in a path, and that of one that doesn't
pub position-past : (path : List ℕ) (j : ℕ) → has_place path j ≡ false → position_or_len (λ k. k == j) path ≡ length path
position-past [] j h = refl
position-past (k ∷ path) j h =
    let parts = or_parts (k == j) (has_place path j) h in
    let rest = position-past path j parts.1 in
    rw parts.0 (omega (arith, rest))

-- the position of a place that a path has is below the path's length
pub position-within : (path : List ℕ) (j : ℕ) → has_place path j ≡ true → position_or_len (λ k. k == j) path < length path
position-within [] j h = absurd (true≢false (sym h))
position-within (k ∷ path) j h = by (k == j) refl (position-within path j)
  where
    by : (b : Bool) → (k == j) ≡ b → (has_place path j ≡ true → position_or_len (λ i. i == j) path < length path)
        → position_or_len (λ i. i == j) (k ∷ path) < length (k ∷ path)
    by true e rest = rw e (omega arith)
    by false e rest =
        let later = rest (sym (ap (λ b. b || has_place path j) e) ∙ h) in
        rw e (omega (arith, later))

-- the steps of a path with one more node
pub step_of-last : (path : List ℕ) (at : ℕ) → has_place path at ≡ false → step_of (path ++ at ∷ []) at ≡ length path + 1
step_of-last path at h =
    let past : position_or_len (λ k. k == at) path ≡ length path = position-past path at h in
    let test : (eqb (position_or_len (λ k. k == at) path) (length path)) ≡ true = eq-eqb _ _ past in
    let last : position_or_len (λ k. k == at) (path ++ at ∷ []) ≡ length path + 0 =
    position_or_len_push (λ k. k == at) path at
    ∙ ap (λ b. cond b (length path + cond (at == at) 0 1) (position_or_len (λ k. k == at) path)) test
    ∙ ap (λ b. length path + cond b 0 1) (eq-eqb at at refl) in
    ap (λ b. if b then position_or_len (λ k. k == at) (path ++ at ∷ []) + 1 else 0) (has_place-pushed path at)
    ∙ omega (arith, last)

pub step_of-other : (path : List ℕ) (at j : ℕ) → (at ≡ j → ⊥) → step_of (path ++ at ∷ []) j ≡ step_of path j
step_of-other path at j other = ap (λ b. if b then position_or_len (λ k. k == j) (path ++ at ∷ []) + 1 else 0) (has_place-other path at j other)
    ∙ by (has_place path j) refl
  where
    by : (b : Bool) → has_place path j ≡ b
        → (if b then position_or_len (λ k. k == j) (path ++ at ∷ []) + 1 else 0) ≡ (if b then position_or_len (λ k. k == j) path + 1 else 0)
    by false e = refl
    by true e =
        let within = position-within path j e in
        let test : (eqb (position_or_len (λ k. k == j) path) (length path)) ≡ false = ne_eqb _ _ (λ (same : position_or_len (λ k. k == j) path ≡ length path). omega (arith, same, within)) in
        ap (λ n. n + 1) (position_or_len_push (λ k. k == j) path at
        ∙ ap (λ b. cond b (length path + cond (at == j) 0 1) (position_or_len (λ k. k == j) path)) test)

-- where no step is written, the path hasn't come
pub no_step : (path : List ℕ) (at : ℕ) → step_of path at ≡ 0 → has_place path at ≡ false
no_step path at = by (has_place path at)
  where
    by : (b : Bool) → (if b then position_or_len (λ k. k == at) path + 1 else 0) ≡ 0 → b ≡ false
    by true e = absurd (omega (arith, e))
    by false e = refl

pub some_step : (path : List ℕ) (at : ℕ) → (step_of path at ≡ 0 → ⊥) → has_place path at ≡ true
some_step path at = by (has_place path at)
  where
    by : (b : Bool) → ((if b then position_or_len (λ k. k == at) path + 1 else 0) ≡ 0 → ⊥) → b ≡ true
    by true e = refl
    by false e = absurd (e refl)

pub step_of-there : (path : List ℕ) (at : ℕ) → has_place path at ≡ true → step_of path at ≡ position_or_len (λ k. k == at) path + 1
step_of-there path at h = ap (λ b. if b then position_or_len (λ k. k == at) path + 1 else 0) h

pub steps_of-more : (steps path : List ℕ) (at : ℕ) → at < length steps → has_place path at ≡ false → StepsOf steps path
    → StepsOf (slice_set steps at (length path + 1)) (path ++ at ∷ [])
steps_of-more steps path at h absent old = record {
  steps_are = λ j inside. elim (cases_eq j at) [
    | inl e ↦ ap (slice_index (slice_set steps at (length path + 1))) e ∙ get_or-set_same steps at (length path + 1) 0 h
        ∙ sym (step_of-last path at absent) ∙ ap (step_of (path ++ at ∷ [])) (sym e)
    | inr other ↦ get_or-set_other steps at j (length path + 1) 0 other
        ∙ old.steps_are j (omega (arith, inside, length-set steps at (length path + 1)))
        ∙ sym (step_of-other path at j (λ e. other (sym e)))
  ];
  counted = count_by-set (λ s. not (s == 0)) steps at (length path + 1) 0 h was now ∙ ap (λ n. n + 1) old.counted ∙ sym (length_push path at);
}
  where
    none : slice_index steps at ≡ 0
    none = old.steps_are at h ∙ ap (λ b. if b then position_or_len (λ k. k == at) path + 1 else 0) absent

    was : not (slice_index steps at == 0) ≡ false
    was = ap not (eq-eqb _ 0 none)

    now : not (length path + 1 == 0) ≡ true
    now = ap not (ne_eqb (length path + 1) 0 (λ (e : length path + 1 ≡ 0). omega (arith, e)))

-- a walk
module _ (fans : List (List ℕ)) (steps path : List ℕ) (at : ℕ) (walking : IsWalk fans steps path at) where
  pub path_most : length path ≤ length fans
  path_most = omega (arith, count_by-le-length (λ s. not (s == 0)) steps, walking.steps_are.counted, walking.sized)

  -- a node that the path hasn't come to
  module _ (fresh : slice_index steps at ≡ 0) where
    pub at_absent : has_place path at ≡ false
    at_absent = no_step path at (sym (walking.steps_are.steps_are at (omega (arith, walking.within, walking.sized))) ∙ fresh)

    pub path_fewer : length path < length fans
    path_fewer =
        let was : not (slice_index steps at == 0) ≡ false = ap not (eq-eqb _ 0 fresh) in
        omega (arith, count_by-less (λ s. not (s == 0)) steps at 0 1 (omega (arith, walking.within, walking.sized)) was refl, walking.steps_are.counted, walking.sized)

    pub walk_more : (next : ℕ) → next < length fans → next ≡ blocker (evaluation_order fans) (list_at fans at)
        → IsWalk fans (slice_set steps at (length path + 1)) (path ++ at ∷ []) next
    walk_more next inside is = record {
      sized = length-set steps at (length path + 1) ∙ walking.sized;
      within = inside;
      steps_are = steps_of-more steps path at (omega (arith, walking.within, walking.sized)) at_absent walking.steps_are;
      walks_on = ap (λ n. walk (length fans + 1 - n) fans (evaluation_order fans) (path ++ at ∷ []) next) (length_push path at)
          ∙ ap (walk (length fans + 1 - (length path + 1)) fans (evaluation_order fans) (path ++ at ∷ [])) is
          ∙ sym (ap (λ b. if b then drop (position_or_len (λ k. k == at) path) path
          else walk (length fans + 1 - (length path + 1)) fans (evaluation_order fans) (path ++ at ∷ []) (blocker (evaluation_order fans) (list_at fans at))) at_absent)
          ∙ sym (ap (λ n. walk n fans (evaluation_order fans) path at) fuel) ∙ walking.walks_on;
    }
      where
        fuel : length fans + 1 - length path ≡ suc (length fans + 1 - (length path + 1))
        fuel = omega (arith, path_fewer)

  -- one that it has come to: the walk ends
  module _ (again : slice_index steps at ≡ 0 → ⊥) where
    at_there : has_place path at ≡ true
    at_there = some_step path at (λ e. again (walking.steps_are.steps_are at (omega (arith, walking.within, walking.sized)) ∙ e))

    step_is : slice_index steps at ≡ position_or_len (λ k. k == at) path + 1
    step_is = walking.steps_are.steps_are at (omega (arith, walking.within, walking.sized)) ∙ step_of-there path at at_there

    pub step_within : slice_index steps at ≤ length path
    step_within = omega (arith, step_is, position-within path at at_there)

    pub ring_is : drop (slice_index steps at - 1) path ≡ ring fans
    ring_is =
        let place : slice_index steps at - 1 ≡ position_or_len (λ k. k == at) path = omega (arith, step_is) in
        ap (λ n. drop n path) place
        ∙ sym (ap (λ b. if b then drop (position_or_len (λ k. k == at) path) path
        else walk (length fans - length path) fans (evaluation_order fans) (path ++ at ∷ []) (blocker (evaluation_order fans) (list_at fans at))) at_there)
        ∙ sym (ap (λ n. walk n fans (evaluation_order fans) path at) fuel) ∙ walking.walks_on
      where
        fuel : length fans + 1 - length path ≡ suc (length fans - length path)
        fuel = omega (arith, path_most)

-- the start of the walk
pub all_counted : (marks : List Bool) → ((j : ℕ) → j < length marks → bit marks j ≡ true) → count_by (λ b. b) marks ≡ length marks
all_counted [] all = refl
all_counted (m ∷ marks) all =
    let rest = all_counted marks (λ j h. all (suc j) (omega arith)) in
    let here = ap (λ (b : Bool). cond {A = ℕ} b 1 0) (all 0 (omega arith)) in
    sum_by-cons (λ (b : Bool). cond b 1 0) m marks ∙ omega (arith, rest, here)

pub none_counted : (steps : List ℕ) → ((j : ℕ) → slice_index steps j ≡ 0) → count_by (λ s. not (s == 0)) steps ≡ 0
none_counted [] zeros = refl
none_counted (s ∷ steps) zeros =
    let rest = none_counted steps (λ j. zeros (suc j)) in
    let here = ap (λ (b : Bool). cond {A = ℕ} (not b) 1 0) (eq-eqb s 0 (zeros 0)) in
    sum_by-cons (λ (i : ℕ). cond (not (i == 0)) 1 0) s steps ∙ omega (arith, rest, here)

-- where the order isn't whole, some node isn't marked
pub first_within : (fans : List (List ℕ)) (marks : List Bool) (at : ℕ) → MarksOf fans marks (evaluation_order fans) → has_whole_order fans ≡ false
    → at ≤ length marks → ((j : ℕ) → j < at → bit marks j ≡ true) → at < length fans
first_within fans marks at marked cut most passed = elim (cases_lt at (length fans)) [
  | inl h ↦ h
  | inr past ↦
      let all = all_counted marks (λ j h. passed j (omega (arith, h, past, marked.sized))) in
      let whole : length (evaluation_order fans) ≡ length fans = sym marked.counted ∙ all ∙ marked.sized in
      absurd (eqb-false _ _ cut whole)
]

pub walk_begins : (fans : List (List ℕ)) (marks : List Bool) (steps : List ℕ) (at : ℕ) → MarksOf fans marks (evaluation_order fans)
    → length steps ≡ length fans → ((j : ℕ) → slice_index steps j ≡ 0) → at < length fans
    → ((j : ℕ) → j < at → bit marks j ≡ true) → bit marks at ≡ false → IsWalk fans steps [] at
walk_begins fans marks steps at marked sized zeros h passed stopped = record {
  sized = sized;
  within = h;
  steps_are = record {
    steps_are = λ j inside. zeros j;
    counted = none_counted steps zeros;
  };
  walks_on =
      let first : at ≡ first_open (evaluation_order fans) 0 fans =
      omega (
        arith,
        first_open-is (evaluation_order fans) fans 0 at h
            (λ i below. subst (λ j. has_place (evaluation_order fans) j ≡ true) (omega arith) (sym (marked.marked i (omega arith)) ∙ passed i below))
            (subst (λ j. has_place (evaluation_order fans) j ≡ false) (omega arith) (sym (marked.marked at h) ∙ stopped)),
      ) in
      let fuel : length fans + 1 - 0 ≡ length fans + 1 = omega arith in
      ap (λ n. walk n fans (evaluation_order fans) [] at) fuel
      ∙ ap (λ j. walk (length fans + 1) fans (evaluation_order fans) [] j) first;
}

-- the first pin that reads the net of an unlisted node is that of the blocker
pub blocker_from : (base : ℕ) (marks : List Bool) (listed : List ℕ) (many : ℕ) (reads : List ℕ) (stop : ℕ) → ((k : ℕ) → k < many → bit marks k ≡ has_place listed k)
    → All (λ k. k < many) (fan_in base reads) → stop < length reads
    → ((pin : ℕ) → pin < stop → is_passed base marks (slice_index reads pin) ≡ true) → is_passed base marks (slice_index reads stop) ≡ false
    → slice_index reads stop - base ≡ blocker listed (fan_in base reads)
blocker_from base marks listed many [] stop same all h passed stopped = absurd (omega arith)
blocker_from base marks listed many (net ∷ reads) zero same all h passed stopped =
    let parts = or_parts (nat_lt net base) (bit marks (net - base)) stopped in by (nat_lt net base) parts.0 all (λ below. sym (same (net - base) below) ∙ parts.1)
  where
    by : (b : Bool) → b ≡ false → All (λ k. k < many) (if b then fan_in base reads else (net - base) ∷ fan_in base reads)
        → (net - base < many → has_place listed (net - base) ≡ false)
        → net - base ≡ blocker listed (if b then fan_in base reads else (net - base) ∷ fan_in base reads)
    by true e within unlisted = absurd (true≢false e)
    by false e within unlisted =
        sym (ap (λ t. if t then blocker listed (fan_in base reads) else net - base)
        (unlisted (All-head (λ k. k < many) (net - base) (fan_in base reads) within)))
blocker_from base marks listed many (net ∷ reads) (suc stop) same all h passed stopped =
    by (nat_lt net base) (passed 0 (omega arith)) all
    (λ rest. blocker_from base marks listed many reads stop same rest (omega arith) (λ pin below. passed (suc pin) (omega arith)) stopped)
  where
    goal : List ℕ → Type 0
    goal fan = slice_index reads stop - base ≡ blocker listed fan

    by : (b : Bool) → b || bit marks (net - base) ≡ true → All (λ k. k < many) (if b then fan_in base reads else (net - base) ∷ fan_in base reads)
        → (All (λ k. k < many) (fan_in base reads) → goal (fan_in base reads)) → goal (if b then fan_in base reads else (net - base) ∷ fan_in base reads)
    by true here within rest = rest within
    by false here within rest =
        rest (All-tail (λ k. k < many) (net - base) (fan_in base reads) within)
        ∙ sym (ap (λ t. if t then blocker listed (fan_in base reads) else net - base)
        (sym (same (net - base) (All-head (λ k. k < many) (net - base) (fan_in base reads) within)) ∙ here))

-- where no pin does, there is none
pub blocker_passed : (base : ℕ) (marks : List Bool) (listed : List ℕ) (many : ℕ) (reads : List ℕ) → ((k : ℕ) → k < many → bit marks k ≡ has_place listed k)
    → All (λ k. k < many) (fan_in base reads) → ((pin : ℕ) → pin < length reads → is_passed base marks (slice_index reads pin) ≡ true)
    → 0 ≡ blocker listed (fan_in base reads)
blocker_passed base marks listed many [] same all passed = refl
blocker_passed base marks listed many (net ∷ reads) same all passed =
    by (nat_lt net base) (passed 0 (omega arith)) all (λ rest. blocker_passed base marks listed many reads same rest (λ pin h. passed (suc pin) (omega arith)))
  where
    by : (b : Bool) → b || bit marks (net - base) ≡ true → All (λ k. k < many) (if b then fan_in base reads else (net - base) ∷ fan_in base reads)
        → (All (λ k. k < many) (fan_in base reads) → 0 ≡ blocker listed (fan_in base reads))
        → 0 ≡ blocker listed (if b then fan_in base reads else (net - base) ∷ fan_in base reads)
    by true here within rest = rest within
    by false here within rest =
        rest (All-tail (λ k. k < many) (net - base) (fan_in base reads) within)
        ∙ sym (ap (λ t. if t then blocker listed (fan_in base reads) else net - base)
        (sym (same (net - base) (All-head (λ k. k < many) (net - base) (fan_in base reads) within)) ∙ here))
