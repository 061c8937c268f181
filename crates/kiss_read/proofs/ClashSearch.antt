-- The search for the first conflict, one row after the other.
use Rattle.std.proofs.Common.{◌≡◌, ◌≢◌, ◌⊎◌, ℕ, zero, suc, ◌+◌, ◌<◌, ◌≤◌, min, Bool, true, false, not, cond, List, [], ◌∷◌, ◌++◌, length, take, drop, set, position, Option, None, Some, All, Contains, refl, sym, ap, ◌∙◌, subst, inl, inr, arith, eqb-true, get_or-set_other, get_or-set_same}
use Rattle.std.specs.List.{position_or_len}
use Rattle.std.proofs.lemmas.Bool.{and_parts, cases_Bool, cases_eq, cases_lt, lt-ltb, le-ltb, true≢false}
use Rattle.std.proofs.lemmas.List.{drop_more, get_or-take, length-set, length-take-le, take_more}
use Rattle.std.proofs.lemmas.List.Elements.{All-contains, All-nil, All-push, All-weaker, Contains-append_left, Contains-push}
use Rattle.fault_secure.specs.Logic.{Transition}
use Rattle.tsc_net.specs.Overlap.{inputs_meet, overlap, share_state}
use Rattle.tsc_bits.specs.Lists.{list_at}
use Rattle.kiss_read.specs.Conflict.{clash_or, conflict, first_clash, first_clash_behind}
use Rattle.kiss_read.specs.Clashes.{conflict_at, lesser, no_transition, slot_of, the_row, AreGrouped, IsLeastBelow, IsLeastIn}

-- ---- the least of some places

module _ (test : ℕ → Bool) (places : List ℕ) (place : ℕ) where
  abbrev more : List ℕ
  more = places ++ place ∷ []

  abbrev Above : ℕ → ℕ → Type 0
  Above least k = test k ≡ true → least ≤ k

  abbrev Fails : ℕ → Type 0
  Fails k = test k ≡ false

  pub least_passed : (least : Option ℕ) → test place ≡ false → IsLeastIn test places least → IsLeastIn test more least
  least_passed None e h = All-push Fails places place h e
  least_passed (Some least) e h =
      (h.0, Contains-append_left places (place ∷ []) least h.1, All-push (Above least) places place h.2 (λ t. absurd (true≢false (sym t ∙ e))))

  least_new : test place ≡ true → IsLeastIn test places None → IsLeastIn test more (Some place)
  least_new t h = (
    t,
    Contains-push places place,
    All-push (Above place) places place (All-weaker Fails (Above place) (λ k f u. absurd (true≢false (sym u ∙ f))) places h) (λ u. omega arith),
  )

  least_kept : (other : ℕ) → other ≤ place → IsLeastIn test places (Some other) → IsLeastIn test more (Some other)
  least_kept other le h =
      (h.0, Contains-append_left places (place ∷ []) other h.1, All-push (Above other) places place h.2 (λ t. le))

  least_moved : (other : ℕ) → place < other → test place ≡ true → IsLeastIn test places (Some other) → IsLeastIn test more (Some place)
  least_moved other lt t h = (
    t,
    Contains-push places place,
    All-push (Above place) places place (All-weaker (Above other) (Above place) (λ k f u. let g = f u in omega arith) places h.2) (λ u. omega arith),
  )

  pub least_lesser : (least : Option ℕ) → test place ≡ true → IsLeastIn test places least → IsLeastIn test more (lesser least (Some place))
  least_lesser None t h = least_new t h
  least_lesser (Some other) t h = elim (cases_lt place other) [
    | inl lt ↦
        let e : min other place ≡ place = omega arith in
        subst (λ k. IsLeastIn test more (Some k)) (sym e) (least_moved other lt t h)
    | inr ge ↦
        let e : min other place ≡ other = omega arith in
        subst (λ k. IsLeastIn test more (Some k)) (sym e) (least_kept other ge h)
  ]

-- of two lists that have all places below a count at which the test may pass
module _ (test : ℕ → Bool) (a b : List ℕ) (count : ℕ) (a_below : All (λ k. k < count) a) (b_below : All (λ k. k < count) b)
    (covered : (k : ℕ) → k < count → test k ≡ true → Contains a k ⊎ Contains b k) where
  abbrev Fails2 : ℕ → Type 0
  Fails2 k = test k ≡ false

  abbrev Above2 : ℕ → ℕ → Type 0
  Above2 least k = test k ≡ true → least ≤ k

  abbrev Under : ℕ → Type 0
  Under k = k < count

  pub least_of_both : (x y : Option ℕ) → IsLeastIn test a x → IsLeastIn test b y → IsLeastBelow test count (lesser x y)
  least_of_both None None h g = λ k below. elim (cases_Bool (test k)) [
    | inl t ↦ elim (covered k below t) [
      | inl in_a ↦ All-contains Fails2 a k h in_a
      | inr in_b ↦ All-contains Fails2 b k g in_b
    ]
    | inr f ↦ f
  ]
  least_of_both None (Some y) h g = (
    All-contains Under b y b_below g.1,
    g.0,
    λ k lt. elim (cases_Bool (test k)) [
      | inl t ↦
          let under = All-contains Under b y b_below g.1 in
          elim (covered k (omega arith) t) [
            | inl in_a ↦ All-contains Fails2 a k h in_a
            | inr in_b ↦ (let le : y ≤ k = All-contains (Above2 y) b k g.2 in_b t in absurd (omega arith))
          ]
      | inr f ↦ f
    ],
  )
  least_of_both (Some x) None h g = (
    All-contains Under a x a_below h.1,
    h.0,
    λ k lt. elim (cases_Bool (test k)) [
      | inl t ↦
          let under = All-contains Under a x a_below h.1 in
          elim (covered k (omega arith) t) [
            | inl in_a ↦ (let le : x ≤ k = All-contains (Above2 x) a k h.2 in_a t in absurd (omega arith))
            | inr in_b ↦ All-contains Fails2 b k g in_b
          ]
      | inr f ↦ f
    ],
  )
  least_of_both (Some x) (Some y) h g = (
    below_min,
    passes_min,
    λ k lt. elim (cases_Bool (test k)) [
      | inl t ↦
          let under = below_min in
          elim (covered k (omega arith) t) [
            | inl in_a ↦ (let le : x ≤ k = All-contains (Above2 x) a k h.2 in_a t in absurd (omega arith))
            | inr in_b ↦ (let le : y ≤ k = All-contains (Above2 y) b k g.2 in_b t in absurd (omega arith))
          ]
      | inr f ↦ f
    ],
  )
    where
      below_min : min x y < count
      below_min = let p = All-contains Under a x a_below h.1 in let q = All-contains Under b y b_below g.1 in omega arith

      passes_min : test (min x y) ≡ true
      passes_min = elim (cases_lt x y) [
        | inl lt ↦ (let e : min x y ≡ x = omega arith in ap test e ∙ h.0)
        | inr ge ↦ (let e : min x y ≡ y = omega arith in ap test e ∙ g.0)
      ]

-- ---- what stands in the lists

shares : (later earlier : Transition) → conflict later earlier ≡ true → share_state later.from earlier.from ≡ true
shares later earlier e =
    let overlaps = and_parts (overlap later earlier) _ e in
    (and_parts (share_state later.from earlier.from) (inputs_meet later.input earlier.input) overlaps.0).0

slot_shared : (states state : ℕ) (from other : Option ℕ) → from ≡ Some state → share_state from other ≡ true
    → (slot_of states other ≡ state) ⊎ (slot_of states other ≡ states)
slot_shared states state None other e h = cc
slot_shared states state (Some q) None e h = inr refl
slot_shared states state (Some q) (Some other) e h =
    let first : q ≡ other = eqb-true q other h in
    let second : q ≡ state = cc in
    inl (sym first ∙ second)

module _ (rows : List Transition) (states count : ℕ) (lists : List (List ℕ)) (grouped : AreGrouped rows states count lists) where
  -- a row that conflicts with one that starts at a state stands in that state's list or in the last one
  pub covered : (later state : ℕ) → (the_row rows later).from ≡ Some state → (k : ℕ) → k < count → conflict_at rows later k ≡ true
      → Contains (list_at lists state) k ⊎ Contains (list_at lists states) k
  covered later state e k below t =
      let P : ℕ → Type 0 = λ slot. Contains (list_at lists slot) k in
      elim (slot_shared states state (the_row rows later).from (the_row rows k).from e (shares (the_row rows later) (the_row rows k) t)) [
        | inl same ↦ inl (subst P same (grouped.kept k below))
        | inr every ↦ inr (subst P every (grouped.kept k below))
      ]

  pub one_more : (slot : ℕ) (after : List (List ℕ)) → slot < length lists → slot ≡ slot_of states (the_row rows count).from
      → after ≡ set lists slot (list_at lists slot ++ count ∷ []) → AreGrouped rows states (count + 1) after
  one_more slot after inside is made = record {
    sized = ap length made ∙ length-set lists slot (list_at lists slot ++ count ∷ []) ∙ grouped.sized;
    kept = λ place below. elim (cases_lt place count) [
      | inl lt ↦ earlier place lt
      | inr ge ↦ (let e : place ≡ count = omega arith in subst (λ p. Contains (list_at after (slot_of states (the_row rows p).from)) p) (sym e) here)
    ];
    below = λ other. elim (cases_eq other slot) [
      | inl e ↦ subst (λ s. All Under3 (list_at after s)) (sym e)
          (subst (All Under3) (sym at_slot) (All-push Under3 (list_at lists slot) count (All-weaker Under2 Under3 (λ k lt. omega arith) (list_at lists slot) (grouped.below slot)) (omega arith)))
      | inr ne ↦ subst (All Under3) (sym (at_other other ne)) (All-weaker Under2 Under3 (λ k lt. omega arith) (list_at lists other) (grouped.below other))
    ];
  }
    where
      Under2 : ℕ → Type 0
      Under2 k = k < count

      Under3 : ℕ → Type 0
      Under3 k = k < count + 1

      at_slot : list_at after slot ≡ list_at lists slot ++ count ∷ []
      at_slot = ap (λ ls. list_at ls slot) made ∙ get_or-set_same lists slot (list_at lists slot ++ count ∷ []) [] inside

      at_other : (other : ℕ) → other ≢ slot → list_at after other ≡ list_at lists other
      at_other other ne = ap (λ ls. list_at ls other) made ∙ get_or-set_other lists slot other (list_at lists slot ++ count ∷ []) [] ne

      here : Contains (list_at after (slot_of states (the_row rows count).from)) count
      here = subst (λ s. Contains (list_at after s) count) is (subst (λ xs. Contains xs count) (sym at_slot) (Contains-push (list_at lists slot) count))

      earlier : (place : ℕ) → place < count → Contains (list_at after (slot_of states (the_row rows place).from)) place
      earlier place lt =
          let s = slot_of states (the_row rows place).from in
          elim (cases_eq s slot) [
            | inl e ↦ subst (λ t. Contains (list_at after t) place) (sym e)
                (subst (λ xs. Contains xs place) (sym at_slot) (Contains-append_left (list_at lists slot) (count ∷ []) place (subst (λ t. Contains (list_at lists t) place) e (grouped.kept place lt))))
            | inr ne ↦ subst (λ xs. Contains xs place) (sym (at_other s ne)) (grouped.kept place lt)
          ]

pub none_grouped : (rows : List Transition) (states : ℕ) (lists : List (List ℕ)) → length lists ≡ states + 1 → ((slot : ℕ) → list_at lists slot ≡ []) → AreGrouped rows states 0 lists
none_grouped rows states lists sized empty = record {
  sized = sized;
  kept = λ place below. absurd (omega arith);
  below = λ slot. subst (All (λ k. k < 0)) (sym (empty slot)) (All-nil (λ k. k < 0));
}

-- ---- the first place that passes a test

place_is : (p : Transition → Bool) (xs : List Transition) (k : ℕ) → k < length xs → p (the_row xs k) ≡ true → ((j : ℕ) → j < k → p (the_row xs j) ≡ false) → position_or_len p xs ≡ k
place_is p [] k h t f = absurd (omega arith)
place_is p (x ∷ xs) zero h t f = ap (λ b. cond (not b) (1 + position_or_len p xs) 0) t
place_is p (x ∷ xs) (suc k) h t f =
    ap (λ b. cond (not b) (1 + position_or_len p xs) 0) (f 0 (omega arith))
    ∙ ap (λ n. 1 + n) (place_is p xs k (omega arith) t (λ j lt. f (suc j) (omega arith)))
    ∙ (let e : 1 + k ≡ suc k = omega arith in e)

no_place : (p : Transition → Bool) (xs : List Transition) → ((j : ℕ) → j < length xs → p (the_row xs j) ≡ false) → position_or_len p xs ≡ length xs
no_place p [] f = refl
no_place p (x ∷ xs) f =
    ap (λ b. cond (not b) (1 + position_or_len p xs) 0) (f 0 (omega arith))
    ∙ ap (λ n. 1 + n) (no_place p xs (λ j lt. f (suc j) (omega arith)))
    ∙ (let e : 1 + length xs ≡ suc (length xs) = omega arith in e)

position_of : (p : Transition → Bool) (rows : List Transition) (count : ℕ) (found : Option ℕ) → count ≤ length rows
    → IsLeastBelow (λ k. p (the_row rows k)) count found → position p (take count rows) ≡ found
position_of p rows count None le h =
    let sized : length (take count rows) ≡ count = length-take-le count rows le in
    let past : position_or_len p (take count rows) ≡ length (take count rows) =
    no_place p (take count rows) (λ j lt. ap p (get_or-take count rows j no_transition (omega arith)) ∙ h j (omega arith)) in
    ap (λ b. cond b (Some (position_or_len p (take count rows))) None) (le-ltb _ _ (omega arith))
position_of p rows count (Some k) le h =
    let sized : length (take count rows) ≡ count = length-take-le count rows le in
    let lt : k < count = h.0 in
    let here : position_or_len p (take count rows) ≡ k =
    place_is p (take count rows) k (omega arith) (ap p (get_or-take count rows k no_transition h.0) ∙ h.1)
    (λ j less. ap p (get_or-take count rows j no_transition (omega arith)) ∙ h.2 j less) in
    ap (λ b. cond b (Some (position_or_len p (take count rows))) None) (lt-ltb _ _ (omega arith)) ∙ ap Some here

-- ---- one row after the other
module _ (rows : List Transition) (later : ℕ) (below : later < length rows) where
  abbrev row : Transition
  row = the_row rows later

  abbrev before : List Transition
  before = take later rows

  at_row : first_clash_behind before (drop later rows)
      ≡ clash_or (position (conflict row) before) (length before) (first_clash_behind (before ++ row ∷ []) (drop (later + 1) rows))
  at_row = ap (first_clash_behind before) (drop_more rows later no_transition below)

  pub clash_here : (earlier : ℕ) → IsLeastBelow (conflict_at rows later) later (Some earlier) → first_clash rows ≡ first_clash_behind before (drop later rows)
      → first_clash rows ≡ Some (record { earlier = earlier; later = later })
  clash_here earlier least is =
      is ∙ at_row
      ∙ ap (λ o. clash_or o (length before) (first_clash_behind (before ++ row ∷ []) (drop (later + 1) rows))) (position_of (conflict row) rows later (Some earlier) (omega arith) least)
      ∙ ap (λ n. Some (record { earlier = earlier; later = n })) (length-take-le later rows (omega arith))

  pub clash_later : IsLeastBelow (conflict_at rows later) later None → first_clash rows ≡ first_clash_behind before (drop later rows)
      → first_clash rows ≡ first_clash_behind (take (later + 1) rows) (drop (later + 1) rows)
  clash_later least is =
      is ∙ at_row
      ∙ ap (λ o. clash_or o (length before) (first_clash_behind (before ++ row ∷ []) (drop (later + 1) rows))) (position_of (conflict row) rows later None (omega arith) least)
      ∙ ap (λ list. first_clash_behind list (drop (later + 1) rows)) (sym (take_more rows later no_transition below))

-- a row of a table has a list
pub slot_within : (states slots slot : ℕ) (from : Option ℕ) → slots ≡ states + 1 → slot ≡ slot_of states from → ((q : ℕ) → from ≡ Some q → q < states) → slot < slots
slot_within states slots slot None e is within = omega arith
slot_within states slots slot (Some q) e is within = let h = within q refl in omega arith
