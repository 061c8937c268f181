-- A whole evaluation order lists each node once, after the nodes that it reads, and so there is no ring.
use Rattle.std.proofs.Common.{◌≡◌, ◌≢◌, ℕ, zero, suc, ◌+◌, ◌-◌, ◌<◌, ◌≤◌, ◌==◌, ◌⊎◌, Bool, true, false, not, cond, ◌&&◌, ◌||◌, List, [], ◌∷◌, ◌++◌, length, All, Contains, slice_index, slice_index_or, Option, Some, None, refl, sym, ap, ◌∙◌, subst, arith, if◌then◌else◌, nat_lt, eqb, inl, inr, length-append, true≢false, AllPairs}
use Rattle.std.specs.List.{list_any, list_all}
use Rattle.std.proofs.lemmas.Bool.{cases_lt, lt-ltb, eqb-true}
use Rattle.std.proofs.lemmas.Bool.Decides.{nat_tests, Decides-eqb}
use Rattle.std.proofs.lemmas.List.Elements.{All-nil, All-cons, All-push, All-contains, Contains-get_or, Contains-append_right}
use Rattle.std.proofs.lemmas.List.Folds.{position_or_len_push}
use Rattle.std.proofs.lemmas.List.{get_or-map, get_or_append_left, length-map}
use Rattle.std.proofs.lemmas.Map.Made.{IsDistinct-from_AllPairs}
use Rattle.std.proofs.lemmas.Map.Views.{Contains-from_any}
use Rattle.std.proofs.lemmas.List.Sums.{AllPass-from_list_all}
use Rattle.std.proofs.lemmas.Map.Steps.{length-le_from_distinct_below}
use Rattle.fault_secure.specs.Circuit.{Circuit, node, node_net, pin_net, no_node}
use Rattle.fault_secure.specs.Settle.{Acyclic}
use Rattle.tsc_net.specs.Order.{has_place, fan_in, fan_ins, next_from, next_node, order_from, evaluation_order, has_whole_order, place_in, IsOrder}

-- the net at a pin that no input or latch gives is in the fan-in
pub fan_in-has : (base : ℕ) (reads : List ℕ) (pin : ℕ) → pin < length reads → base ≤ slice_index reads pin
    → Contains (fan_in base reads) (slice_index reads pin - base)
fan_in-has base [] pin h past = absurd (omega arith)
fan_in-has base (net ∷ reads) zero h past =
    let low : nat_lt net base ≡ false = grind (arith, nat_tests) in
    rw low (Contains-get_or ((net - base) ∷ fan_in base reads) 0 0 (omega arith))
fan_in-has base (net ∷ reads) (suc pin) h past =
    by (nat_lt net base) (fan_in-has base reads pin (omega arith) past)
  where
    by : (b : Bool) → Contains (fan_in base reads) (slice_index reads pin - base)
        → Contains (if b then fan_in base reads else (net - base) ∷ fan_in base reads) (slice_index reads pin - base)
    by true rest = rest
    by false rest = Contains-append_right ((net - base) ∷ []) (fan_in base reads) (slice_index reads pin - base) rest

-- what an order ranks
module _ (C : Circuit) (order : List ℕ) (whole : IsOrder (fan_ins C) order) where
  base : ℕ
  base = C.inputs + length C.latches

  rank : ℕ → ℕ
  rank net = if nat_lt net base then 0 else place_in order (net - base) + 1

  rank_above : (j pin : ℕ) → j < length C.nodes → pin < length (node C j).reads → rank (pin_net C j pin) < rank (node_net C j)
  unfolding base rank
  rank_above j pin hj hp =
      let node_past : nat_lt (base + j) base ≡ false = grind (arith, nat_tests) in
      let node_place : (base + j) - base ≡ j = omega arith in
      elim (cases_lt (pin_net C j pin) base) [
        | inl below ↦ rw (lt-ltb (pin_net C j pin) base below, node_past) (omega arith)
        | inr past ↦
            let pin_past : nat_lt (pin_net C j pin) base ≡ false = grind (arith, nat_tests) in
            let many : j < length (fan_ins C) = omega (arith, length-map C.nodes (λ n. fan_in base n.reads)) in
            let fans : slice_index_or (fan_ins C) j [] ≡ fan_in base (node C j).reads =
            get_or-map (λ n. fan_in base n.reads) C.nodes j no_node [] hj in
            let earlier : place_in order (pin_net C j pin - base) < place_in order j =
            whole.after j (pin_net C j pin - base) many
            (subst (λ l. Contains l (pin_net C j pin - base)) (sym fans) (fan_in-has base (node C j).reads pin hp past)) in
            rw (pin_past, node_past, node_place) (omega arith)
      ]

  pub acyclic_from_order : Acyclic C
  acyclic_from_order = record { rank = rank; ranks = record { above = rank_above } }

-- places in a list at whose end a node is put
place_in-push : (listed : List ℕ) (y x : ℕ) → place_in (listed ++ y ∷ []) x
    ≡ cond (eqb (place_in listed x) (length listed)) (length listed + cond (y == x) 0 1) (place_in listed x)
place_in-push listed y x = position_or_len_push (λ k. k == x) listed y

place_in-kept : (listed : List ℕ) (y x : ℕ) → place_in listed x < length listed → place_in (listed ++ y ∷ []) x ≡ place_in listed x
place_in-kept listed y x h =
    let apart : eqb (place_in listed x) (length listed) ≡ false = grind (arith, nat_tests) in
    place_in-push listed y x ∙ ap (λ b. cond b (length listed + cond (y == x) 0 1) (place_in listed x)) apart

place_in-new : (listed : List ℕ) (y : ℕ) → place_in listed y ≡ length listed → place_in (listed ++ y ∷ []) y ≡ length listed
place_in-new listed y e =
    let same : eqb (place_in listed y) (length listed) ≡ true = grind (arith, nat_tests) in
    let itself : (y == y) ≡ true = grind (arith, nat_tests) in
    place_in-push listed y y
    ∙ ap (λ b. cond b (length listed + cond (y == y) 0 1) (place_in listed y)) same
    ∙ ap (λ b. length listed + cond b 0 1) itself ∙ omega arith

-- a node that stands in the longer list stood in the shorter one or is the new one
place_in-cases : (listed : List ℕ) (y x : ℕ) → place_in (listed ++ y ∷ []) x < length listed + 1 → (place_in listed x < length listed) ⊎ (y ≡ x)
place_in-cases listed y x h = by (eqb (place_in listed x) (length listed)) refl
  where
    at_end : (c : Bool) → (y == x) ≡ c → length listed + cond c 0 1 < length listed + 1 → y ≡ x
    at_end true e g = eqb-true y x e
    at_end false e g = absurd (omega arith)

    by : (b : Bool) → eqb (place_in listed x) (length listed) ≡ b → (place_in listed x < length listed) ⊎ (y ≡ x)
    by true e =
        let there : length listed + cond (y == x) 0 1 < length listed + 1 =
        subst (λ n. n < length listed + 1) (place_in-push listed y x ∙ ap (λ b. cond b (length listed + cond (y == x) 0 1) (place_in listed x)) e) h in
        inr (at_end (y == x) refl there)
    by false e =
        let there : place_in listed x < length listed + 1 =
        subst (λ n. n < length listed + 1) (place_in-push listed y x ∙ ap (λ b. cond b (length listed + cond (y == x) 0 1) (place_in listed x)) e) h in
        inl (grind (arith, nat_tests))

-- what stands in a list has a place there
place_in-has : (listed : List ℕ) (x : ℕ) → has_place listed x ≡ true → place_in listed x < length listed
place_in-has [] x e = cc
place_in-has (k ∷ listed) x e = by (k == x) refl (place_in-has listed x)
  where
    by : (b : Bool) → (k == x) ≡ b → (has_place listed x ≡ true → place_in listed x < length listed) → place_in (k ∷ listed) x < suc (length listed)
    by true h rest = rw h (omega arith)
    by false h rest =
        let later : place_in listed x < length listed = rest (sym (ap (λ b. b || has_place listed x) h) ∙ e) in
        rw h (omega arith)

place_in-hasnt : (listed : List ℕ) (x : ℕ) → has_place listed x ≡ false → place_in listed x ≡ length listed
place_in-hasnt [] x e = refl
place_in-hasnt (k ∷ listed) x e = by (k == x) refl (place_in-hasnt listed x)
  where
    by : (b : Bool) → (k == x) ≡ b → (has_place listed x ≡ false → place_in listed x ≡ length listed) → place_in (k ∷ listed) x ≡ suc (length listed)
    by true h rest = absurd (true≢false (sym (ap (λ b. b || has_place listed x) h) ∙ e))
    by false h rest =
        let later : place_in listed x ≡ length listed = rest (sym (ap (λ b. b || has_place listed x) h) ∙ e) in
        rw h (omega arith)

-- in range the default doesn't count
default_free : (xs : List ℕ) (i d : ℕ) → i < length xs → slice_index_or xs i d ≡ slice_index xs i
default_free [] i d h = absurd (omega arith)
default_free (x ∷ xs) zero d h = refl
default_free (x ∷ xs) (suc i) d h = default_free xs i d (omega arith)

-- nodes listed so far: each is one, once, after the nodes that it reads
record IsListed (fans : List (List ℕ)) (listed : List ℕ) : Type 0 where
  within : All (λ j. j < length fans) listed
  once : (place : ℕ) → place < length listed → place_in listed (slice_index listed place) ≡ place
  after : (j k : ℕ) → place_in listed j < length listed → Contains (slice_index_or fans j []) k → place_in listed k < place_in listed j

-- what the next node is
record IsNext (fans : List (List ℕ)) (listed : List ℕ) (j : ℕ) : Type 0 where
  is_node : j < length fans
  unlisted : has_place listed j ≡ false
  reads_listed : (k : ℕ) → Contains (slice_index_or fans j []) k → has_place listed k ≡ true

contains_all : (p : ℕ → Bool) (xs : List ℕ) → list_all p xs ≡ true → (k : ℕ) → Contains xs k → p k ≡ true
contains_all p xs e k h = All-contains (λ x. p x ≡ true) xs k (AllPass-from_list_all p xs e) h

next_from-is : (fans : List (List ℕ)) (listed : List ℕ) (rest : List (List ℕ)) (at j : ℕ)
    → length fans ≡ at + length rest → ((i : ℕ) → i < length rest → slice_index_or fans (at + i) [] ≡ slice_index_or rest i [])
    → next_from listed at rest ≡ Some j → IsNext fans listed j
next_from-is fans listed [] at j many same e = cc
next_from-is fans listed (reads ∷ rest) at j many same e =
    by (has_place listed at) refl (list_all (has_place listed) reads) refl
    (next_from-is fans listed rest (at + 1) j (omega arith)
    (λ i h. subst (λ n. slice_index_or fans n [] ≡ slice_index_or rest i []) (omega arith) (same (suc i) (omega arith))))
  where
    here : slice_index_or fans at [] ≡ reads
    here = subst (λ n. slice_index_or fans n [] ≡ reads) (omega arith) (same zero (omega arith))

    found : has_place listed at ≡ false → list_all (has_place listed) reads ≡ true → at ≡ j → IsNext fans listed j
    found a b same_place = subst (λ n. IsNext fans listed n) same_place (record {
      is_node = omega arith;
      unlisted = a;
      reads_listed = λ k h. contains_all (has_place listed) reads b k (subst (λ l. Contains l k) here h);
    })

    by : (b : Bool) → has_place listed at ≡ b → (c : Bool) → list_all (has_place listed) reads ≡ c
        → (next_from listed (at + 1) rest ≡ Some j → IsNext fans listed j) → IsNext fans listed j
    by true a c d later = later (sym (ap (λ b. if not b && list_all (has_place listed) reads then Some at else next_from listed (at + 1) rest) a) ∙ e)
    by false a true d later =
        found a d (let step : Some at ≡ Some j =
        sym (ap (λ b. if not b && list_all (has_place listed) reads then Some at else next_from listed (at + 1) rest) a
        ∙ ap (λ b. if b then Some at else next_from listed (at + 1) rest) d) ∙ e in cc)
    by false a false d later =
        later (sym (ap (λ b. if not b && list_all (has_place listed) reads then Some at else next_from listed (at + 1) rest) a
        ∙ ap (λ b. if b then Some at else next_from listed (at + 1) rest) d) ∙ e)

-- one node more
listed-push : (fans : List (List ℕ)) (listed : List ℕ) (j : ℕ) → IsListed fans listed → IsNext fans listed j → IsListed fans (listed ++ j ∷ [])
listed-push fans listed j h next =
    let many = length-append listed (j ∷ []) in
    let new = place_in-hasnt listed j next.unlisted in
    record {
      within = All-push (λ j. j < length fans) listed j h.within next.is_node;
      once = λ place hp. elim (cases_lt place (length listed)) [
        | inl below ↦
            let old : place_in listed (slice_index listed place) < length listed = omega (arith, h.once place below) in
            rw (get_or_append_left listed (j ∷ []) 0 place below) (place_in-kept listed j (slice_index listed place) old ∙ h.once place below)
        | inr past ↦
            let last : place ≡ length listed = omega arith in
            rw last (ap (place_in (listed ++ j ∷ [])) (slice_last listed j) ∙ place_in-new listed j new)
      ];
      after = λ x k hx reads. elim (place_in-cases listed j x (omega arith)) [
        | inl old ↦
            let earlier = h.after x k old reads in
            let kept : place_in listed k < length listed = omega arith in
            rw (place_in-kept listed j k kept, place_in-kept listed j x old) earlier
        | inr same ↦
            let reads_j : Contains (slice_index_or fans j []) k = subst (λ n. Contains (slice_index_or fans n []) k) (sym same) reads in
            let there = place_in-has listed k (next.reads_listed k reads_j) in
            let at_end : place_in (listed ++ j ∷ []) x ≡ length listed = subst (λ n. place_in (listed ++ j ∷ []) n ≡ length listed) same (place_in-new listed j new) in
            rw (place_in-kept listed j k there, at_end) there
      ];
    }
  where
    slice_last : (xs : List ℕ) (y : ℕ) → slice_index (xs ++ y ∷ []) (length xs) ≡ y
    slice_last [] y = refl
    slice_last (x ∷ xs) y = slice_last xs y

-- as many nodes as there are, each once: each stands there
each_stands : (fans : List (List ℕ)) (order : List ℕ) → IsListed fans order → length order ≡ length fans
    → (j : ℕ) → j < length fans → place_in order j < length order
each_stands fans order all sized j hj = elim (cases_lt (place_in order j) (length order)) [
  | inl there ↦ there
  | inr past ↦
      let too_many : length (j ∷ order) ≤ length fans =
      length-le_from_distinct_below (j ∷ order) (length fans) (IsDistinct-from_AllPairs Decides-eqb (j ∷ order) (apart past)) below in
      absurd (omega arith)
]
  where
    apart : length order ≤ place_in order j → AllPairs (λ x y. x ≢ y) (j ∷ order)
    apart past zero (suc b) d h hb same =
        let at : place_in order j ≡ b = subst (λ n. place_in order n ≡ b) (sym (same ∙ default_free order b d (omega arith))) (all.once b (omega arith)) in
        omega arith
    apart past (suc a) (suc b) d h hb same =
        let first = all.once a (omega arith) in
        let second = all.once b (omega arith) in
        let equal : slice_index order a ≡ slice_index order b = sym (default_free order a d (omega arith)) ∙ same ∙ default_free order b d (omega arith) in
        let places : a ≡ b = sym first ∙ ap (place_in order) equal ∙ second in
        omega arith
    apart past zero zero d h hb same = omega arith
    apart past (suc a) zero d h hb same = omega arith

    below : (q : ℕ) → list_any (eqb q) (j ∷ order) ≡ true → q < length fans
    below q e = All-contains (λ k. k < length fans) (j ∷ order) q (All-cons (λ k. k < length fans) j order hj all.within)
        (Contains-from_any (λ x y h. eqb-true x y h) q (j ∷ order) e)

-- the whole order
listed-order : (most : ℕ) (fans : List (List ℕ)) (listed : List ℕ) → IsListed fans listed → IsListed fans (order_from most fans listed)
listed-order zero fans listed h = h
listed-order (suc most) fans listed h = by (next_node fans listed) refl (λ more g. listed-order most fans more g)
  where
    by : (r : Option ℕ) → next_node fans listed ≡ r → ((more : List ℕ) → IsListed fans more → IsListed fans (order_from most fans more))
        → IsListed fans (elim r [ None ↦ listed | Some j ↦ order_from most fans (listed ++ j ∷ []) ])
    by None e go = h
    by (Some j) e go = go (listed ++ j ∷ []) (listed-push fans listed j h (next_from-is fans listed fans 0 j (omega arith) (λ i g. let same : 0 + i ≡ i = omega arith in ap (λ n. slice_index_or fans n []) same) e))

pub whole_is_order : (fans : List (List ℕ)) → has_whole_order fans ≡ true → IsOrder fans (evaluation_order fans)
whole_is_order fans e =
    let order = evaluation_order fans in
    let none : IsListed fans [] = record { within = All-nil (λ j. j < length fans); once = λ place h. absurd (omega arith); after = λ j k h reads. absurd (omega arith) } in
    let all : IsListed fans order = listed-order (length fans) fans [] none in
    let sized : length order ≡ length fans = eqb-true (length order) (length fans) e in
    let each : (j : ℕ) → j < length fans → place_in order j < length order = each_stands fans order all sized in
    record { sized = sized; within = all.within; each = each; once = all.once; after = λ j k hj reads. all.after j k (each j hj) reads }
