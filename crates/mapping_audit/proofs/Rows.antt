-- Words of bits: putting values, clearing nets, what gates and covers make of the bits, point by point.
use Rattle.std.proofs.Common.{◌≡◌, ℕ, zero, suc, ◌+◌, ◌-◌, ◌%◌, ◌^◌, ◌<◌, ◌==◌, ◌||◌, inl, inr, Bool, true, false, List, [], ◌∷◌, ◌++◌, length, map, drop, replicate, slice_index, slice_index_or, slice_set, get_or, set, All, ◌↔◌, if◌then◌else◌, refl, sym, ◌∙◌, ap, ap₂, subst, arith, add-one}
use Rattle.std.proofs.Math.Seq.{drop-cons}
use Rattle.std.proofs.lemmas.Bool.{cases_lt, cases_eq}
use Rattle.std.proofs.lemmas.Grind.{common_steps}
use Rattle.std.proofs.lemmas.Simd.{map-map}
use Rattle.std.proofs.lemmas.List.{set-set, set_comm, set-get_or, get_or-replicate, get_or_past, length-replicate, length-map, get_or-map, map-set}
use Rattle.std.proofs.lemmas.List.Elements.{All-head, All-tail, All-get_or, All-weaker, All-push, All-nil, All-map, All-from_get_or}
use Rattle.std.proofs.lemmas.List.Folds.{list_any-append}
use Rattle.tsc_bits.specs.Bits.{bits_of, bit_worth}
use Rattle.tsc_bits.proofs.Bits.{bits_of-mod, bit_worth-zero}
use Rattle.tsc_bits.proofs.Bools.{or-true}
use Rattle.tsc_cover.specs.Cover.{CoverTable, truth}
use Rattle.fault_secure.specs.Circuit.{Circuit, NodeOf, node, node_net, nets, bit, no_node}
use Rattle.fault_secure.specs.Closed.{IsClosed}
use Rattle.fault_secure.proofs.GateLemmas.{read_values-no_fault}
use Rattle.tsc_net.specs.Order.{has_place}
use Rattle.tsc_net.specs.PlanView.{net_numbers}
use Rattle.tsc_net.specs.declared.ids.NetId.{NetId}
use Rattle.code_lanes.specs.Lanes.{column}
use Rattle.node_lanes.specs.Settling.{settled}
use Rattle.mapping_reading.specs.ReadMapping.{gate_bit, evaluated, with_bits, new_onto, block_pins, pin_row, cover_bit}
use Rattle.mapping_reading.specs.Pins.{at_of}
use Rattle.mapping_reading.specs.MovedNets.{HaveMoved}
use Rattle.mapping_audit.specs.Values.{moved_pins, AreZeros, cleared, given_bit, IsGiven}

-- a node's cover has a pin a net that it reads
pub width_of : (C : Circuit) (j : ℕ) → IsClosed C → j < length C.nodes → (node C j).cover.width ≡ length (node C j).reads
width_of C j closed there = All-get_or (λ (n : NodeOf). n.cover.width ≡ length n.reads) C.nodes j no_node there closed.widths

-- ---- putting a value

-- one net more is put
pub put_step : (row : List Bool) (pins : List ℕ) (i value d : ℕ) → i < length pins
    → with_bits (drop i pins) (bits_of (length pins - i) value) row
    ≡ with_bits (drop (i + 1) pins) (bits_of (length pins - (i + 1)) value) (set row (get_or pins i d) (bit_worth (length pins - 1 - i) value))
put_step row pins i value d h =
    let here : drop i pins ≡ get_or pins i d ∷ drop (i + 1) pins = drop-cons pins i d h ∙ ap (λ k. get_or pins i d ∷ drop k pins) (sym (add-one i)) in
    let left : length pins - i ≡ suc (length pins - (i + 1)) = omega arith in
    let worth : length pins - (i + 1) ≡ length pins - 1 - i = omega arith in
    ap₂ (λ list n. with_bits list (bits_of n value) row) here left
    ∙ ap (λ k. with_bits (drop (i + 1) pins) (bits_of (length pins - (i + 1)) value) (set row (get_or pins i d) (bit_worth k value))) worth

-- at one of 64 values
pub put_lane : (p : ℕ) (words pins : List ℕ) (i base word d : ℕ) → i < length pins → bit_worth p word ≡ bit_worth (length pins - 1 - i) (base + p)
    → with_bits (drop (i + 1) pins) (bits_of (length pins - (i + 1)) (base + p)) (column p (set words (get_or pins i d) word))
    ≡ with_bits (drop i pins) (bits_of (length pins - i) (base + p)) (column p words)
put_lane p words pins i base word d h is =
    ap (with_bits (drop (i + 1) pins) (bits_of (length pins - (i + 1)) (base + p)))
    (map-set (bit_worth p) words (get_or pins i d) word ∙ ap (set (column p words) (get_or pins i d)) is)
    ∙ sym (put_step (column p words) pins i (base + p) d h)

-- ---- clearing what was written

-- a net more is cleared, at one point
pub clear_lane : {X : Type 0} (f : X → ℕ) (p : ℕ) (words : List ℕ) (xs : List X) (i net : ℕ) (d : X) → i < length xs → net ≡ f (get_or xs i d)
    → cleared (map f (drop (i + 1) xs)) (column p (set words net 0)) ≡ cleared (map f (drop i xs)) (column p words)
clear_lane f p words xs i net d h is =
    ap (cleared (map f (drop (i + 1) xs))) (map-set (bit_worth p) words net 0 ∙ ap₂ (set (column p words)) is (bit_worth-zero p))
    ∙ sym (ap (λ list. cleared (map f list) (column p words)) (drop-cons xs i d h ∙ ap (λ k. get_or xs i d ∷ drop k xs) (sym (add-one i))))

pub map-same : (xs : List ℕ) → map (λ x. x) xs ≡ xs
map-same [] = refl
map-same (x ∷ xs) = ap (λ list. x ∷ list) (map-same xs)

-- where all is 0 from the start, each point has no bit
pub column-zeros : (n p : ℕ) → column p (replicate n 0) ≡ replicate n false
column-zeros zero p = refl
column-zeros (suc n) p = ap₂ (λ b list. b ∷ list) (bit_worth-zero p) (column-zeros n p)

pub zeros_sized : (G : Circuit) (words : List ℕ) → AreZeros G words → length words ≡ nets G
zeros_sized G words zeros = sym (length-map words (bit_worth 0)) ∙ ap length (zeros 0 (omega arith)) ∙ length-replicate (nets G) false

-- what is cleared may be written before
cleared-set : (xs : List ℕ) (row : List Bool) (x : ℕ) (b : Bool) → has_place xs x ≡ true → cleared xs (slice_set row x b) ≡ cleared xs row
cleared-set [] row x b has = cc
cleared-set (y ∷ xs) row x b has = elim (cases_eq x y) [
  | inl same ↦ ap (cleared xs) (ap (λ p. set (set row x b) p false) (sym same) ∙ set-set row x b false ∙ ap (λ p. set row p false) same)
  | inr other ↦
      let rest : has_place xs x ≡ true = sym (ap (λ b. b || has_place xs x) (isnt y x (λ e. other (sym e)))) ∙ has in
      ap (cleared xs) (set_comm row x y b false other) ∙ cleared-set xs (set row y false) x b rest
]
  where
    isnt : (a b : ℕ) → (a ≡ b → ⊥) → (a == b) ≡ false
    isnt a b h = grind (arith, common_steps)

cleared-with_bits : (xs pins : List ℕ) (bits row : List Bool) → All (λ pin. has_place xs pin ≡ true) pins → cleared xs (with_bits pins bits row) ≡ cleared xs row
cleared-with_bits xs [] bits row all = refl
cleared-with_bits xs (pin ∷ pins) [] row all = refl
cleared-with_bits xs (pin ∷ pins) (b ∷ bits) row all =
    cleared-with_bits xs pins bits (set row pin b) (All-tail (λ pin. has_place xs pin ≡ true) pin pins all)
    ∙ cleared-set xs row pin b (All-head (λ pin. has_place xs pin ≡ true) pin pins all)

cleared-evaluated : (G : Circuit) (xs gates : List ℕ) (row : List Bool) → All (λ g. has_place xs (node_net G g) ≡ true) gates → cleared xs (evaluated G gates row) ≡ cleared xs row
cleared-evaluated G xs [] row all = refl
cleared-evaluated G xs (g ∷ gates) row all =
    cleared-evaluated G xs gates (set row (node_net G g) (gate_bit G row g)) (All-tail (λ g. has_place xs (node_net G g) ≡ true) g gates all)
    ∙ cleared-set xs row (node_net G g) (gate_bit G row g) (All-head (λ g. has_place xs (node_net G g) ≡ true) g gates all)

cleared-append : (xs ys : List ℕ) (row : List Bool) → cleared (xs ++ ys) row ≡ cleared ys (cleared xs row)
cleared-append [] ys row = refl
cleared-append (x ∷ xs) ys row = cleared-append xs ys (set row x false)

cleared-zeros : (n : ℕ) (xs : List ℕ) → cleared xs (replicate n false) ≡ replicate n false
cleared-zeros n [] = refl
cleared-zeros n (x ∷ xs) = ap (cleared xs) (ap (set (replicate n false) x) (sym zero_at) ∙ set-get_or (replicate n false) x false) ∙ cleared-zeros n xs
  where
    zero_at : get_or (replicate n false) x false ≡ false
    zero_at = elim (cases_lt x n) [
      | inl low ↦ get_or-replicate n x false false low
      | inr high ↦ (let all : length (replicate n false) ≡ n = length-replicate n false in get_or_past (replicate n false) x false (omega arith))
    ]

has_own : (xs : List ℕ) → All (λ x. has_place xs x ≡ true) xs
has_own xs k d low = at xs k d low
  where
    at : (xs : List ℕ) (k d : ℕ) → k < length xs → has_place xs (slice_index_or xs k d) ≡ true
    at [] k d low = absurd (omega arith)
    at (x ∷ xs) zero d low = ap (λ b. b || has_place xs x) (self x)
      where
        self : (x : ℕ) → (x == x) ≡ true
        self x = grind (arith, common_steps)
    at (x ∷ xs) (suc k) d low = ap (λ b. (x == slice_index_or xs k d) || b) (at xs k d (omega arith)) ∙ or-true (x == slice_index_or xs k d)

left_has : (xs ys : List ℕ) (x : ℕ) → has_place xs x ≡ true → has_place (xs ++ ys) x ≡ true
left_has xs ys x has = list_any-append (λ k. k == x) xs ys ∙ ap (λ b. b || has_place ys x) has

right_has : (xs ys : List ℕ) (x : ℕ) → has_place ys x ≡ true → has_place (xs ++ ys) x ≡ true
right_has xs ys x has = list_any-append (λ k. k == x) xs ys ∙ ap (λ b. has_place xs x || b) has ∙ or-true (has_place xs x)

-- where the pins and the gates' nets are cleared, the row is as it was before a value was put and the gates evaluated
pub row_is_back : (G : Circuit) (n : ℕ) (gates pins : List ℕ) (bits : List Bool)
    → cleared (map (node_net G) gates) (cleared pins (evaluated G gates (with_bits pins bits (replicate n false)))) ≡ replicate n false
row_is_back G n gates pins bits =
    sym (cleared-append pins (map (node_net G) gates) (evaluated G gates (with_bits pins bits (replicate n false))))
    ∙ cleared-evaluated G (pins ++ map (node_net G) gates) gates (with_bits pins bits (replicate n false)) of_gates
    ∙ cleared-with_bits (pins ++ map (node_net G) gates) pins bits (replicate n false)
    (All-weaker (λ x. has_place pins x ≡ true) (λ x. has_place (pins ++ map (node_net G) gates) x ≡ true) (left_has pins (map (node_net G) gates)) pins (has_own pins))
    ∙ cleared-zeros n (pins ++ map (node_net G) gates)
  where
    of_gates : All (λ g. has_place (pins ++ map (node_net G) gates) (node_net G g) ≡ true) gates
    of_gates k d low =
        let count : length (map (node_net G) gates) ≡ length gates = length-map gates (node_net G) in
        let at : slice_index (map (node_net G) gates) k ≡ node_net G (slice_index_or gates k d) = get_or-map (node_net G) gates k d 0 low in
        right_has pins (map (node_net G) gates) (node_net G (slice_index_or gates k d))
        (subst (λ net. has_place (map (node_net G) gates) net ≡ true) at (has_own (map (node_net G) gates) k 0 (omega arith)))

-- ---- the pins of a cover are nets

new_within : (P : ℕ → Type 0) (seen list : List ℕ) → All P seen → All P list → All P (new_onto seen list)
new_within P seen [] all more = all
new_within P seen (net ∷ list) all more = new_within P (if has_place seen net then seen else seen ++ net ∷ []) list (by (has_place seen net)) (All-tail P net list more)
  where
    by : (b : Bool) → All P (if b then seen else seen ++ net ∷ [])
    by true = all
    by false = All-push P seen net all (All-head P net list more)

pub moved_within : (N G : Circuit) (moved : List ℕ) (j : ℕ) → IsClosed N → HaveMoved N G moved → j < length N.nodes → All (λ pin. pin < nets G) (moved_pins N (at_of G moved) j)
moved_within N G moved j closed have there =
    All-map (λ pin. pin < nets G) (at_of G moved) (node N j).reads
    (All-from_get_or (λ net. at_of G moved net < nets G) (node N j).reads 0
    (λ pin has. (let b = closed.pins j pin there has in All-get_or (λ net. net < nets G) moved (slice_index (node N j).reads pin) (nets G) (let s = have.sized in omega arith) have.within)))

pub pins_within : (N G : Circuit) (moved : List ℕ) (j : ℕ) → IsClosed N → HaveMoved N G moved → j < length N.nodes → All (λ pin. pin < nets G) (block_pins N (at_of G moved) j)
pins_within N G moved j closed have there =
    new_within (λ pin. pin < nets G) [] (map (at_of G moved) (node N j).reads) (All-nil (λ pin. pin < nets G)) (moved_within N G moved j closed have there)

-- so are where they went, pin by pin
pub reads_within : (N G : Circuit) (moved : List ℕ) (j : ℕ) (reads : List NetId) → IsClosed N → HaveMoved N G moved → j < length N.nodes → net_numbers reads ≡ moved_pins N (at_of G moved) j
    → All (λ (net : NetId). net.number < nets G) reads
reads_within N G moved j reads closed have there are k d low =
    let count : length (net_numbers reads) ≡ length reads = length-map reads (λ (net : NetId). net.number) in
    let all : All (λ net. net < nets G) (net_numbers reads) = subst (All (λ net. net < nets G)) (sym are) (moved_within N G moved j closed have there) in
    let at : slice_index (net_numbers reads) k ≡ (slice_index_or reads k d).number = get_or-map (λ (net : NetId). net.number) reads k d 0 low in
    subst (λ net. net < nets G) at (all k 0 (omega arith))

pub reads_sized : (N G : Circuit) (moved : List ℕ) (j : ℕ) (reads : List NetId) (cover : CoverTable) → IsClosed N → j < length N.nodes → net_numbers reads ≡ moved_pins N (at_of G moved) j
    → cover ≡ (node N j).cover → length reads ≡ cover.width
reads_sized N G moved j reads cover closed there are is =
    sym (length-map reads (λ (net : NetId). net.number)) ∙ ap length are ∙ length-map (node N j).reads (at_of G moved)
    ∙ sym (width_of N j closed there) ∙ sym (ap (λ (c : CoverTable). c.width) is)

-- ---- gates that are settled one after another are evaluated

pub settled_is : (G : Circuit) (gates : List ℕ) (row : List Bool) → settled G gates row ≡ evaluated G gates row
settled_is G [] row = refl
settled_is G (g ∷ gates) row =
    ap (λ b. settled G gates (set row (node_net G g) b)) (ap (truth (node G g).cover) (read_values-no_fault row (node_net G g) 0 (node G g).reads))
    ∙ settled_is G gates (set row (node_net G g) (gate_bit G row g))

-- ---- one value

module _ (N G : Circuit) (at : ℕ → ℕ) (j : ℕ) (gates pins : List ℕ) (value : ℕ) (row put done : List Bool)
    (pins_are : pins ≡ block_pins N at j) (zeros : row ≡ replicate (nets G) false) (put_is : put ≡ with_bits pins (bits_of (length pins) value) row)
    (done_is : done ≡ settled G gates put) where
  row_put : put ≡ pin_row N G at j value
  row_put = put_is ∙ ap (with_bits pins (bits_of (length pins) value)) zeros ∙ ap (λ list. with_bits list (bits_of (length list) value) (replicate (nets G) false)) pins_are

  evaluated_is : done ≡ evaluated G gates put
  evaluated_is = done_is ∙ settled_is G gates put

  -- the read bits are the same exactly where the value is given
  pub given_decides : (net : ℕ) (given asked : Bool) (reads : List ℕ) (cover : CoverTable) → net ≡ at (node_net N j) → given ≡ bit done net → reads ≡ moved_pins N at j → cover ≡ (node N j).cover
      → asked ≡ truth cover (map (bit put) reads) → (given ≡ asked) ↔ IsGiven N G at gates j value
  given_decides net given asked reads cover net_is given_is reads_are cover_is asked_is =
      let gives : given ≡ given_bit G gates (block_pins N at j) value (at (node_net N j))
      = given_is ∙ ap₂ bit (evaluated_is ∙ ap (evaluated G gates) row_put) net_is in
      let wanted : asked ≡ cover_bit N G at j value
      = asked_is ∙ ap₂ (λ (c : CoverTable) list. truth c (map (bit put) list)) cover_is reads_are
      ∙ ap (truth (node N j).cover) (map-map (bit put) at (node N j).reads)
      ∙ ap (λ v. truth (node N j).cover (map (λ net. bit v (at net)) (node N j).reads)) row_put in
      (λ e. sym gives ∙ e ∙ wanted, λ e. gives ∙ e ∙ sym wanted)

  -- the row is as it was
  pub row_back : (clear back : List Bool) → clear ≡ cleared pins done → back ≡ cleared (map (node_net G) gates) clear → back ≡ replicate (nets G) false
  row_back clear back clear_is back_is =
      back_is ∙ ap (cleared (map (node_net G) gates)) (clear_is ∙ ap (cleared pins) (evaluated_is ∙ ap (evaluated G gates) (put_is ∙ ap (with_bits pins (bits_of (length pins) value)) zeros)))
      ∙ row_is_back G (nets G) gates pins (bits_of (length pins) value)

-- ---- a value counts by its last bits

pub given_again : (N G : Circuit) (at : ℕ → ℕ) (gates : List ℕ) (j value : ℕ) → IsGiven N G at gates j (value % 2 ^ length (block_pins N at j)) → IsGiven N G at gates j value
given_again N G at gates j value = subst Given (bits_of-mod (length (block_pins N at j)) value)
  where
    row : List Bool → List Bool
    row bits = with_bits (block_pins N at j) bits (replicate (nets G) false)

    Given : List Bool → Type 0
    Given bits = bit (evaluated G gates (row bits)) (at (node_net N j)) ≡ truth (node N j).cover (map (λ net. bit (row bits) (at net)) (node N j).reads)
