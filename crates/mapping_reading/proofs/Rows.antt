-- Rows of bits, one a net: what gates set, and what stands at pins.
use Rattle.std.proofs.Common.{◌≡◌, ℕ, zero, suc, ◌<◌, ◌⊎◌, Bool, true, false, List, [], ◌∷◌, ◌++◌, length, map, slice_index, slice_set, refl, sym, ap, ap₂, subst, ◌∙◌, inl, inr, arith, if◌then◌else◌}
use Rattle.std.proofs.lemmas.List.{length-set, get_or-set_same, get_or-set_other, set-get_or}
use Rattle.std.proofs.lemmas.Bool.{cases_eq, false≢true}
use Rattle.tsc_cover.specs.Cover.{truth}
use Rattle.fault_secure.specs.Circuit.{Circuit, node, node_net, pin_net, bit}
use Rattle.tsc_net.specs.Order.{has_place}
use Rattle.tsc_net.proofs.OrderLists.{has_place-kept, has_place-pushed, has_place-cases, has_place-head, has_place-tail, has_place-rest}
use Rattle.mapping_reading.specs.ReadMapping.{new_onto, block_pins, gate_bit, evaluated, with_bits}

-- ---- one bit that is set

pub set_same : (row : List Bool) (net : ℕ) (b : Bool) → net < length row → bit (slice_set row net b) net ≡ b
set_same row net b h = get_or-set_same row net b false h

pub set_other : (row : List Bool) (net other : ℕ) (b : Bool) → (other ≡ net → ⊥) → bit (slice_set row net b) other ≡ bit row other
set_other row net other b off = get_or-set_other row net other b false off

-- a bit that is set to what it is
pub set_own : (row : List Bool) (net : ℕ) (b : Bool) → bit row net ≡ b → slice_set row net b ≡ row
set_own row net b e = ap (slice_set row net) (sym e) ∙ set-get_or row net false

-- rows that are the same at a net, but for the net that is set to the same bit in both
pub set_both : (r s : List Bool) (at net : ℕ) (a b : Bool) → at < length r → at < length s → a ≡ b → ((net ≡ at → ⊥) → bit r net ≡ bit s net)
    → bit (slice_set r at a) net ≡ bit (slice_set s at b) net
set_both r s at net a b h k e other = elim (cases_eq net at) [
  | inl same ↦ subst (λ n. bit (slice_set r at a) n ≡ bit (slice_set s at b) n) (sym same) (set_same r at a h ∙ e ∙ sym (set_same s at b k))
  | inr off ↦ set_other r at net a off ∙ other off ∙ sym (set_other s at net b off)
]

-- ---- rows that are set bit by bit

pub length_evaluated : (G : Circuit) (gates : List ℕ) (row : List Bool) → length (evaluated G gates row) ≡ length row
length_evaluated G [] row = refl
length_evaluated G (g ∷ gates) row =
    length_evaluated G gates (slice_set row (node_net G g) (gate_bit G row g)) ∙ length-set row (node_net G g) (gate_bit G row g)

pub length_with_bits : (pins : List ℕ) (bits row : List Bool) → length (with_bits pins bits row) ≡ length row
length_with_bits [] bits row = refl
length_with_bits (pin ∷ pins) [] row = refl
length_with_bits (pin ∷ pins) (b ∷ bits) row = length_with_bits pins bits (slice_set row pin b) ∙ length-set row pin b

-- a row that is given the bits of f at some nets has them there, and where it had them
pub bit_with_bits : (f : ℕ → Bool) (pins : List ℕ) (row : List Bool) (net : ℕ) → net < length row
    → (has_place pins net ≡ true) ⊎ (bit row net ≡ f net) → bit (with_bits pins (map f pins) row) net ≡ f net
bit_with_bits f [] row net h (inl e) = absurd (false≢true e)
bit_with_bits f [] row net h (inr e) = e
bit_with_bits f (pin ∷ pins) row net h given =
    bit_with_bits f pins (slice_set row pin (f pin)) net (omega (arith, length-set row pin (f pin))) (by given (cases_eq pin net))
  where
    by : (has_place (pin ∷ pins) net ≡ true) ⊎ (bit row net ≡ f net) → (pin ≡ net) ⊎ (pin ≡ net → ⊥)
        → (has_place pins net ≡ true) ⊎ (bit (slice_set row pin (f pin)) net ≡ f net)
    by some (inl same) = inr (subst (λ n. bit (slice_set row n (f n)) net ≡ f net) (sym same) (set_same row net (f net) h))
    by (inl there) (inr off) = inl (sym (has_place-tail pin net pins off) ∙ there)
    by (inr had) (inr off) = inr (set_other row pin net (f pin) (λ e. off (sym e)) ∙ had)

-- ---- what gates make of the bits at their pins

-- what two functions make of a list, if they agree at its places
pub map_same : (f g : ℕ → Bool) (list : List ℕ) → ((i : ℕ) → i < length list → f (slice_index list i) ≡ g (slice_index list i))
    → map f list ≡ map g list
map_same f g [] same = refl
map_same f g (x ∷ list) same = ap₂ ◌∷◌ (same zero (omega arith)) (map_same f g list (λ i h. same (suc i) (omega arith)))

pub gate_same : (G : Circuit) (g : ℕ) (r s : List Bool) → ((pin : ℕ) → pin < length (node G g).reads → bit r (pin_net G g pin) ≡ bit s (pin_net G g pin))
    → gate_bit G r g ≡ gate_bit G s g
gate_same G g r s same = ap (truth (node G g).cover) (map_same (bit r) (bit s) (node G g).reads same)

-- ---- distinct nets

-- what was seen stays, what is new comes, and nothing else
pub new_keeps : (seen list : List ℕ) (x : ℕ) → has_place seen x ≡ true → has_place (new_onto seen list) x ≡ true
new_keeps seen [] x h = h
new_keeps seen (net ∷ list) x h = new_keeps (if has_place seen net then seen else seen ++ net ∷ []) list x (by (has_place seen net))
  where
    by : (b : Bool) → has_place (if b then seen else seen ++ net ∷ []) x ≡ true
    by true = h
    by false = has_place-kept seen net x h

pub new_comes : (seen list : List ℕ) (x : ℕ) → has_place list x ≡ true → has_place (new_onto seen list) x ≡ true
new_comes seen [] x h = absurd (false≢true h)
new_comes seen (net ∷ list) x h = elim (cases_eq net x) [
  | inl same ↦ new_keeps (if has_place seen net then seen else seen ++ net ∷ []) list x
      (subst (λ n. has_place (if has_place seen net then seen else seen ++ net ∷ []) n ≡ true) same (first (has_place seen net) refl))
  | inr off ↦ new_comes (if has_place seen net then seen else seen ++ net ∷ []) list x (sym (has_place-tail net x list off) ∙ h)
]
  where
    first : (b : Bool) → has_place seen net ≡ b → has_place (if b then seen else seen ++ net ∷ []) net ≡ true
    first true e = e
    first false e = has_place-pushed seen net

pub new_cases : (seen list : List ℕ) (x : ℕ) → has_place (new_onto seen list) x ≡ true → (has_place seen x ≡ true) ⊎ (has_place list x ≡ true)
new_cases seen [] x h = inl h
new_cases seen (net ∷ list) x h = by (has_place seen net) (new_cases (if has_place seen net then seen else seen ++ net ∷ []) list x h)
  where
    later : has_place list x ≡ true → has_place (net ∷ list) x ≡ true
    later = has_place-rest net x list

    by : (b : Bool) → (has_place (if b then seen else seen ++ net ∷ []) x ≡ true) ⊎ (has_place list x ≡ true)
        → (has_place seen x ≡ true) ⊎ (has_place (net ∷ list) x ≡ true)
    by b (inr there) = inr (later there)
    by true (inl before) = inl before
    by false (inl more) = elim (has_place-cases seen net x more) [
      | inl before ↦ inl before
      | inr same ↦ inr (subst (λ n. has_place (net ∷ list) n ≡ true) same (has_place-head net list))
    ]

-- ---- the pins of a cover

map_has : (at : ℕ → ℕ) (list : List ℕ) (i : ℕ) → i < length list → has_place (map at list) (at (slice_index list i)) ≡ true
map_has at [] i h = absurd (omega arith)
map_has at (x ∷ list) zero h = has_place-head (at x) (map at list)
map_has at (x ∷ list) (suc i) h = has_place-rest (at x) (at (slice_index list i)) (map at list) (map_has at list i (omega arith))

-- where the net at a pin of the cover went is one of the pins
pub pin_there : (N : Circuit) (at : ℕ → ℕ) (j pin : ℕ) → pin < length (node N j).reads → has_place (block_pins N at j) (at (pin_net N j pin)) ≡ true
pin_there N at j pin h = new_comes [] (map at (node N j).reads) (at (pin_net N j pin)) (map_has at (node N j).reads pin h)

-- the pin at which a net is
abbrev pub PinAt : Circuit → (ℕ → ℕ) → ℕ → ℕ → Type 0
PinAt N at j net = (pin : ℕ) × (pin < length (node N j).reads) × (at (pin_net N j pin) ≡ net)

map_back : (at : ℕ → ℕ) (list : List ℕ) (x : ℕ) → has_place (map at list) x ≡ true → (i : ℕ) × (i < length list) × (at (slice_index list i) ≡ x)
map_back at [] x h = absurd (false≢true h)
map_back at (y ∷ list) x h = elim (cases_eq (at y) x) [
  | inl same ↦ (zero, omega arith, same)
  | inr off ↦ let later = map_back at list x (sym (has_place-tail (at y) x (map at list) off) ∙ h) in (suc later.0, omega (arith, later.1), later.2)
]

pub pin_back : (N : Circuit) (at : ℕ → ℕ) (j net : ℕ) → has_place (block_pins N at j) net ≡ true → PinAt N at j net
pin_back N at j net h = elim (new_cases [] (map at (node N j).reads) net h) [
  | inl nothing ↦ absurd (false≢true nothing)
  | inr there ↦ map_back at (node N j).reads net there
]
