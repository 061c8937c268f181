-- A block that is evaluated along an order: it settles, it leaves other nets as they are, and its nets follow from the nets at its pins.
use Rattle.std.proofs.Common.{◌≡◌, ℕ, suc, ◌+◌, ◌-◌, ◌<◌, ◌≤◌, ◌==◌, Bool, true, false, cond, ◌||◌, nat_le, nat_lt, List, [], ◌∷◌, length, slice_set, refl, sym, ap, subst, ◌∙◌, inl, inr, arith}
use Rattle.std.specs.List.{filter}
use Rattle.std.proofs.lemmas.List.{length-set}
use Rattle.std.proofs.lemmas.Bool.{cases_eq, cases_lt, and_from, and_parts, or_cases, le-leb, lt-ltb, leb-true, ltb-true, eq-eqb, eqb-true, or_left, or_right, true≢false}
use Rattle.tsc_cover.specs.Cover.{truth}
use Rattle.fault_secure.specs.Circuit.{Circuit, node, node_net, pin_net, nets, bit}
use Rattle.fault_secure.specs.StuckAt.{NoFault}
use Rattle.fault_secure.specs.Settle.{node_value}
use Rattle.mapping_laws.proofs.MappedBits.{pins_moved}
use Rattle.tsc_net.specs.Order.{has_place, fan_ins, place_in, IsOrder}
use Rattle.mapping_reading.specs.ReadMapping.{first_net, is_own, members, gate_bit, evaluated}
use Rattle.mapping_reading.specs.ReadMappingLaws.{EvaluationSettles}
use Rattle.mapping_reading.proofs.Rows.{set_same, set_other, set_own, set_both, length_evaluated, gate_same}
use Rattle.mapping_reading.proofs.Orders.{reads_earlier, placed, one_place, IsRest, all_rest, next_rest, first_gate, first_place}

-- ---- the nets of a block

pub own_gate : (G : Circuit) (block : ℕ → ℕ) (g j : ℕ) → g < length G.nodes → block g ≡ j → is_own G block j (node_net G g) ≡ true
own_gate G block g j h e =
    let back : node_net G g - first_net G ≡ g = omega arith in
    and_from (nat_le (first_net G) (node_net G g)) _ (le-leb _ _ (omega arith))
    (and_from (nat_lt (node_net G g) (nets G)) _ (lt-ltb _ _ (omega arith)) (eq-eqb (block (node_net G g - first_net G)) j (ap block back ∙ e)))

-- the gate of the block that drives the net
pub record Owner (G : Circuit) (block : ℕ → ℕ) (j net : ℕ) : Type 0 where
  pub gate : ℕ
  pub inside : gate < length G.nodes
  pub of : block gate ≡ j
  pub drives : net ≡ node_net G gate

pub owner_of : (G : Circuit) (block : ℕ → ℕ) (j net : ℕ) → is_own G block j net ≡ true → Owner G block j net
owner_of G block j net h =
    let first = and_parts (nat_le (first_net G) net) _ h in
    let rest = and_parts (nat_lt net (nets G)) _ first.1 in
    let past : first_net G ≤ net = leb-true (first_net G) net first.0 in
    let low : net < nets G = ltb-true net (nets G) rest.0 in
    record { gate = net - first_net G; inside = omega arith; of = eqb-true _ j rest.1; drives = omega arith }

-- a gate's value is what its cover makes of the row
pub value_in_row : (G : Circuit) (v : List Bool) (g : ℕ) → node_value G NoFault v g ≡ gate_bit G v g
value_in_row G v g = ap (truth (node G g).cover) (pins_moved v (bit v) (λ net. refl) (node_net G g) 0 (node G g).reads)

-- a settled valuation is its own evaluation
pub own_evaluation : (G : Circuit) (p : ℕ → Bool) (gates : List ℕ) (v : List Bool)
    → ((g : ℕ) → has_place gates g ≡ true → p g ≡ true → bit v (node_net G g) ≡ gate_bit G v g) → evaluated G (filter p gates) v ≡ v
own_evaluation G p [] v settled = refl
own_evaluation G p (g ∷ gates) v settled =
    by (p g) refl (own_evaluation G p gates v (λ h k e. settled h (later h k) e))
  where
    later : (h : ℕ) → has_place gates h ≡ true → has_place (g ∷ gates) h ≡ true
    later h k = or_right (g == h) (has_place gates h) k

    by : (b : Bool) → p g ≡ b → evaluated G (filter p gates) v ≡ v → evaluated G (cond b (g ∷ filter p gates) (filter p gates)) v ≡ v
    by true e rest = ap (evaluated G (filter p gates)) (set_own v (node_net G g) (gate_bit G v g) (settled g (or_left (g == g) _ (eq-eqb g g refl)) e)) ∙ rest
    by false e rest = rest

module _ (G : Circuit) (block : ℕ → ℕ) (order : List ℕ) (j : ℕ) (whole : IsOrder (fan_ins G) order) where
  -- ---- it settles

  -- so far
  abbrev SettledTo : ℕ → List Bool → Type 0
  SettledTo place row = (g : ℕ) → g < length G.nodes → block g ≡ j → place_in order g < place → bit row (node_net G g) ≡ gate_bit G row g

  -- a gate that comes no later than the one that is set doesn't read its net
  not_read : (g h : ℕ) (row : List Bool) (b : Bool) → h < length G.nodes → place_in order h ≤ place_in order g
      → gate_bit G (slice_set row (node_net G g) b) h ≡ gate_bit G row h
  not_read g h row b l early = gate_same G h (slice_set row (node_net G g) b) row
      (λ pin k. set_other row (node_net G g) (pin_net G h pin) b (λ e. let before = reads_earlier G order whole h g pin l k e in omega arith))

  settled_next : (g place : ℕ) (row : List Bool) → g < length G.nodes → place_in order g ≡ place → length row ≡ nets G → SettledTo place row
      → SettledTo (suc place) (slice_set row (node_net G g) (gate_bit G row g))
  settled_next g place row here at sized settled h l e before = elim (cases_eq h g) [
    | inl same ↦
        subst (λ k. bit (slice_set row (node_net G g) (gate_bit G row g)) (node_net G k) ≡ gate_bit G (slice_set row (node_net G g) (gate_bit G row g)) k)
        (sym same)
        (set_same row (node_net G g) (gate_bit G row g) (omega arith) ∙ sym (not_read g g row (gate_bit G row g) here (omega arith)))
    | inr off ↦
        set_other row (node_net G g) (node_net G h) (gate_bit G row g) (λ d. off (omega arith))
        ∙ settled h l e (earlier off)
        ∙ sym (not_read g h row (gate_bit G row g) l (omega arith))
  ]
    where
      earlier : (h ≡ g → ⊥) → place_in order h < place
      earlier off = elim (cases_lt (place_in order h) place) [
        | inl low ↦ low
        | inr high ↦ absurd (off (one_place G order whole h g l here (omega arith)))
      ]

  settled_past : (g place : ℕ) (row : List Bool) → g < length G.nodes → place_in order g ≡ place → (block g ≡ j → ⊥) → SettledTo place row
      → SettledTo (suc place) row
  settled_past g place row here at other settled h l e before = elim (cases_lt (place_in order h) place) [
    | inl low ↦ settled h l e low
    | inr high ↦ absurd (other (ap block (one_place G order whole g h here l (omega arith)) ∙ e))
  ]

  settled_rest : (rest : List ℕ) (place : ℕ) (row : List Bool) → IsRest G order rest place → length row ≡ nets G → SettledTo place row
      → SettledTo (place + length rest) (evaluated G (members block rest j) row)
  settled_rest [] place row is sized settled = λ h l e before. settled h l e (omega arith)
  settled_rest (g ∷ rest) place row is sized settled =
      by (block g == j) refl
      (λ (next : List Bool) k s. subst (λ n. SettledTo n (evaluated G (members block rest j) next)) (omega arith)
      (settled_rest rest (suc place) next (next_rest G order rest g place is) k s))
    where
      here : g < length G.nodes
      here = first_gate G order rest g place is

      at : place_in order g ≡ place
      at = first_place G order rest g place is

      by : (b : Bool) → (block g == j) ≡ b
          → ((next : List Bool) → length next ≡ nets G → SettledTo (suc place) next
          → SettledTo (place + suc (length rest)) (evaluated G (members block rest j) next))
          → SettledTo (place + suc (length rest)) (evaluated G (cond b (g ∷ members block rest j) (members block rest j)) row)
      by true e go = go (slice_set row (node_net G g) (gate_bit G row g)) (length-set row (node_net G g) (gate_bit G row g) ∙ sized)
          (settled_next g place row here at sized settled)
      by false e go = go row sized (settled_past g place row here at (λ same. true≢false (sym (eq-eqb (block g) j same) ∙ e)) settled)

  -- ---- other nets keep their bits

  kept_rest : (rest : List ℕ) (place : ℕ) (row : List Bool) → IsRest G order rest place → (net : ℕ) → is_own G block j net ≡ false
      → bit (evaluated G (members block rest j) row) net ≡ bit row net
  kept_rest [] place row is net other = refl
  kept_rest (g ∷ rest) place row is net other =
      by (block g == j) refl (λ (next : List Bool). kept_rest rest (suc place) next (next_rest G order rest g place is) net other)
    where
      by : (b : Bool) → (block g == j) ≡ b → ((next : List Bool) → bit (evaluated G (members block rest j) next) net ≡ bit next net)
          → bit (evaluated G (cond b (g ∷ members block rest j) (members block rest j)) row) net ≡ bit row net
      by true e go = go (slice_set row (node_net G g) (gate_bit G row g))
          ∙ set_other row (node_net G g) net (gate_bit G row g)
          (λ same. true≢false
          (sym (own_gate G block g j (first_gate G order rest g place is) (eqb-true (block g) j e)) ∙ ap (is_own G block j) (sym same) ∙ other))
      by false e go = go row

  -- ---- two rows that agree at the pins

  module _ (pins : List ℕ) (well : (g pin : ℕ) → g < length G.nodes → block g ≡ j → pin < length (node G g).reads
      → (is_own G block j (pin_net G g pin) || has_place pins (pin_net G g pin)) ≡ true) where
    pub record AgreeTo (place : ℕ) (r s : List Bool) : Type 0 where
      pub at_pins : (net : ℕ) → has_place pins net ≡ true → bit r net ≡ bit s net
      pub at_gates : (g : ℕ) → g < length G.nodes → block g ≡ j → place_in order g < place → bit r (node_net G g) ≡ bit s (node_net G g)

    agree_at_pin : (g place : ℕ) (r s : List Bool) → g < length G.nodes → block g ≡ j → place_in order g ≡ place → AgreeTo place r s
        → (pin : ℕ) → pin < length (node G g).reads → bit r (pin_net G g pin) ≡ bit s (pin_net G g pin)
    agree_at_pin g place r s here mine at agree pin l = elim (or_cases (is_own G block j (pin_net G g pin)) _ (well g pin here mine l)) [
      | inl own ↦
          let from = owner_of G block j (pin_net G g pin) own in
          let before = reads_earlier G order whole g from.gate pin here l from.drives in
          subst (λ net. bit r net ≡ bit s net) (sym from.drives) (agree.at_gates from.gate from.inside from.of (omega arith))
      | inr there ↦ agree.at_pins (pin_net G g pin) there
    ]

    agree_next : (g place : ℕ) (r s : List Bool) → g < length G.nodes → block g ≡ j → place_in order g ≡ place → length r ≡ nets G → length s ≡ nets G
        → AgreeTo place r s → AgreeTo (suc place) (slice_set r (node_net G g) (gate_bit G r g)) (slice_set s (node_net G g) (gate_bit G s g))
    agree_next g place r s here mine at sized also agree = record {
      at_pins = λ net there. both net (λ off. agree.at_pins net there);
      at_gates = λ h l e before. both (node_net G h) (λ off. agree.at_gates h l e (elim (cases_lt (place_in order h) place) [
        | inl low ↦ low
        | inr high ↦ absurd (off (ap (node_net G) (one_place G order whole h g l here (omega arith))))
      ]));
    }
      where
        both : (net : ℕ) → ((net ≡ node_net G g → ⊥) → bit r net ≡ bit s net)
            → bit (slice_set r (node_net G g) (gate_bit G r g)) net ≡ bit (slice_set s (node_net G g) (gate_bit G s g)) net
        both net = set_both r s (node_net G g) net (gate_bit G r g) (gate_bit G s g) (omega arith) (omega arith)
            (gate_same G g r s (agree_at_pin g place r s here mine at agree))

    agree_past : (g place : ℕ) (r s : List Bool) → g < length G.nodes → place_in order g ≡ place → (block g ≡ j → ⊥) → AgreeTo place r s
        → AgreeTo (suc place) r s
    agree_past g place r s here at other agree = record {
      at_pins = agree.at_pins;
      at_gates = λ h l e before. agree.at_gates h l e (elim (cases_lt (place_in order h) place) [
        | inl low ↦ low
        | inr high ↦ absurd (other (ap block (one_place G order whole g h here l (omega arith)) ∙ e))
      ]);
    }

    agree_rest : (rest : List ℕ) (place : ℕ) (r s : List Bool) → IsRest G order rest place → length r ≡ nets G → length s ≡ nets G → AgreeTo place r s
        → AgreeTo (place + length rest) (evaluated G (members block rest j) r) (evaluated G (members block rest j) s)
    agree_rest [] place r s is sized also agree = subst (λ n. AgreeTo n r s) (omega arith) agree
    agree_rest (g ∷ rest) place r s is sized also agree =
        by (block g == j) refl
        (λ (a b : List Bool) k l c. subst (λ n. AgreeTo n (evaluated G (members block rest j) a) (evaluated G (members block rest j) b)) (omega arith)
        (agree_rest rest (suc place) a b (next_rest G order rest g place is) k l c))
      where
        here : g < length G.nodes
        here = first_gate G order rest g place is

        at : place_in order g ≡ place
        at = first_place G order rest g place is

        by : (b : Bool) → (block g == j) ≡ b
            → ((c d : List Bool) → length c ≡ nets G → length d ≡ nets G → AgreeTo (suc place) c d
            → AgreeTo (place + suc (length rest)) (evaluated G (members block rest j) c) (evaluated G (members block rest j) d))
            → AgreeTo (place + suc (length rest)) (evaluated G (cond b (g ∷ members block rest j) (members block rest j)) r)
            (evaluated G (cond b (g ∷ members block rest j) (members block rest j)) s)
        by true e go = go (slice_set r (node_net G g) (gate_bit G r g)) (slice_set s (node_net G g) (gate_bit G s g))
            (length-set r (node_net G g) (gate_bit G r g) ∙ sized) (length-set s (node_net G g) (gate_bit G s g) ∙ also)
            (agree_next g place r s here (eqb-true (block g) j e) at sized also agree)
        by false e go = go r s sized also (agree_past g place r s here at (λ same. true≢false (sym (eq-eqb (block g) j same) ∙ e)) agree)

    -- evaluated, they agree at all nets of the block
    pub agree_evaluated : (r s : List Bool) → length r ≡ nets G → length s ≡ nets G → ((net : ℕ) → has_place pins net ≡ true → bit r net ≡ bit s net)
        → (net : ℕ) → is_own G block j net ≡ true → bit (evaluated G (members block order j) r) net ≡ bit (evaluated G (members block order j) s) net
    agree_evaluated r s sized also same net own =
        let from = owner_of G block j net own in
        let all = agree_rest order 0 r s (all_rest G order whole) sized also (record { at_pins = same; at_gates = λ g l e before. absurd (omega arith) }) in
        let low = placed G order whole from.gate from.inside in
        subst (λ n. bit (evaluated G (members block order j) r) n ≡ bit (evaluated G (members block order j) s) n) (sym from.drives)
        (all.at_gates from.gate from.inside from.of (omega arith))

pub evaluation_settles : EvaluationSettles
evaluation_settles G block order j row whole sized = record {
  settles = record {
    sized = length_evaluated G (members block order j) row ∙ sized;
    gates = λ g h e.
        let low = placed G order whole g h in
        settled_rest G block order j whole order 0 row (all_rest G order whole) sized (λ k l d before. absurd (omega arith)) g h e (omega arith)
        ∙ sym (value_in_row G (evaluated G (members block order j) row) g);
  };
  kept = λ net other. kept_rest G block order j whole order 0 row (all_rest G order whole) net other;
}
