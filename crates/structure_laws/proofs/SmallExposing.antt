-- Exposing points in two small netlists: what their rails have under a fault.
use Rattle.std.proofs.Common.{◌≡◌, ℕ, zero, suc, ◌<◌, inl, inr, Bool, true, false, ◌||◌, List, [], ◌∷◌, length, IsTrue, refl, sym, ap, subst, ◌∙◌, arith, Contains, true≢false}
use Rattle.std.specs.Prelude.{nat_lt}
use Rattle.std.specs.List.{list_all}
use Rattle.std.proofs.lemmas.Bool.{or_cases, and_parts, cond-false, le-ltb}
use Rattle.tsc_bits.specs.Bits.{same, binary}
use Rattle.tsc_cover.specs.Cover.{truth}
use Rattle.tsc_cover.specs.Gates.{and_cover, buf_cover, not_cover}
use Rattle.fault_secure.specs.Circuit.{bit, node_net, nets}
use Rattle.fault_secure.specs.StuckAt.{StuckAt, NoFault, Stem, Pin, on_stem, on_pin, pins_of, is_listed}
use Rattle.fault_secure.specs.Settle.{Settles, node_value}
use Rattle.fault_secure.specs.Listed.{listed_faults}
use Rattle.structure_laws.specs.SmallNetlist.{small_netlist, small_plan}
use Rattle.fault_secure.specs.Exposing.{settling_fault, bits_under, Exposes, IsExposed}
use Rattle.structure_laws.specs.SmallExposing.{PinIsFirstExposed, SmallIsSelfTesting, idle_cover, IdlePinIsExposedNowhere}
use Rattle.structure_laws.proofs.Each.{each}
use Rattle.structure_laws.proofs.FaultList.{holds_the_listed}
use Rattle.structure_laws.proofs.FailingCell.{pins_of_input}
use Rattle.tsc_bits.proofs.Bools.{same_is}

-- ---- the small netlist, node by node

module _ (f : StuckAt) (a b : Bool) where
  abbrev first_input : Bool
  first_input = on_stem f 0 a

  abbrev second_input : Bool
  second_input = on_stem f 1 b

  abbrev output : Bool
  output = on_stem f 2 (truth and_cover (on_pin f 2 0 first_input ∷ on_pin f 2 1 second_input ∷ []))

  abbrev copy : Bool
  copy = on_stem f 3 (truth and_cover (on_pin f 3 0 first_input ∷ on_pin f 3 1 second_input ∷ []))

  abbrev check : Bool
  check = on_stem f 4 (truth not_cover (on_pin f 4 0 copy ∷ []))

  abbrev rail1 : Bool
  rail1 = on_stem f 5 (truth buf_cover (on_pin f 5 0 output ∷ []))

  abbrev rail2 : Bool
  rail2 = on_stem f 6 (truth buf_cover (on_pin f 6 0 check ∷ []))

  abbrev values : List Bool
  values = first_input ∷ second_input ∷ output ∷ copy ∷ check ∷ rail1 ∷ rail2 ∷ []

  values_settle : (s : ℕ → Bool) → Settles small_netlist f (bit (a ∷ b ∷ [])) s values
  values_settle s = record {
    sized = refl;
    inputs = each 2 (λ i. bit values i ≡ on_stem f i (bit (a ∷ b ∷ []) i)) (refl, (refl, tt));
    latches = λ l h. absurd (omega arith);
    nodes = each 5 (λ j. bit values (node_net small_netlist j) ≡ on_stem f (node_net small_netlist j) (node_value small_netlist f values j)) (refl, (refl, (refl, (refl, (refl, tt)))));
  }

  exposed_at : settling_fault small_netlist f ≡ f → rail1 ≡ rail2 → Exposes small_netlist small_plan f 0 (a ∷ b ∷ [])
  exposed_at same agree = record {
    word = [];
    is_state = refl;
    sized = refl;
    valuation = values;
    settles = subst (λ g. Settles small_netlist g (bit (a ∷ b ∷ [])) (bits_under small_netlist f []) values) (sym same) (values_settle (bits_under small_netlist f []));
    rails_agree = agree;
  }

  exposed : settling_fault small_netlist f ≡ f → rail1 ≡ rail2 → IsExposed small_netlist small_plan f
  exposed same agree = record { state = 0; input = a ∷ b ∷ []; exposes = exposed_at same agree }

-- ---- each listed fault

-- the rails agree at the inputs a and b
abbrev seen_at : StuckAt → Bool → Bool → Bool
seen_at f a b = same (rail1 f a b) (rail2 f a b)

-- they do at some inputs
abbrev is_seen : StuckAt → Bool
is_seen f = (seen_at f false false || seen_at f false true) || (seen_at f true false || seen_at f true true)

all_seen : list_all is_seen (listed_faults small_netlist) ≡ true
all_seen = refl

each_passes : (p : StuckAt → Bool) (faults : List StuckAt) (f : StuckAt) → list_all p faults ≡ true → Contains faults f → p f ≡ true
each_passes p [] f all (k, l, e) = absurd (omega arith)
each_passes p (g ∷ faults) f all (zero, l, e) = subst (λ h. p h ≡ true) e (and_parts (p g) (list_all p faults) all).0
each_passes p (g ∷ faults) f all (suc k, l, e) = each_passes p faults f (and_parts (p g) (list_all p faults) all).1 (k, omega arith, e)

-- there is no latch, so a listed fault settles as it is
settles_itself : (f : StuckAt) → IsTrue (is_listed small_netlist f) → settling_fault small_netlist f ≡ f
settles_itself NoFault listed = refl
settles_itself (Stem net held) listed = refl
settles_itself (Pin driver index held) listed =
    let parts = and_parts (nat_lt driver (nets small_netlist)) (nat_lt index (pins_of small_netlist driver)) listed in
    cond-false (nat_lt driver 2) NoFault (Pin driver index held) (le-ltb driver 2 (pins_of_input small_netlist driver index parts.1))

seen_is_exposed : (f : StuckAt) → settling_fault small_netlist f ≡ f → is_seen f ≡ true → IsExposed small_netlist small_plan f
seen_is_exposed f itself seen = elim (or_cases (seen_at f false false || seen_at f false true) (seen_at f true false || seen_at f true true) seen) [
  | inl low ↦ elim (or_cases (seen_at f false false) (seen_at f false true) low) [
    | inl e ↦ exposed f false false itself (same_is (rail1 f false false) (rail2 f false false) e)
    | inr e ↦ exposed f false true itself (same_is (rail1 f false true) (rail2 f false true) e)
  ]
  | inr high ↦ elim (or_cases (seen_at f true false) (seen_at f true true) high) [
    | inl e ↦ exposed f true false itself (same_is (rail1 f true false) (rail2 f true false) e)
    | inr e ↦ exposed f true true itself (same_is (rail1 f true true) (rail2 f true true) e)
  ]
]

pub small_is_self_testing : SmallIsSelfTesting
small_is_self_testing f listed =
    seen_is_exposed f (settles_itself f listed)
    (each_passes is_seen (listed_faults small_netlist) f all_seen ((holds_the_listed small_netlist f).1 listed))

-- ---- where the output has its copy's bit the rails differ

rails_differ : (y c p r s : Bool) → y ≡ c → p ≡ truth not_cover (c ∷ []) → r ≡ truth buf_cover (y ∷ []) → s ≡ truth buf_cover (p ∷ []) → r ≡ s → ⊥
rails_differ true true p r s e f g h agree = true≢false (sym g ∙ agree ∙ h ∙ ap (λ z. truth buf_cover (z ∷ [])) f)
rails_differ true false p r s e f g h agree = true≢false e
rails_differ false true p r s e f g h agree = true≢false (sym e)
rails_differ false false p r s e f g h agree = true≢false (sym (ap (λ z. truth buf_cover (z ∷ [])) f) ∙ sym h ∙ sym agree ∙ g)

and_with_0 : (a b : Bool) → b ≡ false → truth and_cover (a ∷ b ∷ []) ≡ false
and_with_0 true true e = e
and_with_0 true false e = refl
and_with_0 false b e = refl

-- before 01 there is 00 alone, where y's pin doesn't matter
quiet_at_00 : Exposes small_netlist small_plan (Pin 2 0 true) 0 (false ∷ false ∷ []) → ⊥
quiet_at_00 h =
    let v = h.valuation in
    let is = h.settles in
    let b : bit v 1 ≡ false = is.inputs 1 (omega arith) in
    let y : bit v 2 ≡ false = is.nodes 0 (omega arith) ∙ and_with_0 true (bit v 1) b in
    let c : bit v 3 ≡ false = is.nodes 1 (omega arith) ∙ and_with_0 (bit v 0) (bit v 1) b in
    rails_differ (bit v 2) (bit v 3) (bit v 4) (bit v 5) (bit v 6) (y ∙ sym c) (is.nodes 2 (omega arith)) (is.nodes 3 (omega arith)) (is.nodes 4 (omega arith)) h.rails_agree

none_before : (y : List Bool) → length y ≡ 2 → binary y < 1 → y ≡ false ∷ false ∷ []
none_before [] e l = absurd (omega arith)
none_before (a ∷ []) e l = absurd (omega arith)
none_before (true ∷ b ∷ []) e l = absurd (omega arith)
none_before (false ∷ true ∷ []) e l = absurd (omega arith)
none_before (false ∷ false ∷ []) e l = refl
none_before (a ∷ b ∷ c ∷ y) e l = absurd (omega arith)

pub pin_is_first_exposed : PinIsFirstExposed
pin_is_first_exposed = record {
  exposes = exposed_at (Pin 2 0 true) false true refl refl;
  first = λ r y before h. elim before [
    | inl l ↦ absurd (omega arith)
    | inr w ↦
        let low : binary y < 1 = w.1 in
        quiet_at_00 (subst (λ z. Exposes small_netlist small_plan (Pin 2 0 true) 0 z) (none_before y h.sized low)
        (subst (λ q. Exposes small_netlist small_plan (Pin 2 0 true) q y) w.0 h))
  ];
}

-- ---- a pin that no row looks at

pub idle_pin_is_exposed_nowhere : IdlePinIsExposedNowhere
idle_pin_is_exposed_nowhere held found =
    let h = found.exposes in
    let v = h.valuation in
    let is = h.settles in
    let y : bit v 2 ≡ truth idle_cover (bit v 0 ∷ held ∷ []) = is.nodes 0 (omega arith) in
    let c : bit v 3 ≡ truth idle_cover (bit v 0 ∷ bit v 1 ∷ []) = is.nodes 1 (omega arith) in
    rails_differ (bit v 2) (bit v 3) (bit v 4) (bit v 5) (bit v 6) (y ∙ sym c) (is.nodes 2 (omega arith)) (is.nodes 3 (omega arith)) (is.nodes 4 (omega arith)) h.rails_agree
