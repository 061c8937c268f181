-- What stands in the fault list, driver by driver, and that nothing stands there twice.
use Rattle.std.proofs.Common.{◌≡◌, ℕ, zero, suc, ◌+◌, ◌-◌, ◌<◌, ◌≤◌, ◌⊎◌, inl, inr, Bool, true, false, nat_lt, nat_le, List, [], ◌∷◌, ◌++◌, length, get_or, Contains, IsTrue, refl, sym, ap, subst, ◌∙◌, arith, true≢false}
use Rattle.std.proofs.lemmas.Bool.{and_from, and_parts, leb-true, ltb-true, lt-ltb, le-leb, cases_lt}
use Rattle.std.proofs.lemmas.List.{get_or_default}
use Rattle.std.proofs.lemmas.List.Elements.{Contains-append_left, Contains-append_right, Contains-append_cases}
use Rattle.fault_secure.specs.Circuit.{Circuit, nets}
use Rattle.fault_secure.specs.StuckAt.{StuckAt, NoFault, Stem, Pin, pins_of, is_listed, fault_cell}
use Rattle.fault_secure.specs.Listed.{pin_faults, faults_at, faults_from, pin_counts, listed_faults}
use Rattle.fault_secure.proofs.ListedLemmas.{length-pin_counts, pins_of-at}
use Rattle.structure_laws.specs.FaultList.{HoldsTheListed, HoldsNoneTwice}
use Rattle.structure_laws.proofs.FailingCell.{pins_of_input}

-- ---- lists of faults

abbrev Faults : Type 0
Faults = List StuckAt

first_holds : (g : StuckAt) (faults : Faults) → Contains (g ∷ faults) g
first_holds g faults = (0, omega arith, refl)

rest_holds : (g : StuckAt) (faults : Faults) (f : StuckAt) → Contains faults f → Contains (g ∷ faults) f
rest_holds g faults f (k, l, e) = (suc k, omega arith, e)

first_or_rest : (g : StuckAt) (faults : Faults) (f : StuckAt) → Contains (g ∷ faults) f → (g ≡ f) ⊎ Contains faults f
first_or_rest g faults f (zero, l, e) = inl e
first_or_rest g faults f (suc k, l, e) = inr (k, omega arith, e)

none_holds : (f : StuckAt) → Contains [] f → ⊥
none_holds f (k, l, e) = omega arith

-- no fault stands among those behind it
abbrev Apart : Faults → Type 0
Apart [] = Unit {0}
Apart (f ∷ faults) = (Contains faults f → ⊥) × Apart faults

apart_joined : (first second : Faults) → Apart first → Apart second → ((f : StuckAt) → Contains first f → Contains second f → ⊥) → Apart (first ++ second)
apart_joined [] second a b never = b
apart_joined (f ∷ first) second a b never = (
  λ h. elim (Contains-append_cases first second f h) [
    | inl here ↦ a.0 here
    | inr there ↦ never f (first_holds f first) there
  ],
  apart_joined first second a.1 b (λ g h k. never g (rest_holds f first g h) k),
)

apart_places : (faults : Faults) (a b : ℕ) → Apart faults → a < b → b < length faults → get_or faults a NoFault ≡ get_or faults b NoFault → ⊥
apart_places [] a b apart l h e = omega arith
apart_places (f ∷ faults) a zero apart l h e = omega arith
apart_places (f ∷ faults) zero (suc b) apart l h e = apart.0 (b, omega arith, get_or_default faults b f NoFault (omega arith) ∙ sym e)
apart_places (f ∷ faults) (suc a) (suc b) apart l h e = apart_places faults a b apart.1 (omega arith) (omega arith) e

-- ---- the faults of one driver

-- the fault is one of a pin of the net's driver, from this pin on, of so many
record IsPin (net pin pins : ℕ) (f : StuckAt) : Type 0 where
  index : ℕ
  held : Bool
  low : pin ≤ index
  high : index < pin + pins
  is : Pin net index held ≡ f

held_cases : (net index : ℕ) (held : Bool) (faults : Faults) → Contains (Pin net index false ∷ Pin net index true ∷ faults) (Pin net index held)
held_cases net index false faults = first_holds (Pin net index false) (Pin net index true ∷ faults)
held_cases net index true faults = rest_holds (Pin net index false) (Pin net index true ∷ faults) (Pin net index true) (first_holds (Pin net index true) faults)

pins_are : (net pin pins : ℕ) (f : StuckAt) → Contains (pin_faults net pin pins) f → IsPin net pin pins f
pins_are net pin zero f h = absurd (none_holds f h)
pins_are net pin (suc pins) f h = elim (first_or_rest (Pin net pin false) (Pin net pin true ∷ pin_faults net (pin + 1) pins) f h) [
  | inl e ↦ record { index = pin; held = false; low = omega arith; high = omega arith; is = e }
  | inr more ↦ elim (first_or_rest (Pin net pin true) (pin_faults net (pin + 1) pins) f more) [
    | inl e ↦ record { index = pin; held = true; low = omega arith; high = omega arith; is = e }
    | inr rest ↦
        let is = pins_are net (pin + 1) pins f rest in
        record { index = is.index; held = is.held; low = (let l = is.low in omega arith); high = (let l = is.high in omega arith); is = is.is }
  ]
]

pins_have : (net pin pins index : ℕ) (held : Bool) → pin ≤ index → index < pin + pins → Contains (pin_faults net pin pins) (Pin net index held)
pins_have net pin zero index held l h = absurd (omega arith)
pins_have net pin (suc pins) index held l h = elim (cases_lt pin index) [
  | inl past ↦
      rest_holds (Pin net pin false) (Pin net pin true ∷ pin_faults net (pin + 1) pins) (Pin net index held)
      (rest_holds (Pin net pin true) (pin_faults net (pin + 1) pins) (Pin net index held) (pins_have net (pin + 1) pins index held (omega arith) (omega arith)))
  | inr here ↦
      let e : index ≡ pin = omega arith in
      subst (λ i. Contains (pin_faults net pin (suc pins)) (Pin net i held)) (sym e) (held_cases net pin held (pin_faults net (pin + 1) pins))
]

-- the fault is one of the driver of the net, which has so many pins
abbrev IsOfDriver : ℕ → ℕ → StuckAt → Type 0
IsOfDriver net pins f = ((held : Bool) × (Stem net held ≡ f)) ⊎ IsPin net 0 pins f

driver_is : (net pins : ℕ) (f : StuckAt) → Contains (faults_at net pins) f → IsOfDriver net pins f
driver_is net pins f h = elim (first_or_rest (Stem net false) (Stem net true ∷ pin_faults net 0 pins) f h) [
  | inl e ↦ inl (false, e)
  | inr more ↦ elim (first_or_rest (Stem net true) (pin_faults net 0 pins) f more) [
    | inl e ↦ inl (true, e)
    | inr rest ↦ inr (pins_are net 0 pins f rest)
  ]
]

stem_held : (net pins : ℕ) (held : Bool) → Contains (faults_at net pins) (Stem net held)
stem_held net pins false = first_holds (Stem net false) (Stem net true ∷ pin_faults net 0 pins)
stem_held net pins true = rest_holds (Stem net false) (Stem net true ∷ pin_faults net 0 pins) (Stem net true) (first_holds (Stem net true) (pin_faults net 0 pins))

pin_held : (net pins index : ℕ) (held : Bool) → index < pins → Contains (faults_at net pins) (Pin net index held)
pin_held net pins index held h =
    rest_holds (Stem net false) (Stem net true ∷ pin_faults net 0 pins) (Pin net index held)
    (rest_holds (Stem net true) (pin_faults net 0 pins) (Pin net index held) (pins_have net 0 pins index held (omega arith) (omega arith)))

-- ---- the faults of all drivers

-- the fault is one of the driver this far behind the first
record IsFrom (net : ℕ) (counts : List ℕ) (f : StuckAt) : Type 0 where
  offset : ℕ
  inside : offset < length counts
  holds : Contains (faults_at (net + offset) (get_or counts offset 0)) f

drivers_are : (net : ℕ) (counts : List ℕ) (f : StuckAt) → Contains (faults_from net counts) f → IsFrom net counts f
drivers_are net [] f h = absurd (none_holds f h)
drivers_are net (pins ∷ counts) f h = elim (Contains-append_cases (faults_at net pins) (faults_from (net + 1) counts) f h) [
  | inl here ↦
      let e : net ≡ net + 0 = omega arith in
      record { offset = 0; inside = omega arith; holds = subst (λ n. Contains (faults_at n pins) f) e here }
  | inr there ↦
      let is = drivers_are (net + 1) counts f there in
      let e : net + 1 + is.offset ≡ net + suc is.offset = omega arith in
      record {
        offset = suc is.offset;
        inside = (let l = is.inside in omega arith);
        holds = subst (λ n. Contains (faults_at n (get_or counts is.offset 0)) f) e is.holds;
      }
]

drivers_have : (net : ℕ) (counts : List ℕ) (offset : ℕ) (f : StuckAt) → offset < length counts
    → Contains (faults_at (net + offset) (get_or counts offset 0)) f → Contains (faults_from net counts) f
drivers_have net [] offset f l h = absurd (omega arith)
drivers_have net (pins ∷ counts) zero f l h =
    let e : net + 0 ≡ net = omega arith in
    Contains-append_left (faults_at net pins) (faults_from (net + 1) counts) f (subst (λ n. Contains (faults_at n pins) f) e h)
drivers_have net (pins ∷ counts) (suc offset) f l h =
    let e : net + suc offset ≡ net + 1 + offset = omega arith in
    Contains-append_right (faults_at net pins) (faults_from (net + 1) counts) f
    (drivers_have (net + 1) counts offset f (omega arith) (subst (λ n. Contains (faults_at n (get_or counts offset 0)) f) e h))

-- ---- exactly the listed ones

module _ (N : Circuit) where
  driver_net : (offset : ℕ) → offset < length (pin_counts N) → N.inputs + offset < nets N
  driver_net offset l = omega (arith, length-pin_counts N)

  driver_pins : (offset : ℕ) → offset < length (pin_counts N) → pins_of N (N.inputs + offset) ≡ get_or (pin_counts N) offset 0
  driver_pins offset l =
      let e : N.inputs + offset - N.inputs ≡ offset = omega arith in
      pins_of-at N (N.inputs + offset) (omega arith) (driver_net offset l) ∙ ap (λ k. get_or (pin_counts N) k 0) e

  of_driver_listed : (offset : ℕ) (f : StuckAt) → offset < length (pin_counts N)
      → IsOfDriver (N.inputs + offset) (get_or (pin_counts N) offset 0) f → IsTrue (is_listed N f)
  of_driver_listed offset f l (inl (held, e)) =
      subst (λ g. IsTrue (is_listed N g)) e
      (and_from (nat_le N.inputs (N.inputs + offset)) (nat_lt (N.inputs + offset) (nets N))
      (le-leb N.inputs (N.inputs + offset) (omega arith)) (lt-ltb (N.inputs + offset) (nets N) (driver_net offset l)))
  of_driver_listed offset f l (inr pin) =
      let below = pin.high in
      let few : pin.index < pins_of N (N.inputs + offset) = omega (arith, driver_pins offset l) in
      subst (λ g. IsTrue (is_listed N g)) pin.is
      (and_from (nat_lt (N.inputs + offset) (nets N)) (nat_lt pin.index (pins_of N (N.inputs + offset)))
      (lt-ltb (N.inputs + offset) (nets N) (driver_net offset l)) (lt-ltb pin.index (pins_of N (N.inputs + offset)) few))

  held_is_listed : (f : StuckAt) → Contains (listed_faults N) f → IsTrue (is_listed N f)
  held_is_listed f h =
      let is = drivers_are N.inputs (pin_counts N) f h in
      of_driver_listed is.offset f is.inside (driver_is (N.inputs + is.offset) (get_or (pin_counts N) is.offset 0) f is.holds)

  -- what the driver of a net has stands in the list
  net_holds : (net : ℕ) (f : StuckAt) → N.inputs ≤ net → net < nets N → Contains (faults_at net (pins_of N net)) f → Contains (listed_faults N) f
  net_holds net f past inside h =
      let e : net ≡ N.inputs + (net - N.inputs) = omega arith in
      drivers_have N.inputs (pin_counts N) (net - N.inputs) f (omega (arith, length-pin_counts N))
      (subst (λ n. Contains (faults_at n (get_or (pin_counts N) (net - N.inputs) 0)) f) e
      (subst (λ pins. Contains (faults_at net pins) f) (pins_of-at N net past inside) h))

  listed_is_held : (f : StuckAt) → IsTrue (is_listed N f) → Contains (listed_faults N) f
  listed_is_held NoFault e = absurd (true≢false (sym e))
  listed_is_held (Stem net held) e =
      let parts = and_parts (nat_le N.inputs net) (nat_lt net (nets N)) e in
      net_holds net (Stem net held) (leb-true N.inputs net parts.0) (ltb-true net (nets N) parts.1) (stem_held net (pins_of N net) held)
  listed_is_held (Pin driver index held) e =
      let parts = and_parts (nat_lt driver (nets N)) (nat_lt index (pins_of N driver)) e in
      net_holds driver (Pin driver index held) (pins_of_input N driver index parts.1) (ltb-true driver (nets N) parts.0)
      (pin_held driver (pins_of N driver) index held (ltb-true index (pins_of N driver) parts.1))

-- a fault stands in the list exactly where it is listed
pub holds_the_listed : HoldsTheListed
holds_the_listed N f = (held_is_listed N f, listed_is_held N f)

-- ---- none twice

same_index : (net i j : ℕ) (a b : Bool) → Pin net i a ≡ Pin net j b → i ≡ j
same_index net i j a b e = cc

same_held : (net i j : ℕ) (a b : Bool) → Pin net i a ≡ Pin net j b → a ≡ b
same_held net i j a b e = cc

same_stem : (net : ℕ) (a b : Bool) → Stem net a ≡ Stem net b → a ≡ b
same_stem net a b e = cc

pin_is_no_stem : (net index : ℕ) (a b : Bool) → Pin net index a ≡ Stem net b → ⊥
pin_is_no_stem net index a b e = cc

-- the faults of later pins are others
later_pins : (net pin pins : ℕ) (held : Bool) → Contains (pin_faults net (pin + 1) pins) (Pin net pin held) → ⊥
later_pins net pin pins held h =
    let is = pins_are net (pin + 1) pins (Pin net pin held) h in
    let e = same_index net is.index pin is.held held is.is in
    let l = is.low in
    omega arith

pins_apart : (net pin pins : ℕ) → Apart (pin_faults net pin pins)
pins_apart net pin zero = tt
pins_apart net pin (suc pins) = (
  λ h. elim (first_or_rest (Pin net pin true) (pin_faults net (pin + 1) pins) (Pin net pin false) h) [
    | inl e ↦ true≢false (same_held net pin pin true false e)
    | inr rest ↦ later_pins net pin pins false rest
  ],
  (λ h. later_pins net pin pins true h, pins_apart net (pin + 1) pins),
)

no_stem : (net pins : ℕ) (held : Bool) → Contains (pin_faults net 0 pins) (Stem net held) → ⊥
no_stem net pins held h = let is = pins_are net 0 pins (Stem net held) h in pin_is_no_stem net is.index is.held held is.is

driver_apart : (net pins : ℕ) → Apart (faults_at net pins)
driver_apart net pins = (
  λ h. elim (first_or_rest (Stem net true) (pin_faults net 0 pins) (Stem net false) h) [
    | inl e ↦ true≢false (same_stem net true false e)
    | inr rest ↦ no_stem net pins false rest
  ],
  (λ h. no_stem net pins true h, pins_apart net 0 pins),
)

net_of_driver : (net pins : ℕ) (f : StuckAt) → IsOfDriver net pins f → fault_cell f ≡ net
net_of_driver net pins f (inl (held, e)) = sym (ap fault_cell e)
net_of_driver net pins f (inr pin) = sym (ap fault_cell pin.is)

drivers_apart : (net : ℕ) (counts : List ℕ) → Apart (faults_from net counts)
drivers_apart net [] = tt
drivers_apart net (pins ∷ counts) = apart_joined (faults_at net pins) (faults_from (net + 1) counts) (driver_apart net pins) (drivers_apart (net + 1) counts)
    (λ f h k.
    let is = drivers_are (net + 1) counts f k in
    let here = net_of_driver net pins f (driver_is net pins f h) in
    let there = net_of_driver (net + 1 + is.offset) (get_or counts is.offset 0) f (driver_is (net + 1 + is.offset) (get_or counts is.offset 0) f is.holds) in
    omega arith)

pub holds_none_twice : HoldsNoneTwice
holds_none_twice N a b l h e = apart_places (listed_faults N) a b (drivers_apart N.inputs (pin_counts N)) l h e
