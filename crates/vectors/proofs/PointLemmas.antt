-- The points that are put, and where a fault is exposed at them.
use Rattle.std.proofs.Common.{◌≡◌, ℕ, suc, ◌+◌, ◌-◌, ◌/◌, ◌^◌, ◌<◌, ◌≤◌, ◌==◌, ◌&&◌, nat_lt, cond, Bool, true, false, List, [], ◌∷◌, length, Option, Some, None, refl, sym, ap, ap₂, ◌∙◌, subst, arith, lt-ltb, le-ltb, le-leb, true≢false}
use Rattle.std.specs.Prelude.{unwrap_or, IsTrue, is_some}
use Rattle.std.specs.Option.{option_map}
use Rattle.std.proofs.Math.Logic.{⊎_elim}
use Rattle.std.proofs.lemmas.Bool.{cases_lt, cond-true, cond-false, ne_eqb, ltb-true}
use Rattle.tsc_bits.specs.Bits.{bits_of}
use Rattle.tsc_bits.proofs.Bits.{length-bits_of}
use Rattle.fault_secure.specs.Circuit.{Circuit, nets, node, node_net, latch_net, bit}
use Rattle.fault_secure.specs.StuckAt.{StuckAt, NoFault, Stem, Pin, on_stem, is_listed, pins_of}
use Rattle.fault_secure.specs.Settle.{Settles, read_values, node_value}
use Rattle.tsc_cover.specs.Cover.{truth}
use Rattle.fault_secure.specs.CodePlan.{CodePlan}
use Rattle.fault_secure.specs.Exposing.{settling_fault, bits_under, word_of_state}
use Rattle.lane_sim.specs.First.{IsFirstIn}
use Rattle.lane_sim.specs.Points.{PointsState, point_input, point_state}
use Rattle.lane_sim.specs.Places.{HasInputOf, HasStateOf}
use Rattle.lane_sim.specs.FaultBench.{AgreeUnder}
use Rattle.vectors.specs.Vectors.{input_of_place, ExposesAt}
use Rattle.vectors.specs.Trial.{IsPointAt, ArePointsFrom, exposing_fault}

-- ---- points

-- a point with the input of a place, and the word of its state, is the one at the place
pub place_point : (N : Circuit) (P : CodePlan) (count : ℕ) (points : PointsState) (p place : ℕ) → count ≡ N.inputs → P.latches ≡ length N.latches → HasInputOf count points p place
    → HasStateOf P count points p place → IsPointAt N P points p place
place_point N P count points p place same latches input state = record {
  word = state.word;
  is_state = subst (λ (n : ℕ). word_of_state P (place / 2 ^ n) ≡ Some state.word) same state.is_state;
  input = λ k h. input k (subst (λ (n : ℕ). k < n) (sym same) h) ∙ ap (λ (n : ℕ). bit (bits_of n place) k) same;
  state = λ l h. state.state l (omega arith);
}

-- ---- the fault that is exposed at the same points

-- the same bits of inputs and latches
settles_alike : (N : Circuit) (f : StuckAt) (x y s t : ℕ → Bool) (v : List Bool) → ((k : ℕ) → k < N.inputs → x k ≡ y k) → ((l : ℕ) → l < length N.latches → s l ≡ t l)
    → Settles N f x s v → Settles N f y t v
settles_alike N f x y s t v inputs latches settles = record {
  sized = settles.sized;
  inputs = λ i h. settles.inputs i h ∙ ap (on_stem f i) (inputs i h);
  latches = λ l h. settles.latches l h ∙ ap (on_stem f (latch_net N l)) (latches l h);
  nodes = settles.nodes;
}

both : (a b : Bool) → (a && b) ≡ true → (a ≡ true) × (b ≡ true)
both true b is = (refl, is)
both false b is = absurd (true≢false (sym is))

also_true : (a b : Bool) → b ≡ true → (a && b) ≡ a
also_true true b is = is
also_true false b is = refl

module _ (N : Circuit) where
  abbrev first : ℕ
  first = N.inputs + length N.latches

  -- a listed pin of a latch is its only one
  latch_pin : (driver index : ℕ) (held : Bool) → IsTrue (is_listed N (Pin driver index held)) → driver < first → (N.inputs ≤ driver) × (index ≡ 0)
  latch_pin driver index held listed low =
      let pin : nat_lt index (pins_of N driver) ≡ true = (both (nat_lt driver (nets N)) (nat_lt index (pins_of N driver)) listed).1 in ⊎_elim
      (λ input. let none : pins_of N driver ≡ 0 = cond-true (nat_lt driver N.inputs) _ _ (lt-ltb driver N.inputs input) in
      let less : index < pins_of N driver = ltb-true index (pins_of N driver) pin in absurd (omega (arith, none, less)))
      (λ past. let one : pins_of N driver ≡ 1 = cond-false (nat_lt driver N.inputs) _ _ (le-ltb driver N.inputs past) ∙ cond-true (nat_lt driver first) _ _ (lt-ltb driver first low) in
      let less : index < pins_of N driver = ltb-true index (pins_of N driver) pin in (past, omega (arith, one, less)))
      (cases_lt driver N.inputs)

  exposing_low : (driver index : ℕ) (held : Bool) → driver < first → exposing_fault N (Pin driver index held) ≡ Stem driver held
  exposing_low driver index held low = cond-true (nat_lt driver first) _ _ (lt-ltb driver first low)

  exposing_high : (driver index : ℕ) (held : Bool) → first ≤ driver → exposing_fault N (Pin driver index held) ≡ Pin driver index held
  exposing_high driver index held high = cond-false (nat_lt driver first) _ _ (le-ltb driver first high)

  settling_low : (driver index : ℕ) (held : Bool) → driver < first → settling_fault N (Pin driver index held) ≡ NoFault
  settling_low driver index held low = cond-true (nat_lt driver first) _ _ (lt-ltb driver first low)

  settling_high : (driver index : ℕ) (held : Bool) → first ≤ driver → settling_fault N (Pin driver index held) ≡ Pin driver index held
  settling_high driver index held high = cond-false (nat_lt driver first) _ _ (le-ltb driver first high)

  -- it is listed too
  pub exposing_listed : (f : StuckAt) → IsTrue (is_listed N f) → IsTrue (is_listed N (exposing_fault N f))
  exposing_listed NoFault listed = listed
  exposing_listed (Stem net held) listed = listed
  exposing_listed (Pin driver index held) listed = ⊎_elim
      (λ low.
      let past = (latch_pin driver index held listed low).0 in
      let inside : nat_lt driver (nets N) ≡ true = lt-ltb driver (nets N) (omega arith) in
      subst (λ (g : StuckAt). IsTrue (is_listed N g)) (sym (exposing_low driver index held low)) (ap₂ ◌&&◌ (le-leb N.inputs driver past) inside))
      (λ high. subst (λ (g : StuckAt). IsTrue (is_listed N g)) (sym (exposing_high driver index held high)) listed)
      (cases_lt driver first)

  -- a pin of a latch is read by no node
  stem_reads : (at : ℕ) (held : Bool) (v : List Bool) (driver pin : ℕ) (reads : List ℕ) → read_values (Stem at held) v driver pin reads ≡ read_values NoFault v driver pin reads
  stem_reads at held v driver pin [] = refl
  stem_reads at held v driver pin (net ∷ reads) = ap (λ bits. bit v net ∷ bits) (stem_reads at held v driver (suc pin) reads)

  module _ (driver index : ℕ) (held : Bool) (past : N.inputs ≤ driver) (low : driver < first) (only : index ≡ 0) (x : ℕ → Bool) (word v : List Bool) where
    input_same : (i : ℕ) → i < N.inputs → on_stem (Stem driver held) i (x i) ≡ x i
    input_same i below = cond-false (driver == i) held (x i) (ne_eqb driver i (λ same. omega arith))

    latch_same : (l : ℕ) → bits_under N (Pin driver index held) word l ≡ on_stem (Stem driver held) (latch_net N l) (bit word l)
    latch_same l = ap (λ b. cond b held (bit word l)) (also_true (driver == latch_net N l) (index == 0) (ap (λ k. k == 0) only))

    node_same : (j : ℕ) → on_stem (Stem driver held) (node_net N j) (node_value N (Stem driver held) v j) ≡ node_value N NoFault v j
    node_same j =
        cond-false (driver == node_net N j) held (node_value N (Stem driver held) v j) (ne_eqb driver (node_net N j) (λ same. omega arith))
        ∙ ap (truth (node N j).cover) (stem_reads driver held v (node_net N j) 0 (node N j).reads)

    to_stem : Settles N NoFault x (bits_under N (Pin driver index held) word) v → Settles N (Stem driver held) x (bit word) v
    to_stem settles = record {
      sized = settles.sized;
      inputs = λ i below. settles.inputs i below ∙ sym (input_same i below);
      latches = λ l below. settles.latches l below ∙ latch_same l;
      nodes = λ j below. settles.nodes j below ∙ sym (node_same j);
    }

    from_stem : Settles N (Stem driver held) x (bit word) v → Settles N NoFault x (bits_under N (Pin driver index held) word) v
    from_stem settles = record {
      sized = settles.sized;
      inputs = λ i below. settles.inputs i below ∙ input_same i below;
      latches = λ l below. settles.latches l below ∙ sym (latch_same l);
      nodes = λ j below. settles.nodes j below ∙ node_same j;
    }

  -- a pin of a node holds no bit of a state
  high_bits : (driver index : ℕ) (held : Bool) (word : List Bool) → first ≤ driver → (l : ℕ) → l < length N.latches → bits_under N (Pin driver index held) word l ≡ bit word l
  high_bits driver index held word high l below =
      ap (λ b. cond (b && (index == 0)) held (bit word l)) (ne_eqb driver (latch_net N l) (λ same. omega arith))

  -- what settles under the one from the bits that the fault leaves settles under the other from those of the word
  pub to_exposing : (f : StuckAt) (x : ℕ → Bool) (word v : List Bool) → IsTrue (is_listed N f) → Settles N (settling_fault N f) x (bits_under N f word) v
      → Settles N (exposing_fault N f) x (bit word) v
  to_exposing NoFault x word v listed settles = settles
  to_exposing (Stem net held) x word v listed settles = settles
  to_exposing (Pin driver index held) x word v listed settles = ⊎_elim
      (λ low.
      let pin = latch_pin driver index held listed low in
      subst (λ (g : StuckAt). Settles N g x (bit word) v) (sym (exposing_low driver index held low))
      (to_stem driver index held pin.0 low pin.1 x word v
      (subst (λ (g : StuckAt). Settles N g x (bits_under N (Pin driver index held) word) v) (settling_low driver index held low) settles)))
      (λ high.
      subst (λ (g : StuckAt). Settles N g x (bit word) v) (sym (exposing_high driver index held high))
      (settles_alike N (Pin driver index held) x x (bits_under N (Pin driver index held) word) (bit word) v (λ k below. refl) (high_bits driver index held word high)
      (subst (λ (g : StuckAt). Settles N g x (bits_under N (Pin driver index held) word) v) (settling_high driver index held high) settles)))
      (cases_lt driver first)

  pub from_exposing : (f : StuckAt) (x : ℕ → Bool) (word v : List Bool) → IsTrue (is_listed N f) → Settles N (exposing_fault N f) x (bit word) v
      → Settles N (settling_fault N f) x (bits_under N f word) v
  from_exposing NoFault x word v listed settles = settles
  from_exposing (Stem net held) x word v listed settles = settles
  from_exposing (Pin driver index held) x word v listed settles = ⊎_elim
      (λ low.
      let pin = latch_pin driver index held listed low in
      subst (λ (g : StuckAt). Settles N g x (bits_under N (Pin driver index held) word) v) (sym (settling_low driver index held low))
      (from_stem driver index held pin.0 low pin.1 x word v
      (subst (λ (g : StuckAt). Settles N g x (bit word) v) (exposing_low driver index held low) settles)))
      (λ high.
      subst (λ (g : StuckAt). Settles N g x (bits_under N (Pin driver index held) word) v) (sym (settling_high driver index held high))
      (settles_alike N (Pin driver index held) x x (bit word) (bits_under N (Pin driver index held) word) v (λ k below. refl)
      (λ l below. sym (high_bits driver index held word high l below))
      (subst (λ (g : StuckAt). Settles N g x (bit word) v) (exposing_high driver index held high) settles)))
      (cases_lt driver first)

-- ---- where the rails agree

module _ (N : Circuit) (P : CodePlan) (f : StuckAt) (points : PointsState) (listed : IsTrue (is_listed N f)) where
  abbrev Agree : ℕ → Type 0
  Agree p = AgreeUnder N (exposing_fault N f) points P.rail1 P.rail2 p

  exposed_agree : (p place : ℕ) → IsPointAt N P points p place → ExposesAt N P f place → Agree p
  exposed_agree p place point e =
      let same : e.word ≡ point.word = ap (λ (o : Option (List Bool)). unwrap_or o []) (sym e.is_state ∙ point.is_state) in
      let at_word : Settles N (settling_fault N f) (bit (input_of_place N place)) (bits_under N f point.word) e.valuation
      = subst (λ (w : List Bool). Settles N (settling_fault N f) (bit (input_of_place N place)) (bits_under N f w) e.valuation) same e.settles in
      record {
        valuation = e.valuation;
        settles = settles_alike N (exposing_fault N f) (bit (input_of_place N place)) (point_input points p) (bit point.word) (point_state points p) e.valuation
            (λ k h. sym (point.input k h)) (λ l h. sym (point.state l h)) (to_exposing N f (bit (input_of_place N place)) point.word e.valuation listed at_word);
        agree = e.rails_agree;
      }

  agree_exposes : (p place : ℕ) → IsPointAt N P points p place → Agree p → ExposesAt N P f place
  agree_exposes p place point at = record {
    word = point.word;
    is_state = point.is_state;
    sized = length-bits_of N.inputs place;
    valuation = at.valuation;
    settles = from_exposing N f (bit (input_of_place N place)) point.word at.valuation listed
        (settles_alike N (exposing_fault N f) (point_input points p) (bit (input_of_place N place)) (point_state points p) (bit point.word) at.valuation point.input point.state at.settles);
    rails_agree = at.agree;
  }

  -- the first point of a batch at which they agree is the first place of it at which the fault is exposed
  first_of_batch : (first past : ℕ) → first ≤ past → ArePointsFrom N P points first (past - first)
      → (point : Option ℕ) → IsFirstIn Agree 0 (past - first) point → IsFirstIn (ExposesAt N P f) first past (option_map (λ p. first + p) point)
  first_of_batch first past order put None none = λ place low high e.
      let p : ℕ = place - first in
      let at : place ≡ first + p = omega arith in
      none p (omega arith) (omega arith) (exposed_agree p (first + p) (put p (omega arith)) (subst (ExposesAt N P f) at e))
  first_of_batch first past order put (Some p) found =
      let inside : p < past - first = found.1 in (
        omega arith,
        omega arith,
        agree_exposes p (first + p) (put p inside) found.2,
        λ place low high e.
            let q : ℕ = place - first in
            let at : place ≡ first + q = omega arith in
            found.3 q (omega arith) (omega arith) (exposed_agree q (first + q) (put q (omega arith)) (subst (ExposesAt N P f) at e)),
      )

  pub first_until : (first past : ℕ) → first ≤ past → ArePointsFrom N P points first (past - first) → IsFirstIn (ExposesAt N P f) 0 first None
      → (point : Option ℕ) → IsFirstIn Agree 0 (past - first) point → IsFirstIn (ExposesAt N P f) 0 past (option_map (λ p. first + p) point)
  first_until first past order put none point found = joined first past (option_map (λ p. first + p) point) none (first_of_batch first past order put point found)
    where
      joined : (first past : ℕ) (place : Option ℕ) → IsFirstIn (ExposesAt N P f) 0 first None → IsFirstIn (ExposesAt N P f) first past place
          → IsFirstIn (ExposesAt N P f) 0 past place
      joined first past None none found = λ p low high e. ⊎_elim (λ before. none p low before e) (λ behind. found p behind high e) (cases_lt p first)
      joined first past (Some place) none found =
          (omega arith, found.1, found.2, λ p low high e. ⊎_elim (λ before. none p low before e) (λ behind. found.3 p behind high e) (cases_lt p first))

-- ---- the same of what is equal

pub same_agreement : (C N : Circuit) (g h : StuckAt) (points : PointsState) (a b one other many : ℕ) (point : Option ℕ) → C ≡ N → g ≡ h → a ≡ one → b ≡ other
    → IsFirstIn (AgreeUnder C g points a b) 0 many point → IsFirstIn (AgreeUnder N h points one other) 0 many point
same_agreement C N g h points a b one other many point circuit fault first second found =
    subst (λ n. IsFirstIn (AgreeUnder N h points one n) 0 many point) second
    (subst (λ n. IsFirstIn (AgreeUnder N h points n b) 0 many point) first
    (subst (λ (f : StuckAt). IsFirstIn (AgreeUnder N f points a b) 0 many point) fault
    (subst (λ (M : Circuit). IsFirstIn (AgreeUnder M g points a b) 0 many point) circuit found)))

pub none_before : (E : ℕ → Type 0) (first : ℕ) (found : Option ℕ) → is_some found ≡ false → IsFirstIn E 0 first found → IsFirstIn E 0 first None
none_before E low None none at = at
none_before E low (Some place) none at = absurd (true≢false none)
