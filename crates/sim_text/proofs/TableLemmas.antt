-- Steps that are looked up.
use Rattle.std.proofs.Common.{◌≡◌, ℕ, ◌+◌, ◌*◌, ◌^◌, ◌<◌, Bool, true, false, ◌&&◌, if◌then◌else◌, List, [], ◌∷◌, length, get_or, refl, sym, ap, ap₂, ◌∙◌, subst, arith}
use Rattle.std.proofs.lemmas.Nat.{mul-add-lt}
use Rattle.tsc_bits.specs.Bits.{bits_of, binary}
use Rattle.tsc_bits.proofs.Bits.{binary-lt, bits_of-binary}
use Rattle.fault_secure.specs.StuckAt.{StuckAt, NoFault, Stem, Pin, present}
use Rattle.tsc_net.specs.When.{has_step}
use Rattle.fault_sim.specs.Sim.{SimState, is_fault, IsStill, IsCall}
use Rattle.fault_sim.specs.Outcomes.{outcome_answer, IsOutcome, AreOutcomes}
use Rattle.fault_sim.specs.declared.outcome.Outcome.{Outcome}
use Rattle.fault_sim.proofs.OutcomeLemmas.{outcome_leads}
use Rattle.sim_text.specs.Tables.{AreTablesOf, AreWholeTables, sim_at, table_of}
use Rattle.sim_text.specs.declared.tables.Tables.{Tables}

-- ---- the table of a step

chosen : (A : StuckAt → List Outcome → Type 0) (f : StuckAt) (held : Bool) (right faulty : List Outcome) → A NoFault right → (is_fault f ≡ true → A f faulty)
    → A (present held f) (if is_fault f && held then faulty else right)
chosen A NoFault true right faulty is with_fault = is
chosen A NoFault false right faulty is with_fault = is
chosen A (Stem net b) true right faulty is with_fault = with_fault refl
chosen A (Stem net b) false right faulty is with_fault = is
chosen A (Pin driver index b) true right faulty is with_fault = with_fault refl
chosen A (Pin driver index b) false right faulty is with_fault = is

module _ (sim : SimState) (states : ℕ) (xs : List (List Bool)) (tables : Tables) (are : AreTablesOf sim states xs tables) (step : ℕ) where
  table_is : AreOutcomes sim.bench.circuit sim.plan (present (has_step sim.when step) sim.fault) states xs (table_of sim step tables)
  table_is =
      chosen (λ (f : StuckAt) (list : List Outcome). AreOutcomes sim.bench.circuit sim.plan f states xs list) sim.fault (has_step sim.when step) tables.right tables.faulty
      are.right are.faulty

  module _ (s i place : ℕ) (below : s < states) (inside : i < length xs) (at : place ≡ s * length xs + i) where
    pub entry_inside : place < length (table_of sim step tables)
    entry_inside =
        let h : s * length xs + i < length xs * states = mul-add-lt s (length xs) i states below inside in
        let sized : length (table_of sim step tables) ≡ states * length xs = table_is.sized in
        omega arith

    pub entry_is : (x : List Bool) (outcome : Outcome) → get_or xs i [] ≡ x → outcome ≡ get_or (table_of sim step tables) place outcome
        → IsOutcome sim.bench.circuit sim.plan (present (has_step sim.when step) sim.fault) x (bits_of (length sim.bench.circuit.latches) s) outcome
    entry_is x outcome input is =
        let Is : List Bool → Outcome → Type 0
        = λ y o. IsOutcome sim.bench.circuit sim.plan (present (has_step sim.when step) sim.fault) y (bits_of (length sim.bench.circuit.latches) s) o in
        subst (λ (y : List Bool). Is y outcome) input
        (subst (Is (get_or xs i [])) (sym (is ∙ ap (λ (k : ℕ). get_or (table_of sim step tables) k outcome) at)) (table_is.each s i outcome below inside))

-- the tables of all states and inputs
module _ (sim : SimState) (tables : Tables) (whole : AreWholeTables sim tables) (x : List Bool) (sized : length x ≡ sim.bench.circuit.inputs)
    (step state place : ℕ) (below : state < 2 ^ length sim.bench.circuit.latches) (at : place ≡ state * 2 ^ length x + binary x) where
  abbrev states : ℕ
  states = 2 ^ length sim.bench.circuit.latches

  wide : length whole.all ≡ 2 ^ length x
  wide = whole.inputs.sized ∙ ap (λ (n : ℕ). 2 ^ n) (sym sized)

  number_inside : binary x < length whole.all
  number_inside = let h : binary x < 2 ^ length x = binary-lt x in let e = wide in omega arith

  place_at : place ≡ state * length whole.all + binary x
  place_at = at ∙ ap (λ (n : ℕ). state * n + binary x) (sym wide)

  input_at : get_or whole.all (binary x) [] ≡ x
  input_at =
      let h : binary x < 2 ^ sim.bench.circuit.inputs = subst (λ (n : ℕ). binary x < 2 ^ n) sized (binary-lt x) in
      whole.inputs.each (binary x) h ∙ (ap (λ (n : ℕ). bits_of n (binary x)) (sym sized) ∙ bits_of-binary x)

  pub whole_inside : place < length (table_of sim step tables)
  whole_inside = entry_inside sim states whole.all tables whole.are step state (binary x) place below number_inside place_at

  pub whole_is : (outcome : Outcome) → outcome ≡ get_or (table_of sim step tables) place outcome
      → IsOutcome sim.bench.circuit sim.plan (present (has_step sim.when step) sim.fault) x (bits_of (length sim.bench.circuit.latches) state) outcome
  whole_is outcome is = entry_is sim states whole.all tables whole.are step state (binary x) place below number_inside place_at x outcome input_at is

-- ---- simulations that stand

module _ (old new : SimState) (still : IsStill old new) where
  pub tables_still : (states : ℕ) (xs : List (List Bool)) (tables : Tables) → AreTablesOf old states xs tables → AreTablesOf new states xs tables
  tables_still states xs tables are = record {
    right = rw (still.same.circuit, still.same.plan) are.right;
    faulty = λ is.
        let there : is_fault old.fault ≡ true = rw still.same.fault at is in
        rw (still.same.circuit, still.same.plan, still.same.fault) (are.faulty there);
  }

-- ---- a simulation at a step

pub sim_start : (sim : SimState) (state : ℕ) → sim.step ≡ 0 → bits_of (length sim.bench.circuit.latches) state ≡ sim.state → sim_at sim 0 state ≡ sim
sim_start sim state first bits = ap₂ (λ (n : ℕ) (s : List Bool). record sim { step = n; state = s }) (sym first) bits

-- without latches there is one state
pub no_state : (n s : ℕ) (bits : List Bool) → length bits ≡ n → n ≡ 0 → bits_of n s ≡ bits
no_state n s bits sized none = ap (λ k. bits_of k s) none ∙ empty_is bits (sized ∙ none)
  where
    empty_is : (list : List Bool) → length list ≡ 0 → [] ≡ list
    empty_is [] empty = refl
    empty_is (b ∷ list) empty = absurd (omega arith)

pub one_state : (n s t : ℕ) → n ≡ 0 → bits_of n s ≡ bits_of n t
one_state n s t none = ap (λ k. bits_of k s) none ∙ ap (λ k. bits_of k t) (sym none)

pub outcome_is_call : (sim : SimState) (step state : ℕ) (x : List Bool) (outcome : Outcome)
    → IsOutcome sim.bench.circuit sim.plan (present (has_step sim.when step) sim.fault) x (bits_of (length sim.bench.circuit.latches) state) outcome
    → IsCall (sim_at sim step state) x (outcome_answer (length sim.bench.circuit.latches) outcome) (sim_at sim (step + 1) outcome.state)
outcome_is_call sim step state x outcome is = outcome_leads (sim_at sim step state) (sim_at sim (step + 1) outcome.state) x outcome is refl refl
    (record { circuit = refl; watched = refl; rows = refl; plan = refl; fault = refl; when = refl })

pub still_on : (a b c : SimState) → IsStill a b → IsStill b c → IsStill a c
still_on a b c one more = record {
  same = record {
    circuit = more.same.circuit ∙ one.same.circuit;
    watched = more.same.watched ∙ one.same.watched;
    rows = more.same.rows ∙ one.same.rows;
    plan = more.same.plan ∙ one.same.plan;
    fault = more.same.fault ∙ one.same.fault;
    when = more.same.when ∙ one.same.when;
  };
  step = more.step ∙ one.step;
  state = more.state ∙ one.state;
  next = more.next ∙ one.next;
}

-- the step at a place of a batch, whose first has the number `first`; without latches there is one state
pub batch_call : (sim : SimState) (xs : List (List Bool)) (tables : Tables) (first place step : ℕ) (outcome : Outcome) → AreTablesOf sim 1 xs tables
    → length sim.bench.circuit.latches ≡ 0 → place < length xs → step ≡ first + place → outcome ≡ get_or (table_of sim step tables) place outcome
    → IsCall (sim_at sim (first + place) 0) (get_or xs place []) (outcome_answer (length sim.bench.circuit.latches) outcome) (sim_at sim (first + (place + 1)) 0)
batch_call sim xs tables first place step outcome are none inside number is =
    let IsSo : ℕ → List Bool → Type 0 = λ n s. IsCall (sim_at sim (first + place) 0) (get_or xs place []) (outcome_answer (length sim.bench.circuit.latches) outcome) (record sim { step = n; state = s }) in
    let here : outcome ≡ get_or (table_of sim (first + place) tables) place outcome = subst (λ (n : ℕ). outcome ≡ get_or (table_of sim n tables) place outcome) number is in
    let one = outcome_is_call sim (first + place) 0 (get_or xs place []) outcome
    (entry_is sim 1 xs tables are (first + place) 0 place place (omega arith) inside (omega arith) (get_or xs place []) outcome refl here) in
    let after : first + place + 1 ≡ first + (place + 1) = omega arith in
    subst (λ (n : ℕ). IsSo n (bits_of (length sim.bench.circuit.latches) 0)) after
    (subst (IsSo (first + place + 1)) (one_state (length sim.bench.circuit.latches) outcome.state 0 none) one)
