-- Steps that are worked out before they are taken.
use Rattle.std.specs.Prelude.{◌≡◌, ℕ, ◌<◌, ◌≤◌, ◌^◌, Bool, true, ◌&&◌, if◌then◌else◌, List, [], length, slice_index_or}
use Rattle.tsc_bits.specs.Bits.{bits_of}
use Rattle.fault_secure.specs.StuckAt.{NoFault}
use Rattle.tsc_net.specs.When.{has_step}
use Rattle.fault_sim.specs.Sim.{SimState, is_fault}
use Rattle.fault_sim.specs.Outcomes.{AreOutcomes}
use Rattle.fault_sim.specs.declared.outcome.Outcome.{Outcome}
use Rattle.sim_text.specs.declared.tables.Tables.{Tables}

-- where there is a fault these are the outcomes with it
abbrev pub AreTheFaulty : SimState → ℕ → List (List Bool) → List Outcome → Type 0
AreTheFaulty sim states xs outcomes = is_fault sim.fault ≡ true → AreOutcomes sim.bench.circuit sim.plan sim.fault states xs outcomes

-- the outcomes from each of the first `states` states over each of the inputs xs, without the fault and with it
pub record AreTablesOf (sim : SimState) (states : ℕ) (xs : List (List Bool)) (tables : Tables) : Type 0 where
  pub right : AreOutcomes sim.bench.circuit sim.plan NoFault states xs tables.right
  pub faulty : AreTheFaulty sim states xs tables.faulty

-- the table of a step: the faulty one where a fault is present
abbrev pub table_of : SimState → ℕ → Tables → List Outcome
table_of sim step tables = if is_fault sim.fault && has_step sim.when step then tables.faulty else tables.right

-- the tables have room for the outcomes of so many steps
pub record HaveRoom (sim : SimState) (count : ℕ) (tables : Tables) : Type 0 where
  pub right : count ≤ length tables.right
  pub faulty : is_fault sim.fault ≡ true → count ≤ length tables.faulty

-- all lists of n bits, in binary order
pub record AreAllInputs (n : ℕ) (xs : List (List Bool)) : Type 0 where
  pub sized : length xs ≡ 2 ^ n
  pub each : (i : ℕ) → i < 2 ^ n → slice_index_or xs i [] ≡ bits_of n i

-- the outcomes from each state over each input
pub record AreWholeTables (sim : SimState) (tables : Tables) : Type 0 where
  pub all : List (List Bool)
  pub inputs : AreAllInputs sim.bench.circuit.inputs all
  pub are : AreTablesOf sim (2 ^ length sim.bench.circuit.latches) all tables

-- the simulation at the step with this number, with this state
abbrev pub sim_at : SimState → ℕ → ℕ → SimState
sim_at sim step state = record sim { step = step; state = bits_of (length sim.bench.circuit.latches) state }
