-- Runs of a circuit, step by step, with a fault present at some steps.
use Rattle.std.specs.Prelude.{◌≡◌, ℕ, suc, Bool, List, [], ◌∷◌, map}
use Rattle.fault_secure.specs.Circuit.{Circuit, LatchOf, latch_net, bit}
use Rattle.fault_secure.specs.StuckAt.{StuckAt, on_pin, present}
use Rattle.fault_secure.specs.Settle.{Settles}

-- the bits that the latches hold first
abbrev pub init_state : Circuit → List Bool
init_state N = map (λ l. l.init) N.latches

-- what the pins of the latches read, from latch number l on
abbrev pub latch_reads : Circuit → StuckAt → List Bool → ℕ → List LatchOf → List Bool
latch_reads N f v l [] = []
latch_reads N f v l (latch ∷ latches) =
    on_pin f (latch_net N l) 0 (bit v latch.reads) ∷ latch_reads N f v (suc l) latches

-- the state bits of the next step: what each latch's pin reads at this one
abbrev pub next_state : Circuit → StuckAt → List Bool → List Bool
next_state N f v = latch_reads N f v 0 N.latches

-- from the state bits s on: at each step the valuation settles with that step's input, under the fault where it is present
abbrev pub RunsFrom : Circuit → StuckAt → List Bool → List Bool → List (List Bool) → List (List Bool) → Type 0
RunsFrom N f s [] [] [] = Unit {0}
RunsFrom N f s (here ∷ w) (x ∷ xs) (v ∷ vs) =
    Settles N (present here f) (bit x) (bit s) v × RunsFrom N f (next_state N (present here f) v) w xs vs
RunsFrom N f s [] [] (v ∷ vs) = ⊥
RunsFrom N f s [] (x ∷ xs) vs = ⊥
RunsFrom N f s (here ∷ w) [] vs = ⊥
RunsFrom N f s (here ∷ w) (x ∷ xs) [] = ⊥

-- a run over the inputs xs, the fault f present at the steps that w marks; "from step t on" is t zeros and then ones
abbrev pub Runs : Circuit → StuckAt → List Bool → List (List Bool) → List (List Bool) → Type 0
Runs N f w xs vs = RunsFrom N f (init_state N) w xs vs

-- there is exactly one run
pub record HasOneRun (N : Circuit) (f : StuckAt) (w : List Bool) (xs : List (List Bool)) : Type 0 where
  pub run : List (List Bool)
  pub runs : Runs N f w xs run
  pub only : (vs : List (List Bool)) → Runs N f w xs vs → vs ≡ run
