-- What the exposing points of a fault say of runs: at each of them the alarm comes, and a fault that has none changes no word.
use Rattle.std.specs.Prelude.{◌≡◌, ℕ, ◌+◌, ◌<◌, ◌≤◌, Bool, true, List, length, Some, IsTrue}
use Rattle.fault_secure.specs.Circuit.{Circuit, bit}
use Rattle.fault_secure.specs.StuckAt.{StuckAt, NoFault, is_listed}
use Rattle.fault_secure.specs.Settle.{Acyclic}
use Rattle.fault_secure.specs.Run.{init_state, Runs}
use Rattle.fault_secure.specs.CodePlan.{CodePlan, IsPlanOf, word, RailsAgree}
use Rattle.fault_secure.specs.Logic.{Logic}
use Rattle.fault_secure.specs.FaultSecure.{state_at, states_from, at_step, IsFaultSecure}
use Rattle.fault_secure.specs.Exposing.{Exposes, IsExposed}

-- a test of a listed fault: some inputs bring the netlist without a fault to the point's state by at least one step, with the fault
-- present at that last step and at the point. Then the alarm comes at the point, or came before
abbrev pub ExposedFaultsAlarm : Type 0
ExposedFaultsAlarm = (M : Logic) (N : Circuit) (P : CodePlan) (f : StuckAt) (q last : ℕ) (w : List Bool) (xs vs us : List (List Bool))
    → Acyclic N → IsPlanOf N P → IsFaultSecure M N P → IsTrue (is_listed N f) → Exposes N P f q (at_step xs (last + 1))
    → Runs N NoFault w xs vs → Runs N f w xs us → last + 1 < length xs → bit w last ≡ true → bit w (last + 1) ≡ true
    → state_at P (at_step (states_from N (init_state N) vs) (last + 1)) ≡ Some q
    → ((step : ℕ) → step ≤ last → RailsAgree P (at_step us step) → ⊥)
    → RailsAgree P (at_step us (last + 1))

-- a latent fault, one that no point exposes, present at any steps, changes no word for ever
abbrev pub LatentFaultsChangeNoWord : Type 0
LatentFaultsChangeNoWord = (M : Logic) (N : Circuit) (P : CodePlan) (f : StuckAt) (w : List Bool) (xs vs us : List (List Bool))
    → Acyclic N → IsPlanOf N P → IsFaultSecure M N P → IsTrue (is_listed N f) → (IsExposed N P f → ⊥)
    → Runs N NoFault w xs vs → Runs N f w xs us
    → (step : ℕ) → step < length xs → word N P (at_step us step) ≡ word N P (at_step vs step)
