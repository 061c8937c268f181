-- Fault-secure: no wrong output comes before its alarm, with one listed fault present at any set of steps.
use Rattle.std.specs.Prelude.{◌≡◌, ℕ, ◌<◌, ◌≤◌, ◌⊎◌, Bool, true, false, ◌&&◌, List, [], ◌∷◌, map, take, length, slice_index_or, position, if◌then◌else◌, Option, Some, All, IsTrue, ◌==◌}
use Rattle.tsc_bits.specs.Bits.{same}
use Rattle.fault_secure.specs.Circuit.{Circuit, bit}
use Rattle.fault_secure.specs.StuckAt.{StuckAt, NoFault, is_listed}
use Rattle.fault_secure.specs.Run.{init_state, next_state, Runs, HasOneRun}
use Rattle.fault_secure.specs.CodePlan.{CodePlan, next_nets, word, IsCodeword, RailsAgree}
use Rattle.fault_secure.specs.Logic.{Logic, reset_of, AllowsOutputs, AllowsNext}

-- the outputs of a valuation, without the rails
abbrev pub outputs_in : Circuit → CodePlan → List Bool → List Bool
outputs_in N P v = map (bit v) (take P.outputs N.outputs)

-- the bits at the latch inputs
abbrev pub next_in : Circuit → List Bool → List Bool
next_in N v = map (bit v) (next_nets N)

-- the two words of bits are equal
abbrev pub equal_bits : List Bool → List Bool → Bool
equal_bits [] [] = true
equal_bits (a ∷ as_) (b ∷ bs) = same a b && equal_bits as_ bs
equal_bits [] (b ∷ bs) = false
equal_bits (a ∷ as_) [] = false

-- the state whose word this is, by its place in the plan's list; without latches the state 0
abbrev pub state_at : CodePlan → List Bool → Option ℕ
state_at P s = if P.latches == 0 then Some 0 else position (equal_bits s) P.states

-- one step without a fault follows the source from the trace state q to q'
pub record StepFollows (M : Logic) (N : Circuit) (P : CodePlan) (s x v : List Bool) : Type 0 where
  pub here : ℕ
  pub next : ℕ
  pub traced : state_at P s ≡ Some here
  pub arrives : state_at P (next_in N v) ≡ Some next
  pub outputs : AllowsOutputs M P.version here x (outputs_in N P v)
  pub next_allowed : AllowsNext M P.version here x next

-- from the state s on, each step that has both its input and its valuation follows the source
abbrev pub FollowsFrom : Logic → Circuit → CodePlan → List Bool → List (List Bool) → List (List Bool) → Type 0
FollowsFrom M N P s [] vs = Unit {0}
FollowsFrom M N P s (x ∷ xs) [] = Unit {0}
FollowsFrom M N P s (x ∷ xs) (v ∷ vs) = StepFollows M N P s x v × FollowsFrom M N P (next_state N NoFault v) xs vs

-- a run without a fault follows the source: it starts at the reset state, and each step is one that the source allows
pub record Follows (M : Logic) (N : Circuit) (P : CodePlan) (xs vs : List (List Bool)) : Type 0 where
  pub starts : state_at P (init_state N) ≡ Some (reset_of M)
  pub steps : FollowsFrom M N P (init_state N) xs vs

-- a step without a fault is quiet: its word is a codeword, and the rails differ
pub record IsQuiet (N : Circuit) (P : CodePlan) (v : List Bool) : Type 0 where
  pub codeword : IsCodeword P (word N P v)
  pub rails_differ : RailsAgree P v → ⊥

-- a valuation shows an error: its word is no codeword, and the rails agree
pub record Shows (N : Circuit) (P : CodePlan) (v : List Bool) : Type 0 where
  pub no_codeword : IsCodeword P (word N P v) → ⊥
  pub rails_agree : RailsAgree P v

-- the first word that differs from the one without a fault shows it
abbrev pub FirstErrorShows : Circuit → CodePlan → List (List Bool) → List (List Bool) → Type 0
FirstErrorShows N P [] us = Unit {0}
FirstErrorShows N P (v ∷ vs) [] = Unit {0}
FirstErrorShows N P (v ∷ vs) (u ∷ us) =
    (word N P u ≡ word N P v → FirstErrorShows N P vs us) × ((word N P u ≡ word N P v → ⊥) → Shows N P u)

-- the state bits at each step of a run without a fault
abbrev pub states_from : Circuit → List Bool → List (List Bool) → List (List Bool)
states_from N s [] = []
states_from N s (v ∷ vs) = s ∷ states_from N (next_state N NoFault v) vs

-- the item of a list of lists at a step
abbrev pub at_step : List (List Bool) → ℕ → List Bool
at_step items step = slice_index_or items step []

-- an alarm by this step: at it or before it the rails agree
pub record AlarmBy (P : CodePlan) (us : List (List Bool)) (step : ℕ) : Type 0 where
  pub at : ℕ
  pub in_time : at ≤ step
  pub rails_agree : RailsAgree P (at_step us at)

-- no wrong output before its alarm: where the source doesn't allow a step's outputs, at the trace state that the run
-- without a fault (vs) has there, the rails agree by then
abbrev pub NoSilentError : Logic → Circuit → CodePlan → List (List Bool) → List (List Bool) → List (List Bool) → Type 0
NoSilentError M N P xs vs us =
    (step q : ℕ) → step < length xs
    → state_at P (at_step (states_from N (init_state N) vs) step) ≡ Some q
    → (AllowsOutputs M P.version q (at_step xs step) (outputs_in N P (at_step us step)) → ⊥)
    → AlarmBy P us step

-- what holds with one listed fault, or one failing cell, against the run without
pub record IsFlagged (M : Logic) (N : Circuit) (P : CodePlan) (xs vs us : List (List Bool)) : Type 0 where
  pub first_error : FirstErrorShows N P vs us
  pub no_silent_error : NoSilentError M N P xs vs us

-- a netlist with its plan is fault-secure for a source: over every list of inputs there is exactly one run without a fault
-- and with each listed fault present at any steps. Without a fault it follows the source quietly; and with a fault no wrong
-- output comes before its alarm
pub record IsFaultSecure (M : Logic) (N : Circuit) (P : CodePlan) : Type 0 where
  pub one_run : (f : StuckAt) (w : List Bool) (xs : List (List Bool)) → (f ≡ NoFault) ⊎ IsTrue (is_listed N f)
      → length w ≡ length xs → HasOneRun N f w xs
  pub follows : (w : List Bool) (xs vs : List (List Bool)) → Runs N NoFault w xs vs → Follows M N P xs vs
  pub quiet : (w : List Bool) (xs vs : List (List Bool)) → Runs N NoFault w xs vs → All (IsQuiet N P) vs
  pub flagged : (f : StuckAt) (w : List Bool) (xs vs us : List (List Bool)) → IsTrue (is_listed N f)
      → Runs N NoFault w xs vs → Runs N f w xs us → IsFlagged M N P xs vs us
