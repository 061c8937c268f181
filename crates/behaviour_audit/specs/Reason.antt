-- The answer of an audit of behaviour: that the netlist follows its source without a fault, or the first reason why not.
use Rattle.std.specs.Prelude.{◌≡◌, ℕ, ◌<◌, ◌^◌, ◌⊎◌, Bool, List, Option, Some, None}
use Rattle.tsc_bits.specs.Bits.{bits_of}
use Rattle.fault_secure.specs.Circuit.{Circuit}
use Rattle.fault_secure.specs.Run.{init_state}
use Rattle.fault_secure.specs.CodePlan.{CodePlan, IsPlanOf, IsWellMade}
use Rattle.fault_secure.specs.Logic.{Logic, reset_of}
use Rattle.fault_secure.specs.FaultSecure.{state_at}
use Rattle.fault_secure.specs.Behaviour.{FollowsSource}
use Rattle.fault_secure.specs.Exposing.{ComesBefore}
use Rattle.behaviour_audit.specs.Breaks.{BreaksNext, BreaksWord, BreaksOutput}
use Rattle.behaviour_audit.specs.declared.reason.BehaviourReason.{BehaviourReason}
use Rattle.behaviour_audit.specs.declared.reason.BehaviourReason.TheVariants.{Reset, Next, Word, Output}

-- at the reset state the latches hold its word
abbrev pub Starts : Logic → Circuit → CodePlan → Type 0
Starts M N P = state_at P (init_state N) ≡ Some (reset_of M)

-- no step is wrong in its next state
abbrev pub AllArrive : Logic → Circuit → CodePlan → Type 0
AllArrive M N P = (r : ℕ) (y : List Bool) → BreaksNext M N P r y → ⊥

-- a step is wrong in its word or in some output
abbrev pub BreaksShown : Logic → Circuit → CodePlan → ℕ → List Bool → Type 0
BreaksShown M N P q x = BreaksWord N P q x ⊎ ((place : ℕ) × BreaksOutput M N P q x place)

-- B holds at no point before this one: points come by state, then by the input as a binary number
abbrev pub NoneBefore : (ℕ → List Bool → Type 0) → ℕ → List Bool → Type 0
NoneBefore B q x = (r : ℕ) (y : List Bool) → ComesBefore r y q x → B r y → ⊥

-- the reason is the first one: the reset state; then the first point with a wrong next state, whatever words and outputs are;
-- then the first point with a wrong word or a wrong output, at one point the word before the outputs, and the first such output.
-- The input of a point is a number of as many bits as inputs
abbrev pub IsFirstOfBehaviour : Logic → Circuit → CodePlan → BehaviourReason → Type 0
IsFirstOfBehaviour M N P Reset = Starts M N P → ⊥
IsFirstOfBehaviour M N P (Next q input) =
    let x = bits_of N.inputs input in
    Starts M N P × (input < 2 ^ N.inputs) × BreaksNext M N P q x × NoneBefore (BreaksNext M N P) q x
IsFirstOfBehaviour M N P (Word q input) =
    let x = bits_of N.inputs input in
    Starts M N P × (input < 2 ^ N.inputs) × AllArrive M N P × BreaksWord N P q x × NoneBefore (BreaksShown M N P) q x
IsFirstOfBehaviour M N P (Output q input place) =
    let x = bits_of N.inputs input in
    Starts M N P × (input < 2 ^ N.inputs) × AllArrive M N P × (BreaksWord N P q x → ⊥) × BreaksOutput M N P q x place × NoneBefore (BreaksShown M N P) q x
    × ((other : ℕ) → other < place → BreaksOutput M N P q x other → ⊥)

-- the answer: none where the netlist follows its source, else the first reason
abbrev pub IsBehaviourAnswer : Logic → Circuit → CodePlan → Option BehaviourReason → Type 0
IsBehaviourAnswer M N P None = FollowsSource M N P
IsBehaviourAnswer M N P (Some reason) = IsFirstOfBehaviour M N P reason

-- of a netlist with a well-made plan of it there is at most one answer: two are the same
abbrev pub OneAnswer : Type 0
OneAnswer = (M : Logic) (N : Circuit) (P : CodePlan) (a b : Option BehaviourReason) → IsPlanOf N P → IsWellMade P → IsBehaviourAnswer M N P a → IsBehaviourAnswer M N P b → a ≡ b
