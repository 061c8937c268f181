-- What a netlist is tried with, and what is known of the points that were tried.
use Rattle.std.specs.Prelude.{◌≡◌, ℕ, ◌<◌, ◌≤◌, Bool, false, List, length, Option, Some, None, IsSome}
use Rattle.fault_secure.specs.Circuit.{Circuit, bit}
use Rattle.fault_secure.specs.CodePlan.{CodePlan, word, monitored, IsCodeword, IsPlanOf, IsWellMade}
use Rattle.fault_secure.specs.Logic.{Logic, Network, States, Loose, states_of, inputs_of, outputs_count, IsLooseOutput, AllowsOutputs, IsStateTable}
use Rattle.fault_secure.specs.FaultSecure.{outputs_in}
use Rattle.tsc_net.specs.PlanView.{net_numbers}
use Rattle.tsc_net.specs.SourceView.{IsLooseSource, logic_of}
use Rattle.lane_sim.specs.Points.{ArePointsOf}
use Rattle.lane_sim.specs.declared.point.Point.{Point}
use Rattle.behaviour_audit.specs.Breaks.{IsStepAt, Arrives, AllowsBit, BreaksNext, BreaksWord, BreaksOutput}
use Rattle.behaviour_audit.specs.Points.{input_of, ShowsStep, ShowsAt}
use Rattle.behaviour_audit.specs.declared.condition.Condition.{Condition}
use Rattle.behaviour_audit.specs.declared.condition.Condition.TheVariants.{NextState, WordAndOutputs}
use Rattle.behaviour_audit.specs.declared.reason.BehaviourReason.{BehaviourReason}
use Rattle.behaviour_audit.specs.declared.reason.BehaviourReason.TheVariants.{Reset, Next, Word, Output}
use Rattle.behaviour_audit.specs.declared.watch.Watch.{Watch}
use Rattle.behaviour_audit.specs.declared.reference.Reference.{Reference}
use Rattle.behaviour_audit.specs.declared.reference.Reference.TheVariants.{Table, Network as OfNetwork, Loose as OfLoose}
use Rattle.behaviour_audit.specs.declared.trial.Audited.{Audited}
use Rattle.behaviour_audit.specs.declared.trial.Trial.{Trial}
use Rattle.behaviour_audit.specs.declared.room.Room.{Room}
use Rattle.fault_secure.specs.Exposing.{listed_states}
use Rattle.lane_sim.specs.Places.{point_at}

-- a network without latches, a sound state table, or two networks that are a loose source
abbrev pub IsSoundSource : Logic → Type 0
IsSoundSource (Network C) = length C.latches ≡ 0
IsSoundSource (States M) = IsStateTable M
IsSoundSource (Loose V F) = IsLooseSource V F

-- the netlist, its plan and the source belong together, and there are few points
pub record IsMatch (M : Logic) (N : Circuit) (P : CodePlan) : Type 0 where
  pub plan : IsPlanOf N P
  pub made : IsWellMade P
  pub sound : IsSoundSource M
  pub inputs : N.inputs ≡ inputs_of M
  pub outputs : P.outputs ≡ outputs_count M
  pub states : listed_states P ≡ states_of M
  pub latches : length N.latches ≤ 64
  pub few_inputs : N.inputs ≤ 20

-- the bench watches the nets that are read, and the points are of the circuit
pub record IsWatchOf (C : Circuit) (watch : Watch) : Type 0 where
  pub circuit : watch.bench.circuit ≡ C
  pub watched : watch.bench.watched ≡ net_numbers watch.nets
  pub points : ArePointsOf C watch.points

-- the bench watches the outputs of a network
abbrev pub WatchesOutputs : Circuit → Watch → Type 0
WatchesOutputs C watch = IsWatchOf C watch × (net_numbers watch.nets ≡ C.outputs)

-- the bench of a network shows at a slot the input of a point
abbrev pub ShowsInput : Circuit → Watch → ℕ → Point → Type 0
ShowsInput C watch slot point = IsSome watch.bench.lanes × ShowsAt C (bit (input_of C.inputs point)) (λ _. false) watch.bench slot

-- a network has a bench that watches its outputs, and of a loose source so has each network
abbrev pub IsReferenceOf : Logic → Reference → Type 0
IsReferenceOf (Network C) Table = ⊥
IsReferenceOf (Network C) (OfNetwork watch) = WatchesOutputs C watch
IsReferenceOf (Network C) (OfLoose watches) = ⊥
IsReferenceOf (States M) reference = Unit {0}
IsReferenceOf (Loose V F) Table = ⊥
IsReferenceOf (Loose V F) (OfNetwork watch) = ⊥
IsReferenceOf (Loose V F) (OfLoose watches) = WatchesOutputs V watches.value × WatchesOutputs F watches.free

-- each of these benches shows at a slot the input of a point
abbrev pub ShowsSource : Logic → Reference → ℕ → Point → Type 0
ShowsSource (Network C) Table slot point = ⊥
ShowsSource (Network C) (OfNetwork watch) slot point = ShowsInput C watch slot point
ShowsSource (Network C) (OfLoose watches) slot point = ⊥
ShowsSource (States M) reference slot point = Unit {0}
ShowsSource (Loose V F) Table slot point = ⊥
ShowsSource (Loose V F) (OfNetwork watch) slot point = ⊥
ShowsSource (Loose V F) (OfLoose watches) slot point = ShowsInput V watches.value slot point × ShowsInput F watches.free slot point

-- what is audited belongs together, and has the benches of a trial: the netlist's watches the monitored nets
pub record IsTrialOf (A : Audited) (trial : Trial) : Type 0 where
  pub fit : IsMatch (logic_of A.source.now) A.net.now.circuit A.plan.now
  pub watch : IsWatchOf A.net.now.circuit trial.watch
  pub nets : net_numbers trial.watch.nets ≡ monitored A.net.now.circuit A.plan.now
  pub reference : IsReferenceOf (logic_of A.source.now) trial.reference

-- both are settled, and show at a slot a point
pub record ShowsPoint (A : Audited) (trial : Trial) (slot : ℕ) (point : Point) : Type 0 where
  pub settled : IsSome trial.watch.bench.lanes
  pub step : ShowsStep A.net.now.circuit A.plan.now trial.watch.bench slot point
  pub source : ShowsSource (logic_of A.source.now) trial.reference slot point

-- room for a word, for the outputs that the source chooses and for those that it leaves free
pub record IsRoomOf (A : Audited) (room : Room) : Type 0 where
  pub word : length room.word ≡ length (monitored A.net.now.circuit A.plan.now)
  pub chosen : length room.chosen ≡ A.plan.now.outputs
  pub lanes : length room.lanes ≡ length (monitored A.net.now.circuit A.plan.now)
  pub source_lanes : length room.source_lanes ≡ A.plan.now.outputs
  pub free : length room.free ≡ A.plan.now.outputs
  pub free_lanes : length room.free_lanes ≡ A.plan.now.outputs

-- at a point all is right under a condition: each step arrives; or each step's word is a codeword, and its outputs are allowed
pub record IsShownRight (M : Logic) (N : Circuit) (P : CodePlan) (q : ℕ) (x v : List Bool) : Type 0 where
  pub codeword : IsCodeword P (word N P v)
  pub outputs : AllowsOutputs M P.version q x (outputs_in N P v)

abbrev pub IsRight : Condition → Logic → Circuit → CodePlan → ℕ → List Bool → Type 0
IsRight NextState M N P q x = (v : List Bool) → IsStepAt N P q x v → Arrives M N P q x v
IsRight WordAndOutputs M N P q x = (v : List Bool) → IsStepAt N P q x v → IsShownRight M N P q x v

-- the reason is that of a point under a condition
abbrev pub IsReasonOf : Condition → Logic → Circuit → CodePlan → Point → BehaviourReason → Type 0
IsReasonOf NextState M N P point Reset = ⊥
IsReasonOf NextState M N P point (Next q input) = (q ≡ point.state) × (input ≡ point.input) × BreaksNext M N P point.state (input_of N.inputs point)
IsReasonOf NextState M N P point (Word q input) = ⊥
IsReasonOf NextState M N P point (Output q input place) = ⊥
IsReasonOf WordAndOutputs M N P point Reset = ⊥
IsReasonOf WordAndOutputs M N P point (Next q input) = ⊥
IsReasonOf WordAndOutputs M N P point (Word q input) = (q ≡ point.state) × (input ≡ point.input) × BreaksWord N P point.state (input_of N.inputs point)
IsReasonOf WordAndOutputs M N P point (Output q input place) =
    (q ≡ point.state) × (input ≡ point.input) × (BreaksWord N P point.state (input_of N.inputs point) → ⊥) × BreaksOutput M N P point.state (input_of N.inputs point) place
    × ((other : ℕ) → other < place → BreaksOutput M N P point.state (input_of N.inputs point) other → ⊥)

-- what is answered of a point under a condition
abbrev pub IsAnswerAt : Condition → Audited → Point → Option BehaviourReason → Type 0
IsAnswerAt condition A point None = IsRight condition (logic_of A.source.now) A.net.now.circuit A.plan.now point.state (input_of A.net.now.circuit.inputs point)
IsAnswerAt condition A point (Some reason) = IsReasonOf condition (logic_of A.source.now) A.net.now.circuit A.plan.now point reason

-- the reason of the first place from `low` on and below `high` that has one
pub record IsFirstOf (condition : Condition) (A : Audited) (low high : ℕ) (reason : BehaviourReason) : Type 0 where
  pub place : ℕ
  pub from : low ≤ place
  pub below : place < high
  pub here : IsAnswerAt condition A (point_at A.net.now.circuit.inputs place) (Some reason)
  pub before : (p : ℕ) → low ≤ p → p < place → IsAnswerAt condition A (point_at A.net.now.circuit.inputs p) None

abbrev pub IsFirstAnswer : Condition → Audited → ℕ → ℕ → Option BehaviourReason → Type 0
IsFirstAnswer condition A low high None = (p : ℕ) → low ≤ p → p < high → IsAnswerAt condition A (point_at A.net.now.circuit.inputs p) None
IsFirstAnswer condition A low high (Some reason) = IsFirstOf condition A low high reason

-- a source that chooses another bit at an output's place leaves it free: under a plan of version 2 a machine and a loose source may
abbrev pub LeavesFree : Logic → ℕ → ℕ → List Bool → ℕ → Bool → Type 0
LeavesFree (Network C) version q x place b = ⊥
LeavesFree (States M) version q x place b = (version ≡ 2) × AllowsBit (States M) version q x place b
LeavesFree (Loose V F) version q x place b = IsLooseOutput F version x place

-- the first place at which the source doesn't allow the bit
abbrev pub IsFirstWrong : Logic → ℕ → ℕ → List Bool → List Bool → Option ℕ → Type 0
IsFirstWrong M version q x ys None = (place : ℕ) → place < length ys → AllowsBit M version q x place (bit ys place)
IsFirstWrong M version q x ys (Some place) =
    (place < length ys) × (AllowsBit M version q x place (bit ys place) → ⊥) × ((other : ℕ) → other < place → AllowsBit M version q x other (bit ys other))
