-- Alarms of parts, and what their watches hear.
use Rattle.std.proofs.Common.{◌≡◌, ℕ, zero, suc, ◌+◌, ◌<◌, Bool, false, List, [], ◌∷◌, map, length, refl, sym, arith}
use Rattle.std.specs.List.{range_with_len}
use Rattle.std.proofs.lemmas.List.FromFn.{get_or-map-range_with_len}
use Rattle.fault_secure.specs.Circuit.{Circuit, latch_net, bit}
use Rattle.fault_secure.specs.StuckAt.{NoFault}
use Rattle.fault_secure.specs.Settle.{Settles}
use Rattle.fault_secure.specs.Run.{init_state, next_state}
use Rattle.fault_secure.specs.FailingCell.{SettlesBut, RunsButFrom}
use Rattle.fault_secure.specs.FaultSecure.{at_step}
use Rattle.joint_laws.specs.Parts.{StandsIn, as_part, part_inputs}
use Rattle.joint_laws.specs.Joint.{part}
use Rattle.joint_laws.proofs.PartBits.{part_settles}
use Rattle.joint_laws.proofs.JoinedSteps.{rails_join}
use Rattle.register_laws.proofs.WatchParity.{watch_is_heard}
use Rattle.register_joints.proofs.OwnAlarms.{alike_rails}
use Rattle.register_joints.specs.RegisterJoints.{part_in, AlarmsJoin, WatchesJoin, WatchesHearLatches}

-- where the tree works, an alarm of a part is one of the joint
pub alarms_join : AlarmsJoin
alarms_join J i v is h tree agree = rails_join J is i h v (record { sized = tree.sized; settles = tree.settles }) agree

pub watches_join : WatchesJoin
watches_join S J i P own copy registers check v is h alike decides watch tree checker drivers differ =
    alarms_join J i v is h tree (alike_rails P.plan (part J i).plan alike (part_in J i v)
    (watch_is_heard S (part J i).circuit P own copy registers check (part_in J i v) decides watch checker drivers differ))

-- ---- one failing latch

-- the bits that the latches hold in a valuation
abbrev held : Circuit → List Bool → List Bool
held N v = map (λ l. bit v (latch_net N l)) (range_with_len 0 (length N.latches))

held_bit : (N : Circuit) (v : List Bool) (l : ℕ) → l < length N.latches → bit (held N v) l ≡ bit v (latch_net N l)
held_bit N v l h = get_or-map-range_with_len (λ l. bit v (latch_net N l)) 0 (length N.latches) l l false h (omega arith)

-- what settles at every net except a latch's settles, with the bits that the latches hold there
settles_held : (N : Circuit) (l : ℕ) (x : List Bool) (s : ℕ → Bool) (v : List Bool) → l < length N.latches → SettlesBut N (latch_net N l) (bit x) s v
    → Settles N NoFault (bit x) (bit (held N v)) v
settles_held N l x s v h settled = record {
  sized = settled.sized;
  inputs = settled.inputs;
  latches = λ k low. sym (held_bit N v k low);
  nodes = λ j low. settled.nodes j low (λ e. omega arith);
}

-- a step of a run with a failing cell
record StepBut (N : Circuit) (cell : ℕ) (v : List Bool) : Type 0 where
  input : List Bool
  state : List Bool
  settles : SettlesBut N cell (bit input) (bit state) v

step_but : (N : Circuit) (cell : ℕ) (s : List Bool) (xs us : List (List Bool)) → RunsButFrom N cell s xs us → (step : ℕ) → step < length xs
    → StepBut N cell (at_step us step)
step_but N cell s [] us run step h = absurd (omega arith)
step_but N cell s (x ∷ xs) [] run step h = absurd run
step_but N cell s (x ∷ xs) (u ∷ us) run zero h = record { input = x; state = s; settles = run.0 }
step_but N cell s (x ∷ xs) (u ∷ us) run (suc step) h = step_but N cell (next_state N NoFault u) xs us run.1 step (omega arith)

-- the part's bits, where its latches hold what they have there
part_step : (J C : Circuit) (at : ℕ → ℕ) (first_latch first_node : ℕ) → StandsIn J C at first_latch first_node → (x s v : List Bool)
    → Settles J NoFault (bit x) (bit s) v
    → Settles C NoFault (bit (part_inputs C at x)) (bit (map (λ l. bit s (first_latch + l)) (range_with_len 0 (length C.latches)))) (as_part C at v)
part_step J C at first_latch first_node m x s v settled =
    part_settles J C at first_latch first_node m NoFault NoFault (record { stem = λ net b k. refl; pin = λ net k b cell. refl }) v settled.sized x s
    (map (λ l. bit s (first_latch + l)) (range_with_len 0 (length C.latches)))
    (λ l h. get_or-map-range_with_len (λ l. bit s (first_latch + l)) 0 (length C.latches) l l false h (omega arith)) settled

-- at each step at which an odd number of registers differs the rails agree, where one latch of the joint fails
pub watches_hear_latches : WatchesHearLatches
watches_hear_latches S J i P own copy registers check latch xs us step is h alike decides watch low run within differ =
    let there = step_but J.circuit (latch_net J.circuit latch) (init_state J.circuit) xs us run step within in
    let v = at_step us step in
    let settled = settles_held J.circuit latch there.input (bit there.state) (at_step us step) low there.settles in
    let alone = part_step J.circuit (part J i).circuit (part J i).at (part J i).first_latch (part J i).first_node (is.stand i h) there.input
    (held J.circuit (at_step us step)) (at_step us step) settled in
    watches_join S J i P own copy registers check v is h alike decides watch
    (record { sized = settled.sized; settles = record { nodes = λ j from below. settled.nodes j below } })
    (record { settles = λ q k checker. alone.nodes q k })
    (record { settles = λ q k depends. alone.nodes q k }) differ
