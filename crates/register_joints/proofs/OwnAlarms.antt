-- What a part has by itself for its source, whichever kind that is, and what it so gives to the joint.
use Rattle.std.proofs.Common.{◌≡◌, ℕ, ◌<◌, Bool, List, [], map, length, All, sym, ap, ◌∙◌, inl, refl, arith, take, slice_index_or}
use Rattle.std.proofs.lemmas.List.{length-map, get_or-map}
use Rattle.fault_secure.specs.Circuit.{Circuit, nets, bit}
use Rattle.fault_secure.specs.StuckAt.{NoFault}
use Rattle.fault_secure.specs.Run.{init_state, Runs, HasOneRun}
use Rattle.fault_secure.specs.CodePlan.{CodePlan, RailsAgree}
use Rattle.fault_secure.specs.FaultSecure.{outputs_in, Follows, NoSilentError, AlarmBy, at_step}
use Rattle.joint_laws.specs.Parts.{part_inputs, as_part}
use Rattle.joint_laws.specs.Joint.{JointOf, IsJoint, part}
use Rattle.joint_laws.specs.JointSecure.{inputs_over, run_over}
use Rattle.joint_laws.proofs.PartRuns.{long_marks}
use Rattle.joint_laws.proofs.JoinedSteps.{TreeWorksOver, silent_joins, right_stays}
use Rattle.register_laws.specs.RegisterSecure.{shown}
use Rattle.register_joints.specs.PartSource.{PartSource, Logical, Registers, HasSourceRuns, IsSeenAlike, IsPartSecure, IsPartFaultSecure}
use Rattle.register_joints.specs.SourcesSecure.{FollowsInJoint, NoSilentOutput}
use Rattle.register_joints.proofs.Shown.{shown_over, shown_step, alarm_joins}

-- a run of the part without a fault (vs) follows its source
abbrev pub OwnFollows : PartSource → Circuit → CodePlan → List (List Bool) → List (List Bool) → Type 0
OwnFollows (Logical M) N P xs vs = Follows M N P xs vs
OwnFollows (Registers S) N P xs vs = (m : List Bool) (ws : List (List Bool)) → Runs S NoFault m xs ws → map (outputs_in N P) vs ≡ map (shown S) ws

-- no wrong output of the part comes before its own alarm
abbrev pub OwnAlarm : PartSource → Circuit → CodePlan → List (List Bool) → List (List Bool) → List (List Bool) → Type 0
OwnAlarm (Logical M) N P xs vs us = NoSilentError M N P xs vs us
OwnAlarm (Registers S) N P xs vs us = (m : List Bool) (ws : List (List Bool)) → Runs S NoFault m xs ws
    → (step : ℕ) → step < length xs → (outputs_in N P (at_step us step) ≡ shown S (at_step ws step) → ⊥) → AlarmBy P us step

-- ---- what a joint sees of a plan

alike_outputs : (P Q : CodePlan) → IsSeenAlike P Q → (N : Circuit) (v : List Bool) → outputs_in N Q v ≡ outputs_in N P v
alike_outputs P Q alike N v = ap (λ n. map (bit v) (take n N.outputs)) (sym alike.outputs)

pub alike_rails : (P Q : CodePlan) → IsSeenAlike P Q → (v : List Bool) → RailsAgree P v → RailsAgree Q v
alike_rails P Q alike v agree = ap (bit v) (sym alike.rail1) ∙ agree ∙ ap (bit v) alike.rail2

alike_rails_back : (P Q : CodePlan) → IsSeenAlike P Q → (v : List Bool) → RailsAgree Q v → RailsAgree P v
alike_rails_back P Q alike v agree = ap (bit v) alike.rail1 ∙ agree ∙ ap (bit v) (sym alike.rail2)

alike_alarm : (P Q : CodePlan) → IsSeenAlike P Q → (us : List (List Bool)) (step : ℕ) → AlarmBy P us step → AlarmBy Q us step
alike_alarm P Q alike us step alarm = record { at = alarm.at; in_time = alarm.in_time; rails_agree = alike_rails P Q alike (at_step us alarm.at) alarm.rails_agree }

-- where no output differs from the source's before the alarm under one plan, none does under the other
pub alike_silent : (P Q : CodePlan) → IsSeenAlike P Q → (S N : Circuit) (xs ws us : List (List Bool))
    → ((step : ℕ) → step < length xs → (outputs_in N P (at_step us step) ≡ shown S (at_step ws step) → ⊥) → AlarmBy P us step)
    → (step : ℕ) → step < length xs → (outputs_in N Q (at_step us step) ≡ shown S (at_step ws step) → ⊥) → AlarmBy Q us step
alike_silent P Q alike S N xs ws us silent step within wrong =
    alike_alarm P Q alike us step (silent step within (λ right. wrong (alike_outputs P Q alike N (at_step us step) ∙ right)))

alike_follows : (P Q : CodePlan) → IsSeenAlike P Q → (S N : Circuit) (ws vs : List (List Bool)) → map (outputs_in N P) vs ≡ map (shown S) ws
    → map (outputs_in N Q) vs ≡ map (shown S) ws
alike_follows P Q alike S N ws vs follows = ap (λ n. map (λ v. map (bit v) (take n N.outputs)) vs) (sym alike.outputs) ∙ follows

-- equal lists of outputs are equal at each step
same_at : (f g : List Bool → List Bool) (vs ws : List (List Bool)) (step : ℕ) → map f vs ≡ map g ws → step < length vs → step < length ws
    → f (at_step vs step) ≡ g (at_step ws step)
same_at f g vs ws step same here there =
    sym (get_or-map f vs step [] [] here) ∙ ap (λ items. at_step items step) same ∙ get_or-map g ws step [] [] there

module _ (J : JointOf) (is : IsJoint J) (i : ℕ) (h : i < length J.parts) where
  -- what follows the source alone does so in the joint
  pub follows_joins : (source : PartSource) (w : List Bool) (xs vs : List (List Bool)) → Runs J.circuit NoFault w xs vs
      → OwnFollows source (part J i).circuit (part J i).plan (inputs_over (part J i) xs) (run_over (part J i) vs) → FollowsInJoint source J (part J i) xs vs
  follows_joins (Logical M) w xs vs run follows = follows
  follows_joins (Registers S) w xs vs run follows = λ m ws own. shown_over J is i h w xs vs run ∙ follows m ws own

  -- where the tree works, and no wrong output of the part comes before its own alarm, none comes before the joint's
  pub own_joins : (source : PartSource) (xs vs us : List (List Bool)) → length us ≡ length xs → TreeWorksOver J us
      → OwnAlarm source (part J i).circuit (part J i).plan (inputs_over (part J i) xs) (run_over (part J i) vs) (run_over (part J i) us)
      → NoSilentOutput source J (part J i) xs vs us
  own_joins (Logical M) xs vs us long works alarm = silent_joins J is M i h xs vs us long works alarm
  own_joins (Registers S) xs vs us long works alarm = λ m ws own step within wrong.
      let here : step < length us = omega arith in
      alarm_joins J is i h us works step here
      (alarm m ws own step (omega (arith, length-map xs (part_inputs (part J i).circuit (part J i).at)))
      (λ right. wrong (sym (shown_step J is i h us step here (works step here).sized) ∙ right)))

  -- where the part's run is the one without a fault, which follows its source, its outputs are right
  pub right_joins : (source : PartSource) (xs vs us : List (List Bool)) → length us ≡ length xs
      → ((step : ℕ) → step < length us → length (at_step us step) ≡ nets J.circuit)
      → run_over (part J i) us ≡ run_over (part J i) vs
      → OwnFollows source (part J i).circuit (part J i).plan (inputs_over (part J i) xs) (run_over (part J i) vs)
      → NoSilentOutput source J (part J i) xs vs us
  right_joins (Logical M) xs vs us long sized same follows = right_stays J is M i h xs vs us long sized same follows
  right_joins (Registers S) xs vs us long sized same follows = λ m ws own step within wrong.
      let here : step < length us = omega arith in
      let long_inputs = length-map xs (part_inputs (part J i).circuit (part J i).at) in
      let long_run = length-map us (as_part (part J i).circuit (part J i).at) in
      let long_source = (long_marks S NoFault (init_state S) m (inputs_over (part J i) xs) ws own).1 in
      absurd (wrong (sym (shown_step J is i h us step here (sized step here))
      ∙ ap (λ run. outputs_in (part J i).circuit (part J i).plan (at_step run step)) same
      ∙ same_at (outputs_in (part J i).circuit (part J i).plan) (shown S) (run_over (part J i) vs) ws step (follows m ws own)
      (omega (arith, ap length same)) (omega arith)))

-- ---- parts that are secure against any one failing cell

module _ (N : Circuit) (P : CodePlan) where
  pub part_source_runs : (source : PartSource) → IsPartSecure source N P → HasSourceRuns source
  part_source_runs (Logical M) secure = tt
  part_source_runs (Registers S) secure = secure.secure.source_runs

  pub part_one_run : (source : PartSource) → IsPartSecure source N P → (w : List Bool) (xs : List (List Bool)) → length w ≡ length xs → HasOneRun N NoFault w xs
  part_one_run (Logical M) secure = secure.one_run
  part_one_run (Registers S) secure = secure.secure.one_run

  pub part_follows : (source : PartSource) → IsPartSecure source N P → (w : List Bool) (xs vs : List (List Bool)) → Runs N NoFault w xs vs → OwnFollows source N P xs vs
  part_follows (Logical M) secure w xs vs run = secure.follows w xs vs run
  part_follows (Registers S) secure w xs vs run = λ m ws own. alike_follows secure.whole.plan P secure.alike S N ws vs (secure.secure.follows m w xs ws vs own run)

  -- the source has a run over the inputs, beside which the part's run is calm
  pub part_quiet : (source : PartSource) → IsPartSecure source N P → (w : List Bool) (xs vs : List (List Bool)) → Runs N NoFault w xs vs
      → All (λ v. RailsAgree P v → ⊥) vs
  part_quiet (Logical M) secure w xs vs run = λ k d low. (secure.quiet w xs vs run k d low).rails_differ
  part_quiet (Registers S) secure w xs vs run = λ k d low agree.
      let own = secure.secure.source_runs w xs (long_marks N NoFault (init_state N) w xs vs run).0 in
      (secure.secure.quiet w w xs own.run vs own.runs run k d low).rails_differ (alike_rails_back secure.whole.plan P secure.alike (slice_index_or vs k d) agree)

  -- ---- parts that are secure against each listed fault

  pub fault_part_source_runs : (source : PartSource) → IsPartFaultSecure source N P → HasSourceRuns source
  fault_part_source_runs (Logical M) secure = tt
  fault_part_source_runs (Registers S) secure = secure.secure.source_runs

  pub fault_part_one_run : (source : PartSource) → IsPartFaultSecure source N P → (w : List Bool) (xs : List (List Bool)) → length w ≡ length xs
      → HasOneRun N NoFault w xs
  fault_part_one_run (Logical M) secure = λ w xs sized. secure.one_run NoFault w xs (inl refl) sized
  fault_part_one_run (Registers S) secure = secure.secure.one_run

  pub fault_part_follows : (source : PartSource) → IsPartFaultSecure source N P → (w : List Bool) (xs vs : List (List Bool)) → Runs N NoFault w xs vs
      → OwnFollows source N P xs vs
  fault_part_follows (Logical M) secure w xs vs run = secure.follows w xs vs run
  fault_part_follows (Registers S) secure w xs vs run = λ m ws own. alike_follows secure.whole.plan P secure.alike S N ws vs (secure.secure.follows m w xs ws vs own run)

  pub fault_part_quiet : (source : PartSource) → IsPartFaultSecure source N P → (w : List Bool) (xs vs : List (List Bool)) → Runs N NoFault w xs vs
      → All (λ v. RailsAgree P v → ⊥) vs
  fault_part_quiet (Logical M) secure w xs vs run = λ k d low. (secure.quiet w xs vs run k d low).rails_differ
  fault_part_quiet (Registers S) secure w xs vs run = λ k d low agree.
      let own = secure.secure.source_runs w xs (long_marks N NoFault (init_state N) w xs vs run).0 in
      (secure.secure.quiet w w xs own.run vs own.runs run k d low).rails_differ (alike_rails_back secure.whole.plan P secure.alike (slice_index_or vs k d) agree)
