-- What a joint shows of a part, step by step, is what the part has; an alarm of a part is the joint's.
use Rattle.std.proofs.Common.{◌≡◌, ℕ, ◌<◌, ◌==◌, List, [], ◌∷◌, Bool, false, map, length, slice_index_or, Contains, All, refl, sym, ap, ap₂, subst, ◌∙◌, inl, inr, arith, eq-eqb}
use Rattle.std.specs.List.{position_or_len}
use Rattle.std.proofs.lemmas.Bool.{cases_lt, eqb-true, true≢false}
use Rattle.std.proofs.lemmas.List.{length-map, get_or-map}
use Rattle.std.proofs.lemmas.List.Elements.{All-from_get_or}
use Rattle.std.proofs.lemmas.List.Sums.{passes_at_first, fails_before_first}
use Rattle.tsc_bits.proofs.Lists.{map_agrees}
use Rattle.fault_secure.specs.Circuit.{nets, bit}
use Rattle.fault_secure.specs.StuckAt.{NoFault}
use Rattle.fault_secure.specs.Settle.{Settles}
use Rattle.fault_secure.specs.Run.{init_state, next_state, Runs}
use Rattle.fault_secure.specs.CodePlan.{RailsAgree}
use Rattle.fault_secure.specs.FaultSecure.{outputs_in, at_step, AlarmBy}
use Rattle.structure_laws.proofs.FirstErrors.{CleanFrom, clean_from}
use Rattle.joint_laws.specs.Parts.{as_part}
use Rattle.joint_laws.specs.Joint.{JointOf, IsJoint, part, own_outputs, shown_outputs}
use Rattle.joint_laws.specs.JointSecure.{JointRailsAgree, JointAlarmBy, run_over}
use Rattle.joint_laws.proofs.PartBits.{part_bit}
use Rattle.joint_laws.proofs.JoinedSteps.{TreeWorksOver, no_fault_off, works_under, rails_join, rails_quiet}

-- the output that stands for a net shows its bit
shown_at : (outputs : List ℕ) (net : ℕ) (u : List Bool) → Contains outputs net
    → bit (map (bit u) outputs) (position_or_len (λ other. other == net) outputs) ≡ bit u net
shown_at outputs net u shown = elim (cases_lt (position_or_len (λ other. other == net) outputs) (length outputs)) [
  | inl low ↦
      get_or-map (bit u) outputs (position_or_len (λ other. other == net) outputs) 0 false low
      ∙ ap (bit u) (eqb-true _ _ (passes_at_first (λ other. other == net) outputs 0 low))
  | inr past ↦
      let missed = fails_before_first (λ other. other == net) outputs shown.0 net (let k = shown.1 in omega arith) in
      absurd (true≢false (sym (eq-eqb (slice_index_or outputs shown.0 net) net shown.2) ∙ missed))
]

module _ (J : JointOf) (is : IsJoint J) where
  module _ (i : ℕ) (h : i < length J.parts) where
    over : (u : List Bool) → length u ≡ nets J.circuit → (net : ℕ)
        → bit (as_part (part J i).circuit (part J i).at u) net ≡ bit u ((part J i).at net)
    over u sized net = part_bit J.circuit (part J i).circuit (part J i).at (part J i).first_latch (part J i).first_node (is.stand i h) u sized net

    -- the joint shows the outputs that the part has
    shown_same : (u : List Bool) → length u ≡ nets J.circuit
        → outputs_in (part J i).circuit (part J i).plan (as_part (part J i).circuit (part J i).at u) ≡ shown_outputs J (part J i) u
    shown_same u sized =
        map_agrees (λ net. Contains J.circuit.outputs ((part J i).at net)) (bit (as_part (part J i).circuit (part J i).at u))
        (λ net. bit (map (bit u) J.circuit.outputs) (position_or_len (λ other. other == (part J i).at net) J.circuit.outputs))
        (λ net shown. over u sized net ∙ sym (shown_at J.circuit.outputs ((part J i).at net) u shown)) (own_outputs (part J i)) (is.shown i h)

    shown_from : (s : List Bool) (xs vs : List (List Bool)) → CleanFrom J.circuit s xs vs
        → map (shown_outputs J (part J i)) vs ≡ map (outputs_in (part J i).circuit (part J i).plan) (run_over (part J i) vs)
    shown_from s [] [] run = refl
    shown_from s [] (v ∷ vs) run = absurd run
    shown_from s (x ∷ xs) [] run = absurd run
    shown_from s (x ∷ xs) (v ∷ vs) run =
        let settled : Settles J.circuit NoFault (bit x) (bit s) v = run.0 in
        ap₂ ◌∷◌ (sym (shown_same v settled.sized)) (shown_from (next_state J.circuit NoFault v) xs vs run.1)

    -- so over a run without a fault
    pub shown_over : (w : List Bool) (xs vs : List (List Bool)) → Runs J.circuit NoFault w xs vs
        → map (shown_outputs J (part J i)) vs ≡ map (outputs_in (part J i).circuit (part J i).plan) (run_over (part J i) vs)
    shown_over w xs vs run = shown_from (init_state J.circuit) xs vs (clean_from J.circuit (init_state J.circuit) w xs vs run)

    at_part : (us : List (List Bool)) (step : ℕ) → step < length us
        → at_step (run_over (part J i) us) step ≡ as_part (part J i).circuit (part J i).at (at_step us step)
    at_part us step within = get_or-map (as_part (part J i).circuit (part J i).at) us step [] [] within

    -- and at each step at which the valuation is of the joint's size
    pub shown_step : (us : List (List Bool)) (step : ℕ) → step < length us → length (at_step us step) ≡ nets J.circuit
        → outputs_in (part J i).circuit (part J i).plan (at_step (run_over (part J i) us) step) ≡ shown_outputs J (part J i) (at_step us step)
    shown_step us step within sized =
        ap (outputs_in (part J i).circuit (part J i).plan) (at_part us step within) ∙ shown_same (at_step us step) sized

    -- where the tree works, an alarm of the part is the joint's
    pub alarm_joins : (us : List (List Bool)) → TreeWorksOver J us → (step : ℕ) → step < length us
        → AlarmBy (part J i).plan (run_over (part J i) us) step → JointAlarmBy J us step
    alarm_joins us works step within alarm =
        let before : alarm.at < length us = (let k = alarm.in_time in omega arith) in
        record {
          at = alarm.at;
          in_time = alarm.in_time;
          rails_agree = rails_join J is i h (at_step us alarm.at) (works alarm.at before)
              (subst (λ v. bit v (part J i).plan.rail1 ≡ bit v (part J i).plan.rail2) (at_part us alarm.at before) alarm.rails_agree);
        }

  -- without a fault the rails differ, where those of each part do
  pub quiet_joins : (w : List Bool) (xs vs : List (List Bool)) → Runs J.circuit NoFault w xs vs
      → ((i : ℕ) → i < length J.parts → All (λ v. RailsAgree (part J i).plan v → ⊥) (run_over (part J i) vs))
      → All (λ v. JointRailsAgree J v → ⊥) vs
  quiet_joins w xs vs run quiet = All-from_get_or (λ v. JointRailsAgree J v → ⊥) vs [] (λ step h.
      rails_quiet J is (at_step vs step) (works_under J NoFault (no_fault_off J) (init_state J.circuit) w xs vs run step h) (λ i l.
      subst (λ v. bit v (part J i).plan.rail1 ≡ bit v (part J i).plan.rail2 → ⊥) (get_or-map (as_part (part J i).circuit (part J i).at) vs step [] [] h)
      (quiet i l step [] (omega (arith, length-map vs (as_part (part J i).circuit (part J i).at))))))
