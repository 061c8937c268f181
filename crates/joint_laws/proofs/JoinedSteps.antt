-- What one step of a joint shows of its parts: its rails, the outputs that stand for theirs, its alarms.
use Rattle.std.proofs.Common.{◌≡◌, ℕ, zero, suc, ◌<◌, ◌≤◌, ◌==◌, Bool, true, false, List, [], ◌∷◌, map, length, slice_index_or, Some, Contains, refl, sym, ap, subst, ◌∙◌, inl, inr, arith, eq-eqb}
use Rattle.std.specs.List.{list_all, position_or_len}
use Rattle.std.proofs.lemmas.Bool.{cases_lt, eqb-true, true≢false}
use Rattle.std.proofs.lemmas.List.{length-map, get_or-map}
use Rattle.std.proofs.lemmas.List.Elements.{All-from_get_or}
use Rattle.std.proofs.lemmas.List.Folds.{list_all_at}
use Rattle.std.proofs.lemmas.List.Sums.{passes_at_first, fails_before_first, list_all-from_AllPass}
use Rattle.tsc_bits.specs.Counting.{differ}
use Rattle.tsc_bits.proofs.Bools.{differ-iff}
use Rattle.tsc_bits.proofs.Lists.{map_agrees}
use Rattle.tsc_cover.specs.Cover.{truth}
use Rattle.fault_secure.specs.Circuit.{Circuit, node, node_net, pin_net, nets, bit}
use Rattle.fault_secure.specs.StuckAt.{StuckAt, NoFault, present}
use Rattle.fault_secure.specs.Settle.{Settles, node_value}
use Rattle.fault_secure.specs.Run.{init_state, next_state, Runs, RunsFrom, HasOneRun}
use Rattle.fault_secure.specs.Stretch.{StretchSettles}
use Rattle.fault_secure.specs.CodePlan.{CodePlan}
use Rattle.fault_secure.specs.Logic.{Logic, AllowsOutputs}
use Rattle.fault_secure.specs.FailingCell.{SettlesBut, RunsButFrom}
use Rattle.fault_secure.specs.FaultSecure.{outputs_in, state_at, FollowsFrom, Follows, states_from, at_step, AlarmBy, NoSilentError}
use Rattle.fault_secure.proofs.Agree.{TreatAlike, reads_same}
use Rattle.structure_laws.proofs.Joined.{Some-same}
use Rattle.joint_laws.specs.Parts.{as_part, part_inputs}
use Rattle.joint_laws.specs.Joint.{JointOf, PartOf, IsJoint, part, no_part, part_differs, own_outputs, shown_outputs}
use Rattle.joint_laws.specs.JointSecure.{JointRailsAgree, JointAlarmBy, inputs_over, run_over, NoSilentPart}
use Rattle.joint_laws.proofs.PartBits.{part_bit}

-- ---- bits

differ-same : (a b : Bool) → a ≡ b → differ a b ≡ false
differ-same true true e = refl
differ-same true false e = e
differ-same false true e = sym e
differ-same false false e = refl

same-undiffer : (a b : Bool) → differ a b ≡ false → a ≡ b
same-undiffer true true e = refl
same-undiffer true false e = e
same-undiffer false true e = sym e
same-undiffer false false e = refl

-- the output that stands for a net shows its bit
shown_at : (outputs : List ℕ) (net : ℕ) (u : List Bool) → Contains outputs net
    → bit (map (bit u) outputs) (position_or_len (λ other. other == net) outputs) ≡ bit u net
shown_at outputs net u shown = elim (cases_lt (position_or_len (λ other. other == net) outputs) (length outputs)) [
  | inl low ↦
      get_or-map (bit u) outputs (position_or_len (λ other. other == net) outputs) 0 false low
      ∙ ap (bit u) (eqb-true _ _ (passes_at_first (λ other. other == net) outputs 0 low))
  | inr past ↦
      let missed = fails_before_first (λ other. other == net) outputs shown.0 net (let k = shown.1 in omega arith) in
      absurd (true≢false (sym (eq-eqb (slice_index_or outputs shown.0 net) net shown.2) ∙ missed))
]

-- ---- a run without a fault gives, at each step, outputs that the source allows

pub follows_at : (M : Logic) (N : Circuit) (P : CodePlan) (s : List Bool) (xs vs : List (List Bool)) (step q : ℕ) → FollowsFrom M N P s xs vs
    → length vs ≡ length xs → step < length xs → state_at P (at_step (states_from N s vs) step) ≡ Some q
    → AllowsOutputs M P.version q (at_step xs step) (outputs_in N P (at_step vs step))
follows_at M N P s [] vs step q h long within traced = absurd (omega arith)
follows_at M N P s (x ∷ xs) [] step q h long within traced = absurd (omega arith)
follows_at M N P s (x ∷ xs) (v ∷ vs) zero q h long within traced =
    subst (λ n. AllowsOutputs M P.version n x (outputs_in N P v)) (Some-same h.0.here q (sym h.0.traced ∙ traced)) h.0.outputs
follows_at M N P s (x ∷ xs) (v ∷ vs) (suc step) q h long within traced =
    follows_at M N P (next_state N NoFault v) xs vs step q h.1 (omega arith) (omega arith) traced

-- ---- steps at which the tree works

-- the valuation is of the joint's size, and the nodes of its tree settle in it
pub record TreeWorks (J : JointOf) (u : List Bool) : Type 0 where
  pub sized : length u ≡ nets J.circuit
  pub settles : StretchSettles J.circuit u J.tree (length J.circuit.nodes)

abbrev pub TreeWorksOver : JointOf → List (List Bool) → Type 0
TreeWorksOver J us = (step : ℕ) → step < length us → TreeWorks J (at_step us step)

works_more : (J : JointOf) (u : List Bool) (us : List (List Bool)) → TreeWorks J u → TreeWorksOver J us → TreeWorksOver J (u ∷ us)
works_more J u us first rest zero h = first
works_more J u us first rest (suc step) h = rest step (omega arith)

-- the fault isn't at the tree
abbrev pub IsOffTree : JointOf → StuckAt → Type 0
IsOffTree J f = (j : ℕ) → J.tree ≤ j → j < length J.circuit.nodes → TreatAlike f NoFault (node_net J.circuit j)

pub no_fault_off : (J : JointOf) → IsOffTree J NoFault
no_fault_off J j from h = record { stem = λ b. refl; pin = λ k b. refl }

present_off : (J : JointOf) (here : Bool) (f : StuckAt) → IsOffTree J f → IsOffTree J (present here f)
present_off J true f off = off
present_off J false f off = no_fault_off J

works_at : (J : JointOf) (f : StuckAt) (x s : ℕ → Bool) (u : List Bool) → IsOffTree J f → Settles J.circuit f x s u → TreeWorks J u
works_at J f x s u off h = record {
  sized = h.sized;
  settles = record {
    nodes = λ j from below.
        h.nodes j below ∙ (off j from below).stem (node_value J.circuit f u j)
        ∙ ap (truth (node J.circuit j).cover) (reads_same f NoFault u u (node_net J.circuit j) 0 (node J.circuit j).reads
        (λ i k l. (off j from below).pin k (bit u (pin_net J.circuit j i))));
  };
}

pub works_under : (J : JointOf) (f : StuckAt) → IsOffTree J f → (s w : List Bool) (xs us : List (List Bool)) → RunsFrom J.circuit f s w xs us → TreeWorksOver J us
works_under J f off s [] [] [] h = λ step l. absurd (omega arith)
works_under J f off s [] [] (u ∷ us) h = absurd h
works_under J f off s [] (x ∷ xs) us h = absurd h
works_under J f off s (here ∷ w) [] us h = absurd h
works_under J f off s (here ∷ w) (x ∷ xs) [] h = absurd h
works_under J f off s (here ∷ w) (x ∷ xs) (u ∷ us) h =
    works_more J u us (works_at J (present here f) (bit x) (bit s) u (present_off J here f off) h.0)
    (works_under J f off (next_state J.circuit (present here f) u) w xs us h.1)

-- and so it does where a cell fails that isn't of the tree
pub works_but : (J : JointOf) (cell : ℕ) → ((j : ℕ) → J.tree ≤ j → node_net J.circuit j ≡ cell → ⊥) → (s : List Bool) (xs us : List (List Bool))
    → RunsButFrom J.circuit cell s xs us → TreeWorksOver J us
works_but J cell off s [] [] h = λ step l. absurd (omega arith)
works_but J cell off s [] (u ∷ us) h = absurd h
works_but J cell off s (x ∷ xs) [] h = absurd h
works_but J cell off s (x ∷ xs) (u ∷ us) h =
    let settled : SettlesBut J.circuit cell (bit x) (bit s) u = h.0 in
    works_more J u us
    (record { sized = settled.sized; settles = record { nodes = λ j from below. settled.nodes j below (off j from) } })
    (works_but J cell off (next_state J.circuit NoFault u) xs us h.1)

module _ (J : JointOf) (is : IsJoint J) where
  -- the rails of a part agree, read in the joint
  abbrev pub RailsOver : ℕ → List Bool → Type 0
  RailsOver i u =
      bit (as_part (part J i).circuit (part J i).at u) (part J i).plan.rail1 ≡ bit (as_part (part J i).circuit (part J i).at u) (part J i).plan.rail2

  over : (i : ℕ) → i < length J.parts → (u : List Bool) → length u ≡ nets J.circuit → (net : ℕ)
      → bit (as_part (part J i).circuit (part J i).at u) net ≡ bit u ((part J i).at net)
  over i h u sized net = part_bit J.circuit (part J i).circuit (part J i).at (part J i).first_latch (part J i).first_node (is.stand i h) u sized net

  -- where the tree works, an alarm of one part is one of the joint
  pub rails_join : (i : ℕ) → i < length J.parts → (u : List Bool) → TreeWorks J u → RailsOver i u → JointRailsAgree J u
  rails_join i h u works agree =
      let same = sym (over i h u works.sized (part J i).plan.rail1) ∙ agree ∙ over i h u works.sized (part J i).plan.rail2 in
      same-undiffer (bit u J.rail1) (bit u J.rail2)
      (is.decides u works.sized works.settles ∙ list_all_at (part_differs u) J.parts i no_part h (differ-same _ _ same))

  -- and where the rails of each part differ, so do the joint's
  pub rails_quiet : (u : List Bool) → TreeWorks J u → ((i : ℕ) → i < length J.parts → RailsOver i u → ⊥) → JointRailsAgree J u → ⊥
  rails_quiet u works differs agree = true≢false (sym all ∙ sym (is.decides u works.sized works.settles) ∙ differ-same _ _ agree)
    where
      one : (i : ℕ) → i < length J.parts → part_differs u (part J i) ≡ true
      one i h = (differ-iff _ _).1 (λ e. differs i h (over i h u works.sized (part J i).plan.rail1 ∙ e ∙ sym (over i h u works.sized (part J i).plan.rail2)))

      all : list_all (part_differs u) J.parts ≡ true
      all = list_all-from_AllPass (part_differs u) J.parts (All-from_get_or (λ p. part_differs u p ≡ true) J.parts no_part one)

  -- the joint shows the outputs that the part has
  shown_same : (i : ℕ) → i < length J.parts → (u : List Bool) → length u ≡ nets J.circuit
      → outputs_in (part J i).circuit (part J i).plan (as_part (part J i).circuit (part J i).at u) ≡ shown_outputs J (part J i) u
  shown_same i h u sized =
      map_agrees (λ net. Contains J.circuit.outputs ((part J i).at net)) (bit (as_part (part J i).circuit (part J i).at u))
      (λ net. bit (map (bit u) J.circuit.outputs) (position_or_len (λ other. other == (part J i).at net) J.circuit.outputs))
      (λ net shown. over i h u sized net ∙ sym (shown_at J.circuit.outputs ((part J i).at net) u shown)) (own_outputs (part J i)) (is.shown i h)

  at_part : (p : PartOf) (us : List (List Bool)) (step : ℕ) → step < length us → at_step (run_over p us) step ≡ as_part p.circuit p.at (at_step us step)
  at_part p us step h = get_or-map (as_part p.circuit p.at) us step [] [] h

  outputs_shown : (i : ℕ) → i < length J.parts → (us : List (List Bool)) (step : ℕ) → step < length us → length (at_step us step) ≡ nets J.circuit
      → outputs_in (part J i).circuit (part J i).plan (at_step (run_over (part J i) us) step) ≡ shown_outputs J (part J i) (at_step us step)
  outputs_shown i h us step within sized =
      ap (outputs_in (part J i).circuit (part J i).plan) (at_part (part J i) us step within) ∙ shown_same i h (at_step us step) sized

  -- ---- a fault in the part: its alarm is the joint's

  alarm_joins : (i : ℕ) → i < length J.parts → (us : List (List Bool)) → TreeWorksOver J us → (step : ℕ) → step < length us
      → AlarmBy (part J i).plan (run_over (part J i) us) step → JointAlarmBy J us step
  alarm_joins i h us works step within alarm =
      let before : alarm.at < length us = (let k = alarm.in_time in omega arith) in
      record {
        at = alarm.at;
        in_time = alarm.in_time;
        rails_agree = rails_join i h (at_step us alarm.at) (works alarm.at before)
            (subst (λ v. bit v (part J i).plan.rail1 ≡ bit v (part J i).plan.rail2) (at_part (part J i) us alarm.at before) alarm.rails_agree);
      }

  -- where the tree works, and no wrong output of a part comes before its alarm, none comes before the joint's
  pub silent_joins : (M : Logic) (i : ℕ) → i < length J.parts → (xs vs us : List (List Bool)) → length us ≡ length xs → TreeWorksOver J us
      → NoSilentError M (part J i).circuit (part J i).plan (inputs_over (part J i) xs) (run_over (part J i) vs) (run_over (part J i) us)
      → NoSilentPart M J (part J i) xs vs us
  silent_joins M i h xs vs us long works silent step q within traced wrong =
      let here : step < length us = omega arith in
      alarm_joins i h us works step here
      (silent step q (omega (arith, length-map xs (part_inputs (part J i).circuit (part J i).at))) traced
      (λ ok. wrong (subst (AllowsOutputs M (part J i).plan.version q (at_step (inputs_over (part J i) xs) step))
      (outputs_shown i h us step here (works step here).sized) ok)))

  -- ---- no fault in the part: its outputs are right

  -- where a part's run is the one without a fault, and follows its source, no wrong output of it comes before the alarm
  pub right_stays : (M : Logic) (i : ℕ) → i < length J.parts → (xs vs us : List (List Bool)) → length us ≡ length xs
      → ((step : ℕ) → step < length us → length (at_step us step) ≡ nets J.circuit)
      → run_over (part J i) us ≡ run_over (part J i) vs
      → Follows M (part J i).circuit (part J i).plan (inputs_over (part J i) xs) (run_over (part J i) vs)
      → NoSilentPart M J (part J i) xs vs us
  right_stays M i h xs vs us long sized same follows step q within traced wrong =
      let here : step < length us = omega arith in
      let p = part J i in
      let long_inputs = length-map xs (part_inputs (part J i).circuit (part J i).at) in
      let long_run = length-map us (as_part (part J i).circuit (part J i).at) in
      absurd (wrong (subst (AllowsOutputs M (part J i).plan.version q (at_step (inputs_over (part J i) xs) step))
      (ap (λ vs. outputs_in (part J i).circuit (part J i).plan (at_step vs step)) (sym same) ∙ outputs_shown i h us step here (sized step here))
      (follows_at M (part J i).circuit (part J i).plan (init_state (part J i).circuit) (inputs_over (part J i) xs) (run_over (part J i) vs) step q follows.steps
      (ap length (sym same) ∙ omega arith) (omega arith) traced)))

-- two runs of one list are the same
pub runs_same : (N : Circuit) (f : StuckAt) (w : List Bool) (xs vs us : List (List Bool)) → HasOneRun N f w xs → Runs N f w xs vs → Runs N f w xs us → us ≡ vs
runs_same N f w xs vs us one first second = one.only us second ∙ sym (one.only vs first)
