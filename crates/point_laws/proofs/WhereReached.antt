-- Secure at the states that runs come to, and secure over runs: one says the other.
use Rattle.std.proofs.Common.{◌≡◌, ◌⊎◌, ℕ, zero, suc, ◌<◌, ◌++◌, Bool, List, [], ◌∷◌, take, length, Some, All, sym, ap, ap₂, subst, subst₂, ◌∙◌, inl, inr, arith}
use Rattle.std.proofs.lemmas.List.{length-map, map-append}
use Rattle.std.proofs.lemmas.List.Elements.{All-nil, All-cons}
use Rattle.fault_secure.specs.Circuit.{Circuit, bit}
use Rattle.fault_secure.specs.StuckAt.{NoFault, Stem}
use Rattle.fault_secure.specs.Settle.{Settles, Acyclic}
use Rattle.fault_secure.specs.Run.{init_state, next_state, Runs}
use Rattle.fault_secure.specs.CodePlan.{CodePlan, next_nets, word, RailsAgree}
use Rattle.fault_secure.specs.Logic.{Logic, AllowsOutputs}
use Rattle.fault_secure.specs.FaultSecure.{outputs_in, next_in, state_at, StepFollows, Follows, FollowsFrom, IsQuiet, FirstErrorShows, states_from, at_step, AlarmBy, IsFaultSecure}
use Rattle.fault_secure.specs.FailingCell.{IsCell, SettlesBut, RunsButFrom}
use Rattle.fault_secure.specs.CellSecure.{IsCellSecure}
use Rattle.fault_secure.proofs.OneRun.{one_run}
use Rattle.structure_laws.proofs.FailingCell.{cells_settle_as_held_stems, one_run_but_a_cell}
use Rattle.structure_laws.proofs.FirstErrors.{CleanFrom, clean_from, next_clean, same_next, same_word_or_not}
use Rattle.structure_laws.proofs.Joined.{Some-same, cell_secure_is_fault_secure}
use Rattle.structure_laws.proofs.ParityStep.{same_or_differ}
use Rattle.structure_laws.proofs.Words.{same_parts}
use Rattle.point_laws.specs.Reached.{IsReached, FollowsWhereReached, IsQuietWhereReached, IsSecureWhereReached}
use Rattle.point_laws.specs.Heard.{shown_bits}
use Rattle.point_laws.specs.PointLaws.{DecidedWhereReached, FaultsDecideCells}
use Rattle.point_laws.specs.AlarmLaws.{HeardWhereReachedIsAlarmSecure}
use Rattle.point_laws.proofs.Steps.{stem_listed}
use Rattle.point_laws.proofs.Arrivals.{at_last, clean_to, runs_under, runs_but, start_reached, next_reached, last_follows, last_quiet, last_shows}

-- ---- the bits that are shown

module _ (N : Circuit) (P : CodePlan) (v u : List Bool) where
  -- equal words show equal bits
  pub word_shown : word N P u ≡ word N P v → shown_bits N P u ≡ shown_bits N P v
  word_shown same =
      let parts = same_parts (bit u) (bit v) (take P.outputs N.outputs ++ P.checks) (next_nets N) same in
      let front = same_parts (bit u) (bit v) (take P.outputs N.outputs) P.checks parts.0 in
      map-append (bit u) (take P.outputs N.outputs) (next_nets N) ∙ ap₂ ◌++◌ front.0 parts.1 ∙ sym (map-append (bit v) (take P.outputs N.outputs) (next_nets N))

  -- equal outputs and next bits are equal bits that are shown, and the other way
  pub shown_of : outputs_in N P u ≡ outputs_in N P v → next_in N u ≡ next_in N v → shown_bits N P u ≡ shown_bits N P v
  shown_of outputs next =
      map-append (bit u) (take P.outputs N.outputs) (next_nets N) ∙ ap₂ ◌++◌ outputs next ∙ sym (map-append (bit v) (take P.outputs N.outputs) (next_nets N))

  -- the outputs are those of the other valuation, and so are the next state bits
  abbrev pub IsAlike : Type 0
  IsAlike = (outputs_in N P v ≡ outputs_in N P u) × (next_state N NoFault u ≡ next_state N NoFault v)

  pub alike_shown : shown_bits N P u ≡ shown_bits N P v → IsAlike
  alike_shown same =
      let parts = same_parts (bit u) (bit v) (take P.outputs N.outputs) (next_nets N) same in
      (sym parts.0, next_clean N u ∙ parts.1 ∙ sym (next_clean N v))

  shown_or_not : (shown_bits N P u ≡ shown_bits N P v) ⊎ (shown_bits N P u ≡ shown_bits N P v → ⊥)
  shown_or_not = elim (same_or_differ (shown_bits N P u) (shown_bits N P v)
      (length-map (take P.outputs N.outputs ++ next_nets N) (bit u) ∙ sym (length-map (take P.outputs N.outputs ++ next_nets N) (bit v)))) [
        | inl same ↦ inl same
        | inr differ ↦ inr (λ e. differ.apart (ap (λ w. bit w differ.place) e))
      ]

-- ---- from the states that runs come to, to runs

module _ (M : Logic) (N : Circuit) (P : CodePlan) (follows : FollowsWhereReached M N P) where
  module _ (quiet : IsQuietWhereReached N P) where
    quiet_from : (xs vs : List (List Bool)) (s : List Bool) → IsReached N s → CleanFrom N s xs vs → FollowsFrom M N P s xs vs × All (IsQuiet N P) vs
    quiet_from [] [] s r run = (tt, All-nil (IsQuiet N P))
    quiet_from [] (v ∷ vs) s r run = absurd run
    quiet_from (x ∷ xs) [] s r run = absurd run
    quiet_from (x ∷ xs) (v ∷ vs) s r run =
        let here : IsQuiet N P v = record { codeword = follows.codewords s x v r run.0; rails_differ = quiet s x v r run.0 } in
        let rest = quiet_from xs vs (next_state N NoFault v) (next_reached N s x v r run.0) run.1 in
        ((follows.steps s x v r run.0, rest.0), All-cons (IsQuiet N P) v vs here rest.1)

    pub quiet_runs : (w : List Bool) (xs vs : List (List Bool)) → Runs N NoFault w xs vs → Follows M N P xs vs × All (IsQuiet N P) vs
    quiet_runs w xs vs run =
        let both = quiet_from xs vs (init_state N) (start_reached N) (clean_from N (init_state N) w xs vs run) in
        (record { starts = follows.starts; steps = both.0 }, both.1)

  module _ (cell : ℕ) (step : (s x v u : List Bool) → IsReached N s → Settles N NoFault (bit x) (bit s) v → SettlesBut N cell (bit x) (bit s) u
      → IsAlike N P v u ⊎ RailsAgree P u) where
    -- no wrong output before its alarm, from the state bits s on
    abbrev AlarmsFrom : List Bool → List (List Bool) → List (List Bool) → List (List Bool) → Type 0
    AlarmsFrom s xs vs us = (step q : ℕ) → step < length xs → state_at P (at_step (states_from N s vs) step) ≡ Some q
        → (AllowsOutputs M P.version q (at_step xs step) (outputs_in N P (at_step us step)) → ⊥) → AlarmBy P us step

    -- after a step with the outputs right
    right_step : (x : List Bool) (xs : List (List Bool)) (v : List Bool) (vs : List (List Bool)) (u : List Bool) (us : List (List Bool)) (s : List Bool)
        → StepFollows M N P s x v → outputs_in N P v ≡ outputs_in N P u → AlarmsFrom (next_state N NoFault v) xs vs us → AlarmsFrom s (x ∷ xs) (v ∷ vs) (u ∷ us)
    right_step x xs v vs u us s ok same later zero q within traced wrong =
        absurd (wrong (subst₂ (λ n ys. AllowsOutputs M P.version n x ys) (Some-same ok.here q (sym ok.traced ∙ traced)) same ok.outputs))
    right_step x xs v vs u us s ok same later (suc k) q within traced wrong =
        let alarm = later k q (omega arith) traced wrong in
        record { at = suc alarm.at; in_time = (let h = alarm.in_time in omega arith); rails_agree = alarm.rails_agree }

    pub alarms_from : (xs vs us : List (List Bool)) (s : List Bool) → IsReached N s → CleanFrom N s xs vs → RunsButFrom N cell s xs us → AlarmsFrom s xs vs us
    alarms_from [] vs us s r run held k q within traced wrong = absurd (omega arith)
    alarms_from (x ∷ xs) [] us s r run held k q within traced wrong = absurd run
    alarms_from (x ∷ xs) (v ∷ vs) [] s r run held k q within traced wrong = absurd held
    alarms_from (x ∷ xs) (v ∷ vs) (u ∷ us) s r run held k q within traced wrong = elim (step s x v u r run.0 held.0) [
      | inr agree ↦ record { at = 0; in_time = omega arith; rails_agree = agree }
      | inl alike ↦ right_step x xs v vs u us s (follows.steps s x v r run.0) alike.0
          (alarms_from xs vs us (next_state N NoFault v) (next_reached N s x v r run.0) run.1
          (subst (λ z. RunsButFrom N cell z xs us) alike.1 held.1)) k q within traced wrong
    ]

pub heard_where_reached_is_alarm_secure : HeardWhereReachedIsAlarmSecure
heard_where_reached_is_alarm_secure M N P acyclic follows heard = record {
  one_run = λ w xs sized. one_run N NoFault w xs acyclic sized;
  one_run_but = λ cell bits xs is sized. one_run_but_a_cell N cell bits xs acyclic is sized;
  follows = λ w xs vs run. (quiet_runs M N P follows heard.quiet w xs vs run).0;
  quiet = λ w xs vs run. (quiet_runs M N P follows heard.quiet w xs vs run).1;
  alarmed = λ cell w xs vs us is run held. alarms_from M N P follows cell (step cell is) xs vs us (init_state N) (start_reached N)
      (clean_from N (init_state N) w xs vs run) held;
}
  where
    step : (cell : ℕ) → IsCell N cell → (s x v u : List Bool) → IsReached N s → Settles N NoFault (bit x) (bit s) v → SettlesBut N cell (bit x) (bit s) u
        → IsAlike N P v u ⊎ RailsAgree P u
    step cell is s x v u r settled held = elim (shown_or_not N P v u) [
      | inl same ↦ inl (alike_shown N P v u same)
      | inr differ ↦ inr (heard.heard cell s x v u is r settled held differ)
    ]

module _ (M : Logic) (N : Circuit) (P : CodePlan) (follows : FollowsWhereReached M N P) (secure : IsSecureWhereReached N P) (cell : ℕ) (is : IsCell N cell) where
  first_from : (xs vs us : List (List Bool)) (s : List Bool) → IsReached N s → CleanFrom N s xs vs → RunsButFrom N cell s xs us → FirstErrorShows N P vs us
  first_from xs [] us s r run held = tt
  first_from xs (v ∷ vs) [] s r run held = tt
  first_from [] (v ∷ vs) (u ∷ us) s r run held = absurd run
  first_from (x ∷ xs) (v ∷ vs) (u ∷ us) s r run held = (
    λ same. first_from xs vs us (next_state N NoFault v) (next_reached N s x v r run.0) run.1
        (subst (λ z. RunsButFrom N cell z xs us) (same_next N P v u same) held.1),
    λ differ. secure.shown cell s x v u is r run.0 held.0 differ,
  )

  word_step : (s x v u : List Bool) → IsReached N s → Settles N NoFault (bit x) (bit s) v → SettlesBut N cell (bit x) (bit s) u → IsAlike N P v u ⊎ RailsAgree P u
  word_step s x v u r settled held = elim (same_word_or_not N P u v) [
    | inl same ↦ inl (alike_shown N P v u (word_shown N P v u same))
    | inr differ ↦ inr (secure.shown cell s x v u is r settled held differ).rails_agree
  ]

pub secure_from_reached : (M : Logic) (N : Circuit) (P : CodePlan) → Acyclic N → FollowsWhereReached M N P → IsSecureWhereReached N P → IsCellSecure M N P
secure_from_reached M N P acyclic follows secure = record {
  one_run = λ w xs sized. one_run N NoFault w xs acyclic sized;
  one_run_but = λ cell bits xs is sized. one_run_but_a_cell N cell bits xs acyclic is sized;
  follows = λ w xs vs run. (quiet_runs M N P follows secure.quiet w xs vs run).0;
  quiet = λ w xs vs run. (quiet_runs M N P follows secure.quiet w xs vs run).1;
  flagged = λ cell w xs vs us is run held. let clean = clean_from N (init_state N) w xs vs run in record {
    first_error = first_from M N P follows secure cell is xs vs us (init_state N) (start_reached N) clean held;
    no_silent_error = alarms_from M N P follows cell (word_step M N P follows secure cell is) xs vs us (init_state N) (start_reached N) clean held;
  };
}

-- ---- from runs to the states that they come to

module _ (M : Logic) (N : Circuit) (P : CodePlan) (follows : (w : List Bool) (xs vs : List (List Bool)) → Runs N NoFault w xs vs → Follows M N P xs vs)
    (quiet : (w : List Bool) (xs vs : List (List Bool)) → Runs N NoFault w xs vs → All (IsQuiet N P) vs) where
  quiet_at : (s x v : List Bool) → IsReached N s → Settles N NoFault (bit x) (bit s) v → IsQuiet N P v
  quiet_at s x v r h = last_quiet N P r.run v (quiet (at_last r.inputs) (r.inputs ++ x ∷ []) (r.run ++ v ∷ []) (runs_under N NoFault s x v r h))

  pub follows_reached : FollowsWhereReached M N P
  follows_reached = record {
    starts = (follows [] [] [] tt).starts;
    steps = λ s x v r h. subst (λ z. StepFollows M N P z x v) r.arrives
        (last_follows N P M (init_state N) r.inputs r.run x v (clean_to N s r)
        (follows (at_last r.inputs) (r.inputs ++ x ∷ []) (r.run ++ v ∷ []) (runs_under N NoFault s x v r h)).steps);
    codewords = λ s x v r h. (quiet_at s x v r h).codeword;
  }

  -- at the states that runs come to, the rails differ without a fault
  pub quiet_reached : IsQuietWhereReached N P
  quiet_reached s x v r h = (quiet_at s x v r h).rails_differ

pub secure_to_reached : (M : Logic) (N : Circuit) (P : CodePlan) → IsCellSecure M N P → FollowsWhereReached M N P × IsSecureWhereReached N P
secure_to_reached M N P secure = (
  follows_reached M N P secure.follows secure.quiet,
  record {
    quiet = quiet_reached M N P secure.follows secure.quiet;
    shown = λ cell s x v u is r settled held differ. last_shows N P r.run v u
        (secure.flagged cell (at_last r.inputs) (r.inputs ++ x ∷ []) (r.run ++ v ∷ []) (r.run ++ u ∷ []) is
        (runs_under N NoFault s x v r settled) (runs_but N cell s x u r held)).first_error differ;
  },
)

pub decided_where_reached : DecidedWhereReached
decided_where_reached M N P acyclic = (secure_to_reached M N P, λ both. secure_from_reached M N P acyclic both.0 both.1)

-- a failing cell is its stem held, at the last step alone, at the bit that it gives
pub faults_decide_cells : FaultsDecideCells
faults_decide_cells M N P acyclic = (λ secure. secure_from_reached M N P acyclic (follows_reached M N P secure.follows secure.quiet) (where_reached secure), cell_secure_is_fault_secure M N P acyclic)
  where
    where_reached : IsFaultSecure M N P → IsSecureWhereReached N P
    where_reached secure = record {
      quiet = quiet_reached M N P secure.follows secure.quiet;
      shown = λ cell s x v u is r settled held differ. last_shows N P r.run v u
          (secure.flagged (Stem cell (bit u cell)) (at_last r.inputs) (r.inputs ++ x ∷ []) (r.run ++ v ∷ []) (r.run ++ u ∷ []) (stem_listed N cell (bit u cell) is)
          (runs_under N NoFault s x v r settled)
          (runs_under N (Stem cell (bit u cell)) s x u r ((cells_settle_as_held_stems N cell (bit x) (bit s) u is).0 held))).first_error differ;
    }
