-- Secure, joined from its parts: one run, the steps without a fault, the first error, and no wrong output before it.
use Rattle.std.proofs.Common.{◌≡◌, ℕ, zero, suc, ◌<◌, ◌++◌, Bool, List, [], ◌∷◌, length, take, Some, All, sym, ap, subst₂, ◌∙◌, inl, inr, arith}
use Rattle.std.proofs.lemmas.List.Elements.{All-nil, All-cons}
use Rattle.fault_secure.specs.Circuit.{Circuit, bit}
use Rattle.fault_secure.specs.StuckAt.{NoFault}
use Rattle.fault_secure.specs.Settle.{Settles}
use Rattle.fault_secure.specs.Run.{init_state, next_state, Runs}
use Rattle.fault_secure.specs.CodePlan.{CodePlan, next_nets, word}
use Rattle.fault_secure.specs.Structure.{IsCodeDisjoint}
use Rattle.fault_secure.specs.Logic.{Logic, reset_of, AllowsOutputs}
use Rattle.fault_secure.specs.Behaviour.{FollowsSource}
use Rattle.fault_secure.specs.FaultSecure.{outputs_in, state_at, StepFollows, FollowsFrom, IsQuiet, FirstErrorShows, states_from, at_step, AlarmBy}
use Rattle.fault_secure.specs.FailingCell.{RunsButFrom}
use Rattle.fault_secure.proofs.OneRun.{one_run}
use Rattle.structure_laws.specs.CellSecure.{SafeIsCellSecure, CellSecureIsFaultSecure}
use Rattle.structure_laws.proofs.FailingCell.{one_run_but_a_cell, listed_faults_are_failing_cells}
use Rattle.structure_laws.proofs.Words.{same_parts}
use Rattle.structure_laws.proofs.FirstErrors.{CleanFrom, clean_from, next_clean, same_word_or_not, first_error_shows}

-- equal words have equal outputs
outputs_same : (N : Circuit) (P : CodePlan) (v u : List Bool) → word N P u ≡ word N P v → outputs_in N P v ≡ outputs_in N P u
outputs_same N P v u same =
    let front = (same_parts (bit u) (bit v) (take P.outputs N.outputs ++ P.checks) (next_nets N) same).0 in
    sym (same_parts (bit u) (bit v) (take P.outputs N.outputs) P.checks front).0

-- where `Some` of two numbers is the same, so are the numbers
pub Some-same : (a b : ℕ) → Some a ≡ Some b → a ≡ b
Some-same a b e = cc

module _ (M : Logic) (N : Circuit) (P : CodePlan) (follows : FollowsSource M N P) where
  -- without a fault the steps follow the source quietly
  quiet_from : IsCodeDisjoint N P → (xs vs : List (List Bool)) (s : List Bool) (q : ℕ) → state_at P s ≡ Some q → CleanFrom N s xs vs
      → FollowsFrom M N P s xs vs × All (IsQuiet N P) vs
  quiet_from disjoint [] [] s q traced run = (tt, All-nil (IsQuiet N P))
  quiet_from disjoint [] (v ∷ vs) s q traced run = absurd run
  quiet_from disjoint (x ∷ xs) [] s q traced run = absurd run
  quiet_from disjoint (x ∷ xs) (v ∷ vs) s q traced run =
      let settled : Settles N NoFault (bit x) (bit s) v = run.0 in
      let step = follows.steps q s x v traced settled in
      let codeword = follows.codewords q s x v traced settled in
      let quiet : IsQuiet N P v = record {
        codeword = codeword;
        rails_differ = (disjoint.decides v (record { settles = λ j h checker. settled.nodes j h })).1 codeword;
      } in
      let rest = quiet_from disjoint xs vs (next_state N NoFault v) step.next (ap (state_at P) (next_clean N v) ∙ step.arrives) run.1 in
      ((step, rest.0), All-cons (IsQuiet N P) v vs quiet rest.1)

  -- no wrong output before its alarm, from the state bits s on
  abbrev AlarmsFrom : List Bool → List (List Bool) → List (List Bool) → List (List Bool) → Type 0
  AlarmsFrom s xs vs us = (step q : ℕ) → step < length xs → state_at P (at_step (states_from N s vs) step) ≡ Some q
      → (AllowsOutputs M P.version q (at_step xs step) (outputs_in N P (at_step us step)) → ⊥) → AlarmBy P us step

  -- after a step with the word right
  right_step : (x : List Bool) (xs : List (List Bool)) (v : List Bool) (vs : List (List Bool)) (u : List Bool) (us : List (List Bool)) (s : List Bool)
      → StepFollows M N P s x v → word N P u ≡ word N P v → AlarmsFrom (next_state N NoFault v) xs vs us → AlarmsFrom s (x ∷ xs) (v ∷ vs) (u ∷ us)
  right_step x xs v vs u us s ok same later zero q within traced wrong =
      absurd (wrong (subst₂ (λ n ys. AllowsOutputs M P.version n x ys) (Some-same ok.here q (sym ok.traced ∙ traced)) (outputs_same N P v u same) ok.outputs))
  right_step x xs v vs u us s ok same later (suc step) q within traced wrong =
      let alarm = later step q (omega arith) traced wrong in
      record { at = suc alarm.at; in_time = (let h = alarm.in_time in omega arith); rails_agree = alarm.rails_agree }

  -- where an output is wrong, a word was wrong by then, and at the first wrong word the rails agree
  alarm_by : (cell : ℕ) (xs vs us : List (List Bool)) (s t : List Bool) → CleanFrom N s xs vs → RunsButFrom N cell t xs us
      → FollowsFrom M N P s xs vs → FirstErrorShows N P vs us → AlarmsFrom s xs vs us
  alarm_by cell [] vs us s t run held ok shows step q within traced wrong = absurd (omega arith)
  alarm_by cell (x ∷ xs) [] us s t run held ok shows step q within traced wrong = absurd run
  alarm_by cell (x ∷ xs) (v ∷ vs) [] s t run held ok shows step q within traced wrong = absurd held
  alarm_by cell (x ∷ xs) (v ∷ vs) (u ∷ us) s t run held ok shows step q within traced wrong = elim (same_word_or_not N P u v) [
    | inr differ ↦ record { at = 0; in_time = omega arith; rails_agree = (shows.1 differ).rails_agree }
    | inl same ↦ right_step x xs v vs u us s ok.0 same
        (alarm_by cell xs vs us (next_state N NoFault v) (next_state N NoFault u) run.1 held.1 ok.1 (shows.0 same)) step q within traced wrong
  ]

pub safe_is_cell_secure : SafeIsCellSecure
safe_is_cell_secure M N P acyclic disjoint safe follows = record {
  one_run = λ w xs sized. one_run N NoFault w xs acyclic sized;
  one_run_but = λ cell bits xs is sized. one_run_but_a_cell N cell bits xs acyclic is sized;
  follows = λ w xs vs run. record { starts = follows.starts; steps = (both w xs vs run).0 };
  quiet = λ w xs vs run. (both w xs vs run).1;
  flagged = λ cell w xs vs us is run held.
      let shows = first_error_shows N P cell w xs vs us acyclic disjoint (safe cell is) run held (λ k d h. ((both w xs vs run).1 k d h).codeword) in
      record {
        first_error = shows;
        no_silent_error = alarm_by M N P follows cell xs vs us (init_state N) (init_state N) (clean_from N (init_state N) w xs vs run) held (both w xs vs run).0 shows;
      };
}
  where
    both : (w : List Bool) (xs vs : List (List Bool)) → Runs N NoFault w xs vs → FollowsFrom M N P (init_state N) xs vs × All (IsQuiet N P) vs
    both w xs vs run = quiet_from M N P follows disjoint xs vs (init_state N) (reset_of M) follows.starts (clean_from N (init_state N) w xs vs run)

-- what is acyclic and secure against any one failing cell is fault-secure
pub cell_secure_is_fault_secure : CellSecureIsFaultSecure
cell_secure_is_fault_secure M N P acyclic secure = record {
  one_run = λ f w xs listed sized. one_run N f w xs acyclic sized;
  follows = secure.follows;
  quiet = secure.quiet;
  flagged = λ f w xs vs us listed run held.
      let failing = listed_faults_are_failing_cells N f w xs us listed held in
      secure.flagged failing.cell w xs vs us failing.is_cell run failing.runs;
}
