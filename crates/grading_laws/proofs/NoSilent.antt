-- What is secure has no silent fault.
use Rattle.std.proofs.Common.{◌≡◌, ℕ, zero, suc, ◌<◌, ◌++◌, Bool, true, List, [], ◌∷◌, length, take, sym, ap, ◌∙◌, inl, inr, arith}
use Rattle.std.proofs.lemmas.List.{length-map, get_or-map}
use Rattle.fault_secure.specs.Circuit.{Circuit, bit}
use Rattle.fault_secure.specs.StuckAt.{StuckAt, NoFault}
use Rattle.fault_secure.specs.Run.{init_state, next_state, HasOneRun}
use Rattle.fault_secure.specs.CodePlan.{CodePlan, next_nets, word}
use Rattle.fault_secure.specs.Logic.{Logic}
use Rattle.fault_secure.specs.FaultSecure.{outputs_in, at_step, states_from, StepFollows, FollowsFrom, FirstErrorShows, AlarmBy}
use Rattle.structure_laws.proofs.FailingCell.{listed_faults_are_failing_cells}
use Rattle.structure_laws.proofs.FirstErrors.{same_word_or_not}
use Rattle.structure_laws.proofs.Words.{same_parts}
use Rattle.register_laws.specs.RegisterSecure.{shown}
use Rattle.register_laws.proofs.MappedRegisters.{register_secure_is_alarm_secure}
use Rattle.grading_laws.specs.Grades.{SilentAt, every_step, IsRightAt, IsGrade}
use Rattle.grading_laws.specs.GradeLaws.{FaultSecureHasNoSilent, CellSecureHasNoSilent, AlarmSecureHasNoSilent, RegisterSecureHasNoSilent, RegisterAlarmSecureHasNoSilent}
use Rattle.grading_laws.proofs.OneGrade.{run_sized}

module _ (N : Circuit) (P : CodePlan) where
  -- equal words have equal outputs
  same_outputs : (v u : List Bool) → word N P u ≡ word N P v → outputs_in N P u ≡ outputs_in N P v
  same_outputs v u same =
      (same_parts (bit u) (bit v) (take P.outputs N.outputs) P.checks
      (same_parts (bit u) (bit v) (take P.outputs N.outputs ++ P.checks) (next_nets N) same).0).0

  one_later : (u : List Bool) (us : List (List Bool)) (step : ℕ) → AlarmBy P us step → AlarmBy P (u ∷ us) (suc step)
  one_later u us step alarm = record { at = suc alarm.at; in_time = (let early = alarm.in_time in omega arith); rails_agree = alarm.rails_agree }

  -- where the first wrong word shows, the alarm comes by the step of a wrong output
  alarm_by_word : (vs us : List (List Bool)) → FirstErrorShows N P vs us → length us ≡ length vs → (step : ℕ) → step < length us
      → (IsRightAt N P vs us step → ⊥) → AlarmBy P us step
  alarm_by_word [] [] shows long step low wrong = absurd (omega arith)
  alarm_by_word [] (u ∷ us) shows long step low wrong = absurd (omega arith)
  alarm_by_word (v ∷ vs) [] shows long step low wrong = absurd (omega arith)
  alarm_by_word (v ∷ vs) (u ∷ us) shows long zero low wrong = elim (same_word_or_not N P u v) [
    | inl same ↦ absurd (wrong (same_outputs v u same))
    | inr differ ↦ record { at = 0; in_time = omega arith; rails_agree = (shows.1 differ).rails_agree }
  ]
  alarm_by_word (v ∷ vs) (u ∷ us) shows long (suc step) low wrong = elim (same_word_or_not N P u v) [
    | inl same ↦ one_later u us step (alarm_by_word vs us (shows.0 same) (omega arith) step (omega arith) wrong)
    | inr differ ↦ record { at = 0; in_time = omega arith; rails_agree = (shows.1 differ).rails_agree }
  ]

  -- so no fault is silent whose first wrong word shows
  no_silent_by_word : (f : StuckAt) (xs : List (List Bool)) (step : ℕ) (h : IsGrade N P f xs (SilentAt step)) → FirstErrorShows N P h.right h.faulty → ⊥
  no_silent_by_word f xs step h shows =
      let long = run_sized N f (init_state N) (every_step xs) xs h.faulty h.faulty_runs ∙ sym (run_sized N NoFault (init_state N) (every_step xs) xs h.right h.right_runs) in
      let alarm = alarm_by_word h.right h.faulty shows long step h.graded.error.inside h.graded.error.wrong in
      h.graded.quiet alarm.at alarm.in_time alarm.rails_agree

pub fault_secure_has_no_silent : FaultSecureHasNoSilent
fault_secure_has_no_silent M N P secure f xs step listed h =
    no_silent_by_word N P f xs step h (secure.flagged f (every_step xs) xs h.right h.faulty listed h.right_runs h.faulty_runs).first_error

pub cell_secure_has_no_silent : CellSecureHasNoSilent
cell_secure_has_no_silent M N P secure f xs step listed h =
    let failing = listed_faults_are_failing_cells N f (every_step xs) xs h.faulty listed h.faulty_runs in
    no_silent_by_word N P f xs step h (secure.flagged failing.cell (every_step xs) xs h.right h.faulty failing.is_cell h.right_runs failing.runs).first_error

-- ---- alarm-secure

-- each step of a run that follows the source does
follows_at : (M : Logic) (N : Circuit) (P : CodePlan) (s : List Bool) (xs vs : List (List Bool)) → FollowsFrom M N P s xs vs → length vs ≡ length xs
    → (step : ℕ) → step < length xs → StepFollows M N P (at_step (states_from N s vs) step) (at_step xs step) (at_step vs step)
follows_at M N P s [] vs h long step low = absurd (omega arith)
follows_at M N P s (x ∷ xs) [] h long step low = absurd (omega arith)
follows_at M N P s (x ∷ xs) (v ∷ vs) h long zero low = h.0
follows_at M N P s (x ∷ xs) (v ∷ vs) h long (suc step) low = follows_at M N P (next_state N NoFault v) xs vs h.1 (omega arith) step (omega arith)

pub alarm_secure_has_no_silent : AlarmSecureHasNoSilent
alarm_secure_has_no_silent M N P one secure f xs step listed h =
    let failing = listed_faults_are_failing_cells N f (every_step xs) xs h.faulty listed h.faulty_runs in
    let inside : step < length xs = (let low = h.graded.error.inside in omega (arith, run_sized N f (init_state N) (every_step xs) xs h.faulty h.faulty_runs)) in
    let follows = follows_at M N P (init_state N) xs h.right (secure.follows (every_step xs) xs h.right h.right_runs).steps
    (run_sized N NoFault (init_state N) (every_step xs) xs h.right h.right_runs) step inside in
    let alarm = secure.alarmed failing.cell (every_step xs) xs h.right h.faulty failing.is_cell h.right_runs failing.runs step follows.here inside follows.traced
    (λ ok. h.graded.error.wrong (one follows.here (at_step xs step) (outputs_in N P (at_step h.faulty step)) (outputs_in N P (at_step h.right step)) ok follows.outputs)) in
    h.graded.quiet alarm.at alarm.in_time alarm.rails_agree

-- ---- with registers

pub register_alarm_secure_has_no_silent : RegisterAlarmSecureHasNoSilent
register_alarm_secure_has_no_silent S N P secure f xs step listed h =
    let failing = listed_faults_are_failing_cells N f (every_step xs) xs h.faulty listed h.faulty_runs in
    let alarm = secure.alarmed failing.cell (every_step xs) (every_step xs) xs source.run h.right h.faulty failing.is_cell source.runs h.right_runs failing.runs step inside
    (λ right. h.graded.error.wrong (right ∙ sym as_source)) in
    h.graded.quiet alarm.at alarm.in_time alarm.rails_agree
  where
    source : HasOneRun S NoFault (every_step xs) xs
    source = secure.source_runs (every_step xs) xs (length-map xs (λ _. true))

    inside : step < length xs
    inside = let low = h.graded.error.inside in omega (arith, run_sized N f (init_state N) (every_step xs) xs h.faulty h.faulty_runs)

    as_source : outputs_in N P.plan (at_step h.right step) ≡ shown S (at_step source.run step)
    as_source =
        sym (get_or-map (outputs_in N P.plan) h.right step [] [] (omega (arith, inside, run_sized N NoFault (init_state N) (every_step xs) xs h.right h.right_runs)))
        ∙ ap (λ outputs. at_step outputs step) (secure.follows (every_step xs) (every_step xs) xs source.run h.right source.runs h.right_runs)
        ∙ get_or-map (shown S) source.run step [] [] (omega (arith, inside, run_sized S NoFault (init_state S) (every_step xs) xs source.run source.runs))

pub register_secure_has_no_silent : RegisterSecureHasNoSilent
register_secure_has_no_silent S N P secure = register_alarm_secure_has_no_silent S N P (register_secure_is_alarm_secure S N P secure)
