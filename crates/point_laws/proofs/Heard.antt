-- Heard at the points, and alarm-secure.
use Rattle.std.proofs.Common.{◌≡◌, ℕ, ◌<◌, ◌==◌, Bool, true, false, not, ◌++◌, List, [], ◌∷◌, map, length, Some, IsTrue, refl, sym, ap, subst, subst₂, ◌∙◌, inl, inr, arith, length-append}
use Rattle.std.specs.List.{list_all}
use Rattle.std.proofs.lemmas.Bool.{ne_eqb, and_parts, false≢true}
use Rattle.std.proofs.lemmas.List.{ext_get_or}
use Rattle.fault_secure.specs.Circuit.{Circuit, LatchOf, bit}
use Rattle.fault_secure.specs.StuckAt.{NoFault, Stem}
use Rattle.fault_secure.specs.Settle.{Settles, Acyclic}
use Rattle.fault_secure.specs.Run.{init_state}
use Rattle.fault_secure.specs.CodePlan.{CodePlan, IsPlanOf, RailsAgree}
use Rattle.fault_secure.specs.Logic.{Logic, StateTable, AllowsOutputs, NetworkAnswers, answering, is_free_output, specifies}
use Rattle.fault_secure.specs.FaultSecure.{outputs_in, state_at, at_step, AlarmBy}
use Rattle.fault_secure.specs.FailingCell.{IsCell, SettlesBut}
use Rattle.fault_secure.specs.Exposing.{word_of_state}
use Rattle.fault_secure.proofs.OneRun.{settles_once}
use Rattle.structure_laws.proofs.FailingCell.{working, cells_settle_as_held_stems, listed_faults_are_failing_cells}
use Rattle.structure_laws.proofs.ParityStep.{same_bit}
use Rattle.point_laws.specs.Reached.{IsReached}
use Rattle.point_laws.specs.Points.{IsStepAt}
use Rattle.point_laws.specs.Heard.{shown_bits, IsHeardAtPoints, IsHeardWhereReached, IsAlarmSecure}
use Rattle.point_laws.specs.AlarmLaws.{UnheardStemsDecide, UnheardStemIsWrong, HeardAtPointsIsAlarmSecure, SecureAtPointsIsHeard, CellSecureIsAlarmSecure, AlarmSecureForFaults, NetworksAreDecidedByAlarms, SourcesAllowOneOutput, UnheardIsInsecure, WrongUnheardIsInsecure}
use Rattle.point_laws.proofs.Steps.{cut, step_at, step_but_at, one_word}
use Rattle.point_laws.proofs.Arrivals.{at_last, clean_to, runs_under, runs_but, start_reached, as_long, states_at_last, step_at_last, last_alarm}
use Rattle.point_laws.proofs.WhereReached.{word_shown, shown_of, heard_where_reached_is_alarm_secure, follows_reached, quiet_reached}
use Rattle.point_laws.proofs.AtPoints.{held_step, failing_step, reached_is_traced, follows_where_reached, silent_is_insecure, from_start, but_from_start, follows_from_start}

-- ---- from points to runs

module _ (N : Circuit) (P : CodePlan) (plan : IsPlanOf N P) (heard : IsHeardAtPoints N P) where
  heard_at : (cell q : ℕ) (s x v u : List Bool) → IsCell N cell → state_at P s ≡ Some q → Settles N NoFault (bit x) (bit s) v → SettlesBut N cell (bit x) (bit s) u
      → (shown_bits N P u ≡ shown_bits N P v → ⊥) → RailsAgree P u
  heard_at cell q s x v u is traced settled held differ = elim (same_bit (bit u P.rail1) (bit u P.rail2)) [
    | inl agree ↦ agree
    | inr apart ↦ absurd (heard.heard cell q (cut N x) is (record {
      right = v;
      wrong = u;
      step = step_at N P plan q s traced x v settled;
      failing = step_but_at N P plan q s traced cell x u held;
      unheard = record { differ = differ; rails_differ = apart };
    }))
  ]

  heard_where_traced : ((s : List Bool) → IsReached N s → (q : ℕ) × (state_at P s ≡ Some q)) → IsHeardWhereReached N P
  heard_where_traced trace = record {
    quiet = λ s x v r h agree. (let t = trace s r in
        heard.quiet t.0 (cut N x) (record { valuation = v; step = step_at N P plan t.0 s t.1 x v h; rails_agree = agree }));
    heard = λ cell s x v u is r settled held differ. (let t = trace s r in heard_at cell t.0 s x v u is t.1 settled held differ);
  }

-- what follows its source and is heard at its points is alarm-secure, whatever its structure
pub heard_at_points_is_alarm_secure : HeardAtPointsIsAlarmSecure
heard_at_points_is_alarm_secure M N P plan acyclic follows heard =
    heard_where_reached_is_alarm_secure M N P acyclic (follows_where_reached M N P follows) (heard_where_traced N P plan heard (reached_is_traced M N P follows))

-- ---- weaker than secure against any one failing cell

-- what is secure at its points is heard at its points
pub secure_at_points_is_heard : SecureAtPointsIsHeard
secure_at_points_is_heard N P secure = record {
  quiet = secure.quiet;
  heard = λ cell q x is a. secure.shown cell q x is (record {
    right = a.right;
    wrong = a.wrong;
    step = a.step;
    failing = a.failing;
    silent = record {
      differ = λ same. a.unheard.differ (word_shown N P a.right a.wrong same);
      unshown = λ shows. a.unheard.rails_differ shows.rails_agree;
    };
  });
}

-- what is secure against any one failing cell is alarm-secure
pub cell_secure_is_alarm_secure : CellSecureIsAlarmSecure
cell_secure_is_alarm_secure M N P secure = record {
  one_run = secure.one_run;
  one_run_but = secure.one_run_but;
  follows = secure.follows;
  quiet = secure.quiet;
  alarmed = λ cell w xs vs us is run held. (secure.flagged cell w xs vs us is run held).no_silent_error;
}

-- where a cell fails unheard at a listed state to which a run comes, the netlist isn't one that is secure against any one failing cell
pub unheard_is_insecure : UnheardIsInsecure
unheard_is_insecure M N P cell q x s is is_state r a secure = silent_is_insecure M N P cell q x s is is_state r (record {
  right = a.right;
  wrong = a.wrong;
  step = a.step;
  failing = a.failing;
  silent = record {
    differ = λ same. a.unheard.differ (word_shown N P a.right a.wrong same);
    unshown = λ shows. a.unheard.rails_differ shows.rails_agree;
  };
}) secure

-- ---- stems

-- a cell fails unheard at a point exactly where its stem, held at one of the two bits, is unheard there
pub unheard_stems_decide : UnheardStemsDecide
unheard_stems_decide N P cell q x is = (
  λ a. (
    bit a.wrong cell,
    record {
      right = a.right;
      wrong = a.wrong;
      step = a.step;
      failing = held_step N P cell q x a.wrong is a.failing;
      unheard = a.unheard;
    },
  ),
  λ under. record {
    right = under.1.right;
    wrong = under.1.wrong;
    step = under.1.step;
    failing = failing_step N P cell under.0 q x under.1.wrong is under.1.failing;
    unheard = under.1.unheard;
  },
)

other_bit : (b held : Bool) → (b ≡ held → ⊥) → b ≡ not held
other_bit true true apart = absurd (apart refl)
other_bit true false apart = refl
other_bit false true apart = refl
other_bit false false apart = absurd (apart refl)

-- held at the bit that it has anyway, the stem makes nothing wrong
pub unheard_stem_is_wrong : UnheardStemIsWrong
unheard_stem_is_wrong N P cell q held x right acyclic is a step = other_bit (bit right cell) held (λ same. a.unheard.differ (ap (shown_bits N P) (unchanged same)))
  where
    at_word : (w : List Bool) → word_of_state P q ≡ Some w → (v : List Bool) → IsStepAt N P q x v → Settles N NoFault (bit x) (bit w) v
    at_word w is_state v s = subst (λ z. Settles N NoFault (bit x) (bit z) v) (one_word P q s.word w s.is_state is_state) s.settles

    settled : Settles N NoFault (bit x) (bit a.failing.word) right
    settled = at_word a.failing.word a.failing.is_state right step

    unchanged : bit right cell ≡ held → a.wrong ≡ a.right
    unchanged same =
        let as_held = (cells_settle_as_held_stems N cell (bit x) (bit a.failing.word) right is).0 (working N cell (bit x) (bit a.failing.word) right settled) in
        settles_once N (Stem cell held) (bit x) (bit a.failing.word) acyclic a.wrong right a.failing.settles
        (subst (λ b. Settles N (Stem cell b) (bit x) (bit a.failing.word) right) same as_held)
        ∙ settles_once N NoFault (bit x) (bit a.failing.word) acyclic right a.right settled (at_word a.failing.word a.failing.is_state a.right a.step)

-- ---- listed faults

-- with one listed fault, present at any steps, no wrong output of what is alarm-secure comes before its alarm
pub alarm_secure_for_faults : AlarmSecureForFaults
alarm_secure_for_faults M N P f w xs vs us secure listed run held =
    let failing = listed_faults_are_failing_cells N f w xs us listed held in
    secure.alarmed failing.cell w xs vs us failing.is_cell run failing.runs

-- ---- from runs to the states that they come to

module _ (M : Logic) (N : Circuit) (P : CodePlan) (secure : IsAlarmSecure M N P) (cell q : ℕ) (s x v u : List Bool) (is : IsCell N cell)
    (r : IsReached N s) (traced : state_at P s ≡ Some q) (settled : Settles N NoFault (bit x) (bit s) v) (held : SettlesBut N cell (bit x) (bit s) u) where
  -- where the outputs aren't allowed, the rails agree
  pub alarm_where_reached : (AllowsOutputs M P.version q x (outputs_in N P u) → ⊥) → RailsAgree P u
  alarm_where_reached wrong = last_alarm N P r.run u alarm.at (secure.quiet r.marks r.inputs r.run r.runs) alarm.in_time alarm.rails_agree
    where
      long : length r.inputs ≡ length r.run
      long = as_long N (init_state N) r.inputs r.run (clean_to N s r)

      input : at_step (r.inputs ++ x ∷ []) (length r.run) ≡ x
      input = ap (at_step (r.inputs ++ x ∷ [])) (sym long) ∙ step_at_last r.inputs x

      alarm : AlarmBy P (r.run ++ u ∷ []) (length r.run)
      alarm = secure.alarmed cell (at_last r.inputs) (r.inputs ++ x ∷ []) (r.run ++ v ∷ []) (r.run ++ u ∷ []) is
          (runs_under N NoFault s x v r settled) (runs_but N cell s x u r held) (length r.run) q (omega (arith, long, length-append r.inputs (x ∷ [])))
          (ap (state_at P) (states_at_last N (init_state N) r.run v ∙ r.arrives) ∙ traced)
          (λ ok. wrong (subst₂ (λ y z. AllowsOutputs M P.version q y (outputs_in N P z)) input (step_at_last r.run u) ok))

pub wrong_unheard_is_insecure : WrongUnheardIsInsecure
wrong_unheard_is_insecure M N P cell q x s is is_state traced r a secure =
    let right_word = one_word P q a.step.word s a.step.is_state is_state in
    let wrong_word = one_word P q a.failing.word s a.failing.is_state is_state in
    a.rails_differ (alarm_where_reached M N P secure cell q s x a.right a.wrong is r traced
    (subst (λ w. Settles N NoFault (bit x) (bit w) a.right) right_word a.step.settles)
    (subst (λ w. SettlesBut N cell (bit x) (bit w) a.wrong) wrong_word a.failing.settles) a.not_allowed)

-- ---- without latches

no_next : (v u : List Bool) (ls : List LatchOf) → length ls ≡ 0 → map (bit u) (map (λ (l : LatchOf). l.reads) ls) ≡ map (bit v) (map (λ (l : LatchOf). l.reads) ls)
no_next v u [] none = refl
no_next v u (l ∷ ls) none = absurd (omega arith)

-- without latches, where the source allows one list of outputs, alarm-secure is following and heard at its points, and the other way
pub networks_are_decided_by_alarms : NetworksAreDecidedByAlarms
networks_are_decided_by_alarms M N P one plan acyclic none = (
  λ secure. let follows = follows_reached M N P secure.follows secure.quiet in (
    follows_from_start N none M P (plan.latches ∙ none) follows,
    record {
      quiet = λ q x alarm. quiet_reached M N P secure.follows secure.quiet (init_state N) x alarm.valuation (start_reached N)
          (from_start N none x alarm.step.word alarm.valuation alarm.step.settles) alarm.rails_agree;
      heard = λ cell q x is a.
          let settled = from_start N none x a.step.word a.right a.step.settles in
          let step = follows.steps (init_state N) x a.right (start_reached N) settled in
          a.unheard.rails_differ (alarm_where_reached M N P secure cell step.here (init_state N) x a.right a.wrong is (start_reached N) step.traced settled
          (but_from_start N none cell x a.failing.word a.wrong a.failing.settles)
          (λ ok. a.unheard.differ (shown_of N P a.right a.wrong (one step.here x (outputs_in N P a.wrong) (outputs_in N P a.right) ok step.outputs) (no_next a.right a.wrong N.latches none))));
    },
  ),
  λ both. heard_at_points_is_alarm_secure M N P plan acyclic both.0 both.1,
)

-- ---- sources without a free output

one_answer : (C : Circuit) (x ys zs : List Bool) → Acyclic C → NetworkAnswers C x ys → NetworkAnswers C x zs → ys ≡ zs
one_answer C x ys zs acyclic first second =
    sym first.answers
    ∙ ap (λ v. map (bit v) C.outputs) (settles_once C NoFault (bit x) (λ _. false) acyclic first.valuation second.valuation first.settles second.settles)
    ∙ second.answers

pub sources_allow_one_output : SourcesAllowOneOutput
sources_allow_one_output = record {
  network = λ C version acyclic q x ys zs first second. one_answer C x ys zs acyclic first second;
  table = λ T version other q x ys zs first second. ext_get_or false ys zs (first.sized ∙ sym second.sized)
      (λ i h. (let inside : i < T.outputs = (let e = first.sized in omega arith) in elim (first.each i inside) [
        | inl free ↦ absurd (not_free T version q x i other free)
        | inr here ↦ elim (second.each i inside) [
          | inl free ↦ absurd (not_free T version q x i other free)
          | inr there ↦ here ∙ sym there
        ]
      ]));
  loose = λ V F version acyclic other q x ys zs first second. ext_get_or false ys zs (first.sized ∙ sym second.sized)
      (λ i h. (let inside : i < length V.outputs = (let e = first.sized in omega arith) in elim (first.each i inside) [
        | inl free ↦ absurd (other free.0)
        | inr here ↦ elim (second.each i inside) [
          | inl free ↦ absurd (other free.0)
          | inr there ↦ here ∙ ap (λ bits. bit bits i) (one_answer V x first.chosen second.chosen acyclic first.answers second.answers) ∙ sym there
        ]
      ]));
}
  where
    not_free : (T : StateTable) (version q : ℕ) (x : List Bool) (place : ℕ) → (version ≡ 2 → ⊥) → IsTrue (is_free_output version (answering T q x) place) → ⊥
    not_free T version q x place other free =
        false≢true (sym (ne_eqb version 2 other) ∙ (and_parts (version == 2) (list_all (λ row. not (specifies row place)) (answering T q x)) free).0)
