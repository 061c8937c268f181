-- Secure at the points, and secure over runs: each state that a run comes to is a listed one where the netlist follows its source.
use Rattle.std.proofs.Common.{◌≡◌, ℕ, Bool, List, [], ◌∷◌, length, Some, refl, sym, ap, subst, ◌∙◌, inl, inr, arith}
use Rattle.fault_secure.specs.declared.code.Code.{Code}
use Rattle.fault_secure.specs.declared.code.Code.TheVariants.{Parity, Berger, MOutOfN}
use Rattle.fault_secure.specs.Circuit.{Circuit, node_net, bit}
use Rattle.fault_secure.specs.StuckAt.{NoFault, Stem}
use Rattle.fault_secure.specs.Settle.{Settles}
use Rattle.fault_secure.specs.Run.{init_state, next_state}
use Rattle.fault_secure.specs.CodePlan.{CodePlan, IsPlanOf, word, IsCodeword, IsUnorderedCode}
use Rattle.fault_secure.specs.Logic.{Logic, reset_of}
use Rattle.fault_secure.specs.Behaviour.{FollowsSource}
use Rattle.fault_secure.specs.FaultSecure.{state_at, Shows}
use Rattle.fault_secure.specs.FailingCell.{IsCell, SettlesBut}
use Rattle.fault_secure.specs.Structure.{CheckerSettles}
use Rattle.fault_secure.specs.SoundStructure.{SuitsCode, HasSoundStructure}
use Rattle.structure_laws.specs.FirstError.{NoWrongCodeword}
use Rattle.structure_laws.proofs.FailingCell.{working, cells_settle_as_held_stems, listed_faults_settle_but}
use Rattle.structure_laws.proofs.FirstErrors.{CleanFrom, next_clean, unate_is_safe}
use Rattle.structure_laws.proofs.Outside.{outside_function_keeps_word}
use Rattle.structure_laws.proofs.ParityStep.{same_bit, parity_is_safe}
use Rattle.point_laws.specs.Points.{IsStepButAt, IsStepUnderAt, IsSecureAtPoints}
use Rattle.point_laws.specs.Reached.{state_after, IsReached, FollowsWhereReached, IsSecureWhereReached}
use Rattle.point_laws.specs.PointLaws.{SecureAtPointsIsCellSecure, NetworksAreDecided, SilentIsInsecure, StemsDecide, SoundIsSecureAtPoints}
use Rattle.point_laws.proofs.Steps.{settles_like, settles_but_like, cut, step_at, step_but_at, one_word, listed_is_traced, one_state, stem_listed}
use Rattle.point_laws.proofs.Arrivals.{clean_to, start_reached}
use Rattle.point_laws.proofs.WhereReached.{secure_from_reached, secure_to_reached}

-- ---- a run comes to listed states

module _ (M : Logic) (N : Circuit) (P : CodePlan) (follows : FollowsSource M N P) where
  abbrev pub IsTraced : List Bool → Type 0
  IsTraced s = (q : ℕ) × (state_at P s ≡ Some q)

  traced_from : (xs vs : List (List Bool)) (s : List Bool) (q : ℕ) → state_at P s ≡ Some q → CleanFrom N s xs vs → IsTraced (state_after N s vs)
  traced_from [] [] s q traced run = (q, traced)
  traced_from [] (v ∷ vs) s q traced run = absurd run
  traced_from (x ∷ xs) [] s q traced run = absurd run
  traced_from (x ∷ xs) (v ∷ vs) s q traced run =
      let step = follows.steps q s x v traced run.0 in
      traced_from xs vs (next_state N NoFault v) step.next (ap (state_at P) (next_clean N v) ∙ step.arrives) run.1

  pub reached_is_traced : (s : List Bool) → IsReached N s → IsTraced s
  reached_is_traced s r = subst IsTraced r.arrives (traced_from r.inputs r.run (init_state N) (reset_of M) follows.starts (clean_to N s r))

  pub follows_where_reached : FollowsWhereReached M N P
  follows_where_reached = record {
    starts = follows.starts;
    steps = λ s x v r h. (let t = reached_is_traced s r in follows.steps t.0 s x v t.1 h);
    codewords = λ s x v r h. (let t = reached_is_traced s r in follows.codewords t.0 s x v t.1 h);
  }

-- ---- secure at points

module _ (N : Circuit) (P : CodePlan) (plan : IsPlanOf N P) (secure : IsSecureAtPoints N P) where
  -- what isn't silent shows
  shows_at : (cell q : ℕ) (s x v u : List Bool) → IsCell N cell → state_at P s ≡ Some q → Settles N NoFault (bit x) (bit s) v → SettlesBut N cell (bit x) (bit s) u
      → (word N P u ≡ word N P v → ⊥) → Shows N P u
  shows_at cell q s x v u is traced settled held differ = record {
    no_codeword = λ ok. not_silent (λ shows. shows.no_codeword ok);
    rails_agree = elim (same_bit (bit u P.rail1) (bit u P.rail2)) [
      | inl agree ↦ agree
      | inr apart ↦ absurd (not_silent (λ shows. apart shows.rails_agree))
    ];
  }
    where
      not_silent : (Shows N P u → ⊥) → ⊥
      not_silent unshown = secure.shown cell q (cut N x) is (record {
        right = v;
        wrong = u;
        step = step_at N P plan q s traced x v settled;
        failing = step_but_at N P plan q s traced cell x u held;
        silent = record { differ = differ; unshown = unshown };
      })

  pub secure_where_traced : ((s : List Bool) → IsReached N s → (q : ℕ) × (state_at P s ≡ Some q)) → IsSecureWhereReached N P
  secure_where_traced trace = record {
    quiet = λ s x v r h agree. (let t = trace s r in
        secure.quiet t.0 (cut N x) (record { valuation = v; step = step_at N P plan t.0 s t.1 x v h; rails_agree = agree }));
    shown = λ cell s x v u is r settled held differ. (let t = trace s r in shows_at cell t.0 s x v u is t.1 settled held differ);
  }

pub secure_at_points_is_cell_secure : SecureAtPointsIsCellSecure
secure_at_points_is_cell_secure M N P plan acyclic follows secure =
    secure_from_reached M N P acyclic (follows_where_reached M N P follows) (secure_where_traced N P plan secure (reached_is_traced M N P follows))

pub silent_is_insecure : SilentIsInsecure
silent_is_insecure M N P cell q x s is is_state r silent secure =
    let right_word = one_word P q silent.step.word s silent.step.is_state is_state in
    let wrong_word = one_word P q silent.failing.word s silent.failing.is_state is_state in
    silent.silent.unshown ((secure_to_reached M N P secure).1.shown cell s x silent.right silent.wrong is r
    (subst (λ w. Settles N NoFault (bit x) (bit w) silent.right) right_word silent.step.settles)
    (subst (λ w. SettlesBut N cell (bit x) (bit w) silent.wrong) wrong_word silent.failing.settles) silent.silent.differ)

-- ---- without latches

module _ (N : Circuit) (none : length N.latches ≡ 0) where
  -- a step from any state bits is one from the start
  pub from_start : (x s v : List Bool) → Settles N NoFault (bit x) (bit s) v → Settles N NoFault (bit x) (bit (init_state N)) v
  from_start x s v h = settles_like N (bit x) (bit x) (bit s) (bit (init_state N)) (λ i inside. refl) (λ l inside. absurd (omega arith)) NoFault v h

  pub but_from_start : (cell : ℕ) (x s u : List Bool) → SettlesBut N cell (bit x) (bit s) u → SettlesBut N cell (bit x) (bit (init_state N)) u
  but_from_start cell x s u h = settles_but_like N (bit x) (bit x) (bit s) (bit (init_state N)) (λ i inside. refl) (λ l inside. absurd (omega arith)) cell u h

  pub follows_from_start : (M : Logic) (P : CodePlan) → P.latches ≡ 0 → FollowsWhereReached M N P → FollowsSource M N P
  follows_from_start M P no_state follows = record {
    starts = follows.starts;
    steps = λ q s x v traced h. (let step = follows.steps (init_state N) x v (start_reached N) (from_start x s v h) in record {
      here = step.here;
      next = step.next;
      traced = one_state P s (init_state N) no_state ∙ step.traced;
      arrives = step.arrives;
      outputs = step.outputs;
      next_allowed = step.next_allowed;
    });
    codewords = λ q s x v traced h. follows.codewords (init_state N) x v (start_reached N) (from_start x s v h);
  }

pub networks_are_decided : NetworksAreDecided
networks_are_decided M N P plan acyclic none = (
  λ secure. let at = secure_to_reached M N P secure in (
    follows_from_start N none M P (plan.latches ∙ none) at.0,
    record {
      quiet = λ q x alarm. at.1.quiet (init_state N) x alarm.valuation (start_reached N) (from_start N none x alarm.step.word alarm.valuation alarm.step.settles) alarm.rails_agree;
      shown = λ cell q x is silent. silent.silent.unshown (at.1.shown cell (init_state N) x silent.right silent.wrong is (start_reached N)
          (from_start N none x silent.step.word silent.right silent.step.settles)
          (but_from_start N none cell x silent.failing.word silent.wrong silent.failing.settles) silent.silent.differ);
    },
  ),
  λ both. secure_at_points_is_cell_secure M N P plan acyclic both.0 both.1,
)

-- ---- stems

module _ (N : Circuit) (P : CodePlan) (cell : ℕ) where
  -- a step with a failing cell is one with its stem held at the bit that it gives
  pub held_step : (q : ℕ) (x u : List Bool) → IsCell N cell → IsStepButAt N P cell q x u → IsStepUnderAt N P cell (bit u cell) q x u
  held_step q x u is step = record {
    word = step.word;
    is_state = step.is_state;
    sized = step.sized;
    settles = (cells_settle_as_held_stems N cell (bit x) (bit step.word) u is).0 step.settles;
  }

  -- and a step with its stem held is one with the cell failing
  pub failing_step : (held : Bool) (q : ℕ) (x u : List Bool) → IsCell N cell → IsStepUnderAt N P cell held q x u → IsStepButAt N P cell q x u
  failing_step held q x u is step = record {
    word = step.word;
    is_state = step.is_state;
    sized = step.sized;
    settles = (listed_faults_settle_but N (Stem cell held) (bit x) (bit step.word) (bit step.word) u (stem_listed N cell held is) (λ l inside off. refl) step.settles).1;
  }

pub stems_decide : StemsDecide
stems_decide N P cell q x is = (
  λ silent. (
    bit silent.wrong cell,
    record {
      right = silent.right;
      wrong = silent.wrong;
      step = silent.step;
      failing = held_step N P cell q x silent.wrong is silent.failing;
      silent = silent.silent;
    },
  ),
  λ under. record {
    right = under.1.right;
    wrong = under.1.wrong;
    step = under.1.step;
    failing = failing_step N P cell under.0 q x under.1.wrong is under.1.failing;
    silent = under.1.silent;
  },
)

-- ---- sound structure

safe_by_code : (N : Circuit) (P : CodePlan) (c : Code) → P.code ≡ c → SuitsCode c N P → HasSoundStructure N P → (cell : ℕ) → IsCell N cell → NoWrongCodeword N P cell
safe_by_code N P Parity is cones sound cell is_cell = parity_is_safe N P cell is sound.well_made sound.plan_of sound.acyclic cones is_cell
safe_by_code N P Berger is unate sound cell is_cell = unate_is_safe N P cell sound.acyclic unate (subst IsUnorderedCode (sym is) tt)
safe_by_code N P MOutOfN is unate sound cell is_cell = unate_is_safe N P cell sound.acyclic unate (subst IsUnorderedCode (sym is) tt)

module _ (N : Circuit) (P : CodePlan) (sound : HasSoundStructure N P) (cell : ℕ) (is : IsCell N cell) (x s : ℕ → Bool) (v u : List Bool)
    (settled : Settles N NoFault x s v) (held : SettlesBut N cell x s u) (differ : word N P u ≡ word N P v → ⊥) where
  checker_settles : CheckerSettles N P u
  checker_settles = record {
    settles = λ q h checker. held.nodes q h (λ here. differ (outside_function_keeps_word N P q x s v u sound.acyclic checker.outside
        (working N (node_net N q) x s v settled) (subst (λ c. SettlesBut N c x s u) (sym here) held)));
  }

  sound_shows : IsCodeword P (word N P v) → Shows N P u
  sound_shows codeword =
      let bad : IsCodeword P (word N P u) → ⊥ = λ ok. differ (safe_by_code N P P.code refl sound.suits sound cell is x s v u settled held codeword ok) in
      record {
        no_codeword = bad;
        rails_agree = elim (same_bit (bit u P.rail1) (bit u P.rail2)) [
          | inl agree ↦ agree
          | inr apart ↦ absurd (bad ((sound.checker.decides u checker_settles).0 apart))
        ];
      }

-- what has sound structure and follows its source is secure at its points
pub sound_is_secure_at_points : SoundIsSecureAtPoints
sound_is_secure_at_points M N P sound follows = record {
  quiet = λ q x alarm.
      let t = listed_is_traced P q alarm.step.word alarm.step.is_state in
      let settled = alarm.step.settles in
      let codeword = follows.codewords t.0 alarm.step.word x alarm.valuation t.1 settled in
      (sound.checker.decides alarm.valuation (record { settles = λ j h checker. settled.nodes j h })).1 codeword alarm.rails_agree;
  shown = λ cell q x is silent.
      let t = listed_is_traced P q silent.step.word silent.step.is_state in
      let codeword = follows.codewords t.0 silent.step.word x silent.right t.1 silent.step.settles in
      let same = one_word P q silent.failing.word silent.step.word silent.failing.is_state silent.step.is_state in
      silent.silent.unshown (sound_shows N P sound cell is (bit x) (bit silent.step.word) silent.right silent.wrong silent.step.settles
      (subst (λ w. SettlesBut N cell (bit x) (bit w) silent.wrong) same silent.failing.settles) silent.silent.differ codeword);
}
