-- Exposing points and runs: a step under a fault settles as at a point, or as it does without the fault.
use Rattle.std.proofs.Common.{◌≡◌, ℕ, zero, suc, ◌+◌, ◌<◌, ◌≤◌, ◌==◌, ◌⊎◌, inl, inr, Bool, true, false, ◌&&◌, nat_lt, if◌then◌else◌, List, [], ◌∷◌, length, Some, IsTrue, refl, sym, ap, subst, ◌∙◌, arith}
use Rattle.std.proofs.lemmas.Bool.{cases_Bool, cond-false, ne_eqb, ltb-true, lt-ltb, false≢true, true≢false}
use Rattle.fault_secure.specs.Circuit.{Circuit, LatchOf, latch_net, node_net, bit}
use Rattle.fault_secure.specs.StuckAt.{StuckAt, NoFault, Stem, Pin, on_stem, on_pin, present, is_listed}
use Rattle.fault_secure.specs.Settle.{Settles, Acyclic, node_value}
use Rattle.fault_secure.specs.Run.{init_state, next_state, latch_reads, RunsFrom}
use Rattle.fault_secure.specs.CodePlan.{CodePlan, IsPlanOf, word, RailsAgree}
use Rattle.fault_secure.specs.Logic.{Logic}
use Rattle.fault_secure.specs.FaultSecure.{state_at, states_from, at_step, next_in, StepFollows, FollowsFrom, FirstErrorShows}
use Rattle.fault_secure.specs.Exposing.{word_of_state, settling_fault, bits_under, Exposes, IsExposed}
use Rattle.fault_secure.proofs.ByRank.{tabulate, length_tabulate, tabulate_from}
use Rattle.fault_secure.proofs.ListedStates.{HasWordLike, has_word_like}
use Rattle.fault_secure.proofs.OneRun.{one_valuation}
use Rattle.structure_laws.specs.TestPoints.{ExposedFaultsAlarm, LatentFaultsChangeNoWord}
use Rattle.structure_laws.proofs.FailingCell.{IsAt, fault_at, value-off}
use Rattle.structure_laws.proofs.FirstErrors.{CleanFrom, clean_from, next_clean, same_next, same_word_or_not}

-- ---- where a fault acts: that of a latch's pin on the state bits alone, any other on the settled nets alone

abbrev is_at_latch : Circuit → StuckAt → Bool
is_at_latch N NoFault = false
is_at_latch N (Stem net held) = false
is_at_latch N (Pin driver index held) = nat_lt driver (N.inputs + length N.latches)

module _ (N : Circuit) where
  -- the state bits that a step begins with count only as far as there are latches
  settles_from : (f : StuckAt) (x s t : ℕ → Bool) (v : List Bool) → ((l : ℕ) → l < length N.latches → t l ≡ s l) → Settles N f x t v → Settles N f x s v
  settles_from f x s t v same h = record {
    sized = h.sized;
    inputs = h.inputs;
    latches = λ l inside. h.latches l inside ∙ ap (on_stem f (latch_net N l)) (same l inside);
    nodes = h.nodes;
  }

  -- nor do the input bits count past the inputs
  settles_with : (f : StuckAt) (x y s : ℕ → Bool) (v : List Bool) → ((i : ℕ) → i < N.inputs → x i ≡ y i) → Settles N f x s v → Settles N f y s v
  settles_with f x y s v same h = record {
    sized = h.sized;
    inputs = λ i inside. h.inputs i inside ∙ ap (on_stem f i) (same i inside);
    latches = h.latches;
    nodes = h.nodes;
  }

  pin_settles : (driver index : ℕ) (held : Bool) (x s : ℕ → Bool) (v : List Bool) → nat_lt driver (N.inputs + length N.latches) ≡ true
      → Settles N (Pin driver index held) x s v → Settles N NoFault x s v
  pin_settles driver index held x s v below h = record {
    sized = h.sized;
    inputs = h.inputs;
    latches = h.latches;
    nodes = λ j inside. h.nodes j inside
        ∙ value-off N (Pin driver index held) driver j v (fault_at (Pin driver index held)) (λ e. let low = ltb-true driver (N.inputs + length N.latches) below in omega arith);
  }

  -- a step under the fault of a latch's pin settles as without it
  settles_beside : (here : Bool) (f : StuckAt) (x s : ℕ → Bool) (v : List Bool) → is_at_latch N f ≡ true → Settles N (present here f) x s v → Settles N NoFault x s v
  settles_beside false f x s v at h = h
  settles_beside true NoFault x s v at h = absurd (false≢true at)
  settles_beside true (Stem net held) x s v at h = absurd (false≢true at)
  settles_beside true (Pin driver index held) x s v at h = pin_settles driver index held x s v at h

  -- any other fault leaves what a latch reads
  bits_beside : (here : Bool) (f : StuckAt) (l : ℕ) (b : Bool) → is_at_latch N f ≡ false → l < length N.latches → on_pin (present here f) (latch_net N l) 0 b ≡ b
  bits_beside false f l b off inside = refl
  bits_beside true NoFault l b off inside = refl
  bits_beside true (Stem net held) l b off inside = refl
  bits_beside true (Pin driver index held) l b off inside =
      cond-false ((driver == latch_net N l) && (index == 0)) held b (ap (λ z. z && (index == 0)) (ne_eqb driver (latch_net N l) apart))
    where
      apart : driver ≡ latch_net N l → ⊥
      apart e = true≢false (sym (lt-ltb driver (N.inputs + length N.latches) (omega arith)) ∙ off)

  settling_at : (f : StuckAt) → is_at_latch N f ≡ true → settling_fault N f ≡ NoFault
  settling_at NoFault at = refl
  settling_at (Stem net held) at = absurd (false≢true at)
  settling_at (Pin driver index held) at = ap (λ b. if b then NoFault else Pin driver index held) at

  settling_off : (f : StuckAt) → is_at_latch N f ≡ false → settling_fault N f ≡ f
  settling_off NoFault off = refl
  settling_off (Stem net held) off = refl
  settling_off (Pin driver index held) off = ap (λ b. if b then NoFault else Pin driver index held) off

  -- ---- a step from the state bits s, which at t were read under the fault where it was present before

  abbrev AreRead : Bool → StuckAt → List Bool → List Bool → Type 0
  AreRead before f s t = (l : ℕ) → l < length N.latches → bit t l ≡ on_pin (present before f) (latch_net N l) 0 (bit s l)

  -- present at the step and before it, it settles as at a point
  settles_as_exposed : (f : StuckAt) (x : ℕ → Bool) (s t u : List Bool) → AreRead true f s t → Settles N f x (bit t) u
      → Settles N (settling_fault N f) x (bits_under N f s) u
  settles_as_exposed f x s t u read h = elim (cases_Bool (is_at_latch N f)) [
    | inl at ↦ subst (λ g. Settles N g x (bits_under N f s) u) (sym (settling_at f at))
        (settles_from NoFault x (bits_under N f s) (bit t) u read (settles_beside true f x (bit t) u at h))
    | inr off ↦ subst (λ g. Settles N g x (bits_under N f s) u) (sym (settling_off f off)) (settles_from f x (bits_under N f s) (bit t) u read h)
  ]

  -- present at some of both, it settles so, or as without the fault
  settles_as_either : (before here : Bool) (f : StuckAt) (x : ℕ → Bool) (s t u : List Bool) → AreRead before f s t → Settles N (present here f) x (bit t) u
      → Settles N (settling_fault N f) x (bits_under N f s) u ⊎ Settles N NoFault x (bit s) u
  settles_as_either true true f x s t u read h = inl (settles_as_exposed f x s t u read h)
  settles_as_either false false f x s t u read h = inr (settles_from NoFault x (bit s) (bit t) u read h)
  settles_as_either true false f x s t u read h = elim (cases_Bool (is_at_latch N f)) [
    | inl at ↦ inl (subst (λ g. Settles N g x (bits_under N f s) u) (sym (settling_at f at)) (settles_from NoFault x (bits_under N f s) (bit t) u read h))
    | inr off ↦ inr (settles_from NoFault x (bit s) (bit t) u (λ l inside. read l inside ∙ bits_beside true f l (bit s l) off inside) h)
  ]
  settles_as_either false true f x s t u read h = elim (cases_Bool (is_at_latch N f)) [
    | inl at ↦ inr (settles_from NoFault x (bit s) (bit t) u read (settles_beside true f x (bit t) u at h))
    | inr off ↦ inl (subst (λ g. Settles N g x (bits_under N f s) u) (sym (settling_off f off))
        (settles_from f x (bits_under N f s) (bit t) u (λ l inside. read l inside ∙ sym (bits_beside true f l (bit s l) off inside)) h))
  ]

  -- what the latches read next
  reads_under : (f : StuckAt) (v : List Bool) (k : ℕ) (ls : List LatchOf) (l : ℕ) → l < length ls
      → bit (latch_reads N f v k ls) l ≡ on_pin f (latch_net N (k + l)) 0 (bit (latch_reads N NoFault v k ls) l)
  reads_under f v k [] l inside = absurd (omega arith)
  reads_under f v k (first ∷ ls) zero inside = ap (λ n. on_pin f (latch_net N n) 0 (bit v first.reads)) (omega arith)
  reads_under f v k (first ∷ ls) (suc l) inside =
      reads_under f v (suc k) ls l (omega arith) ∙ ap (λ n. on_pin f (latch_net N n) 0 (bit (latch_reads N NoFault v (suc k) ls) l)) (omega arith)

  module _ (P : CodePlan) (acyclic : Acyclic N) (plan : IsPlanOf N P) (f : StuckAt) where
    -- after equal words the next state bits are those without the fault, but where the fault acts on them
    read_next : (here : Bool) (v u : List Bool) → word N P u ≡ word N P v → AreRead here f (next_state N NoFault v) (next_state N (present here f) u)
    read_next here v u same l inside =
        reads_under (present here f) u 0 N.latches l inside
        ∙ ap (λ n. on_pin (present here f) (latch_net N n) 0 (bit (next_state N NoFault u) l)) (omega arith)
        ∙ ap (λ s. on_pin (present here f) (latch_net N l) 0 (bit s l)) (same_next N P v u same)

    -- the state bits of a trace state are its word, as far as there are latches
    same_word_bits : (q : ℕ) (s other : List Bool) → state_at P s ≡ Some q → word_of_state P q ≡ Some other → (l : ℕ) → l < length N.latches → bit s l ≡ bit other l
    same_word_bits q s other traced is l inside =
        let found = has_word_like P s q traced in
        let one : Some found.word ≡ Some other = sym found.is_state ∙ is in
        let same : found.word ≡ other = some_same found.word other one in
        ap (λ w. bit w l) (sym (found.alike (let counted = plan.latches in omega arith)) ∙ same)
      where
        some_same : (a b : List Bool) → Some a ≡ Some b → a ≡ b
        some_same a b e = cc

    -- a step that settles as at an exposing point has the alarm
    alarm_here : (q : ℕ) (x s u : List Bool) → state_at P s ≡ Some q → Exposes N P f q x → Settles N (settling_fault N f) (bit x) (bits_under N f s) u → RailsAgree P u
    alarm_here q x s u traced exposes settled =
        let only = (one_valuation N (settling_fault N f) (bit x) (bits_under N f exposes.word) acyclic).only in
        let same_bits : (l : ℕ) → l < length N.latches → bits_under N f s l ≡ bits_under N f exposes.word l =
        λ l inside. ap (on_pin f (latch_net N l) 0) (same_word_bits q s exposes.word traced exposes.is_state l inside) in
        let here = only u (settles_from (settling_fault N f) (bit x) (bits_under N f exposes.word) (bits_under N f s) u same_bits settled) in
        let there = only exposes.valuation exposes.settles in
        subst (RailsAgree P) (there ∙ sym here) exposes.rails_agree

    -- and one with an alarm that settles so makes it an exposing point, its input cut or filled up to as many bits as inputs
    exposed_here : (q : ℕ) (x s u : List Bool) → state_at P s ≡ Some q → Settles N (settling_fault N f) (bit x) (bits_under N f s) u → RailsAgree P u → IsExposed N P f
    exposed_here q x s u traced settled agree =
        let found = has_word_like P s q traced in
        let input = tabulate N.inputs 0 (bit x) in
        let same_bits : (l : ℕ) → l < length N.latches → bits_under N f s l ≡ bits_under N f found.word l =
        λ l inside. ap (on_pin f (latch_net N l) 0) (same_word_bits q s found.word traced found.is_state l inside) in
        let same_input : (i : ℕ) → i < N.inputs → bit x i ≡ bit input i = λ i inside. ap (bit x) (omega arith) ∙ sym (tabulate_from N.inputs 0 i (bit x) inside) in
        record {
          state = q;
          input = input;
          exposes = record {
            word = found.word;
            is_state = found.is_state;
            sized = length_tabulate N.inputs 0 (bit x);
            valuation = u;
            settles = settles_with (settling_fault N f) (bit x) (bit input) (bits_under N f found.word) u same_input
                (settles_from (settling_fault N f) (bit x) (bits_under N f found.word) (bits_under N f s) u same_bits settled);
            rails_agree = agree;
          };
        }

    -- ---- along runs

    -- the alarm at a step where the fault is present, and was before it
    alarms_from : (q k : ℕ) (before : Bool) (w : List Bool) (xs vs us : List (List Bool)) (s t : List Bool) → AreRead before f s t
        → CleanFrom N s xs vs → RunsFrom N f t w xs us → FirstErrorShows N P vs us → k < length xs → Exposes N P f q (at_step xs k)
        → bit (before ∷ w) k ≡ true → bit w k ≡ true → state_at P (at_step (states_from N s vs) k) ≡ Some q
        → ((step : ℕ) → step < k → RailsAgree P (at_step us step) → ⊥) → RailsAgree P (at_step us k)
    alarms_from q k before w [] vs us s t read run held shows inside exposes was is traced quiet = absurd (omega arith)
    alarms_from q k before w (x ∷ xs) [] us s t read run held shows inside exposes was is traced quiet = absurd run
    alarms_from q k before [] (x ∷ xs) (v ∷ vs) us s t read run held shows inside exposes was is traced quiet = absurd held
    alarms_from q k before (here ∷ w) (x ∷ xs) (v ∷ vs) [] s t read run held shows inside exposes was is traced quiet = absurd held
    alarms_from q zero true (true ∷ w) (x ∷ xs) (v ∷ vs) (u ∷ us) s t read run held shows inside exposes was is traced quiet =
        alarm_here q x s u traced exposes (settles_as_exposed f (bit x) s t u read held.0)
    alarms_from q zero false (here ∷ w) (x ∷ xs) (v ∷ vs) (u ∷ us) s t read run held shows inside exposes was is traced quiet = absurd (false≢true was)
    alarms_from q zero true (false ∷ w) (x ∷ xs) (v ∷ vs) (u ∷ us) s t read run held shows inside exposes was is traced quiet = absurd (false≢true is)
    alarms_from q (suc k) before (here ∷ w) (x ∷ xs) (v ∷ vs) (u ∷ us) s t read run held shows inside exposes was is traced quiet = elim (same_word_or_not N P u v) [
      | inl same ↦ alarms_from q k here w xs vs us (next_state N NoFault v) (next_state N (present here f) u) (read_next here v u same)
          run.1 held.1 (shows.0 same) (omega arith) exposes was is traced (λ step less. quiet (suc step) (omega arith))
      | inr differ ↦ absurd (quiet 0 (omega arith) (shows.1 differ).rails_agree)
    ]

    -- a fault that no point exposes leaves the word of a step from a trace state as it is
    same_here : (before here : Bool) (q : ℕ) (x s t v u : List Bool) → (IsExposed N P f → ⊥) → AreRead before f s t → state_at P s ≡ Some q
        → Settles N NoFault (bit x) (bit s) v → Settles N (present here f) (bit x) (bit t) u → ((word N P u ≡ word N P v → ⊥) → RailsAgree P u) → word N P u ≡ word N P v
    same_here before here q x s t v u latent read traced clean held shows = elim (same_word_or_not N P u v) [
      | inl same ↦ same
      | inr differ ↦ elim (settles_as_either before here f (bit x) s t u read held) [
        | inl settled ↦ absurd (latent (exposed_here q x s u traced settled (shows differ)))
        | inr as_clean ↦ (let only = (one_valuation N NoFault (bit x) (bit s) acyclic).only in ap (word N P) (only u as_clean ∙ sym (only v clean)))
      ]
    ]

    -- and so at each step
    words_from : (M : Logic) (before : Bool) (w : List Bool) (xs vs us : List (List Bool)) (s t : List Bool) → (IsExposed N P f → ⊥) → AreRead before f s t
        → CleanFrom N s xs vs → RunsFrom N f t w xs us → FollowsFrom M N P s xs vs → FirstErrorShows N P vs us
        → (k : ℕ) → k < length xs → word N P (at_step us k) ≡ word N P (at_step vs k)
    words_from M before w [] vs us s t latent read run held follows shows k inside = absurd (omega arith)
    words_from M before w (x ∷ xs) [] us s t latent read run held follows shows k inside = absurd run
    words_from M before [] (x ∷ xs) (v ∷ vs) us s t latent read run held follows shows k inside = absurd held
    words_from M before (here ∷ w) (x ∷ xs) (v ∷ vs) [] s t latent read run held follows shows k inside = absurd held
    words_from M before (here ∷ w) (x ∷ xs) (v ∷ vs) (u ∷ us) s t latent read run held follows shows zero inside =
        same_here before here follows.0.here x s t v u latent read follows.0.traced run.0 held.0 (λ differ. (shows.1 differ).rails_agree)
    words_from M before (here ∷ w) (x ∷ xs) (v ∷ vs) (u ∷ us) s t latent read run held follows shows (suc k) inside =
        let same = same_here before here follows.0.here x s t v u latent read follows.0.traced run.0 held.0 (λ differ. (shows.1 differ).rails_agree) in
        words_from M here w xs vs us (next_state N NoFault v) (next_state N (present here f) u) latent (read_next here v u same)
        run.1 held.1 follows.1 (shows.0 same) k (omega arith)

pub exposed_faults_alarm : ExposedFaultsAlarm
exposed_faults_alarm M N P f q last w xs vs us acyclic plan secure listed exposes run held inside was is traced quiet =
    let next : last + 1 ≡ suc last = omega arith in
    alarms_from N P acyclic plan f q (last + 1) false w xs vs us (init_state N) (init_state N) (λ l low. refl) (clean_from N (init_state N) w xs vs run) held
    (secure.flagged f w xs vs us listed run held).first_error inside exposes (ap (bit (false ∷ w)) next ∙ was) is traced (λ step less. quiet step (omega arith))

pub latent_faults_change_no_word : LatentFaultsChangeNoWord
latent_faults_change_no_word M N P f w xs vs us acyclic plan secure listed latent run held =
    words_from N P acyclic plan f M false w xs vs us (init_state N) (init_state N) latent (λ l low. refl) (clean_from N (init_state N) w xs vs run) held
    (secure.follows w xs vs run).steps (secure.flagged f w xs vs us listed run held).first_error
