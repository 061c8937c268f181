-- Runs with one step more: a run that comes to some state bits, and then a step from them.
use Rattle.std.proofs.Common.{◌≡◌, ℕ, zero, suc, ◌≤◌, Bool, true, false, List, [], ◌∷◌, ◌++◌, map, length, All, refl, sym, ap, subst, arith}
use Rattle.std.proofs.lemmas.List.Elements.{All-head, All-tail}
use Rattle.fault_secure.specs.Circuit.{Circuit, bit}
use Rattle.fault_secure.specs.StuckAt.{StuckAt, NoFault}
use Rattle.fault_secure.specs.Settle.{Settles}
use Rattle.fault_secure.specs.Run.{init_state, next_state, Runs, RunsFrom}
use Rattle.fault_secure.specs.CodePlan.{CodePlan, word, RailsAgree}
use Rattle.fault_secure.specs.Logic.{Logic}
use Rattle.fault_secure.specs.FailingCell.{SettlesBut, RunsBut, RunsButFrom}
use Rattle.fault_secure.specs.FaultSecure.{Shows, StepFollows, FollowsFrom, IsQuiet, FirstErrorShows, states_from, at_step}
use Rattle.structure_laws.proofs.FailingCell.{working}
use Rattle.structure_laws.proofs.FirstErrors.{CleanFrom, clean_from}
use Rattle.point_laws.specs.Reached.{state_after, IsReached}

-- a fault present at the last step alone
abbrev pub at_last : List (List Bool) → List Bool
at_last xs = map (λ _. false) xs ++ true ∷ []

module _ (N : Circuit) where
  under_at_last : (f : StuckAt) (s : List Bool) (xs vs : List (List Bool)) (x u : List Bool) → CleanFrom N s xs vs
      → Settles N f (bit x) (bit (state_after N s vs)) u → RunsFrom N f s (at_last xs) (xs ++ x ∷ []) (vs ++ u ∷ [])
  under_at_last f s [] [] x u run h = (h, tt)
  under_at_last f s [] (v ∷ vs) x u run h = absurd run
  under_at_last f s (y ∷ xs) [] x u run h = absurd run
  under_at_last f s (y ∷ xs) (v ∷ vs) x u run h = (run.0, under_at_last f (next_state N NoFault v) xs vs x u run.1 h)

  but_at_last : (cell : ℕ) (s : List Bool) (xs vs : List (List Bool)) (x u : List Bool) → CleanFrom N s xs vs
      → SettlesBut N cell (bit x) (bit (state_after N s vs)) u → RunsButFrom N cell s (xs ++ x ∷ []) (vs ++ u ∷ [])
  but_at_last cell s [] [] x u run h = (h, tt)
  but_at_last cell s [] (v ∷ vs) x u run h = absurd run
  but_at_last cell s (y ∷ xs) [] x u run h = absurd run
  but_at_last cell s (y ∷ xs) (v ∷ vs) x u run h = (working N cell (bit y) (bit s) v run.0, but_at_last cell (next_state N NoFault v) xs vs x u run.1 h)

  after_one_more : (s : List Bool) (vs : List (List Bool)) (v : List Bool) → state_after N s (vs ++ v ∷ []) ≡ next_state N NoFault v
  after_one_more s [] v = refl
  after_one_more s (u ∷ vs) v = after_one_more (next_state N NoFault u) vs v

  -- ---- from state bits that a run comes to

  pub clean_to : (s : List Bool) (r : IsReached N s) → CleanFrom N (init_state N) r.inputs r.run
  clean_to s r = clean_from N (init_state N) r.marks r.inputs r.run r.runs

  pub runs_under : (f : StuckAt) (s x u : List Bool) (r : IsReached N s) → Settles N f (bit x) (bit s) u
      → Runs N f (at_last r.inputs) (r.inputs ++ x ∷ []) (r.run ++ u ∷ [])
  runs_under f s x u r h = under_at_last f (init_state N) r.inputs r.run x u (clean_to s r) (subst (λ z. Settles N f (bit x) (bit z) u) (sym r.arrives) h)

  pub runs_but : (cell : ℕ) (s x u : List Bool) (r : IsReached N s) → SettlesBut N cell (bit x) (bit s) u → RunsBut N cell (r.inputs ++ x ∷ []) (r.run ++ u ∷ [])
  runs_but cell s x u r h = but_at_last cell (init_state N) r.inputs r.run x u (clean_to s r) (subst (λ z. SettlesBut N cell (bit x) (bit z) u) (sym r.arrives) h)

  pub start_reached : IsReached N (init_state N)
  start_reached = record { marks = []; inputs = []; run = []; runs = tt; arrives = refl }

  pub next_reached : (s x v : List Bool) → IsReached N s → Settles N NoFault (bit x) (bit s) v → IsReached N (next_state N NoFault v)
  next_reached s x v r h = record {
    marks = at_last r.inputs;
    inputs = r.inputs ++ x ∷ [];
    run = r.run ++ v ∷ [];
    runs = runs_under NoFault s x v r h;
    arrives = after_one_more (init_state N) r.run v;
  }

  -- each step of a run without a fault is one with marks, whatever they are
  pub marked : (s : List Bool) (xs vs : List (List Bool)) → CleanFrom N s xs vs → RunsFrom N NoFault s (map (λ _. true) xs) xs vs
  marked s [] [] run = tt
  marked s [] (v ∷ vs) run = absurd run
  marked s (x ∷ xs) [] run = absurd run
  marked s (x ∷ xs) (v ∷ vs) run = (run.0, marked (next_state N NoFault v) xs vs run.1)

  pub as_long : (s : List Bool) (xs vs : List (List Bool)) → CleanFrom N s xs vs → length xs ≡ length vs
  as_long s [] [] run = refl
  as_long s [] (v ∷ vs) run = absurd run
  as_long s (x ∷ xs) [] run = absurd run
  as_long s (x ∷ xs) (v ∷ vs) run = ap suc (as_long (next_state N NoFault v) xs vs run.1)

  pub states_at_last : (s : List Bool) (vs : List (List Bool)) (v : List Bool) → at_step (states_from N s (vs ++ v ∷ [])) (length vs) ≡ state_after N s vs
  states_at_last s [] v = refl
  states_at_last s (u ∷ vs) v = states_at_last (next_state N NoFault u) vs v

  -- ---- what holds of the last step

  module _ (P : CodePlan) where
    pub last_follows : (M : Logic) (s : List Bool) (xs vs : List (List Bool)) (x v : List Bool) → CleanFrom N s xs vs
        → FollowsFrom M N P s (xs ++ x ∷ []) (vs ++ v ∷ []) → StepFollows M N P (state_after N s vs) x v
    last_follows M s [] [] x v run h = h.0
    last_follows M s [] (u ∷ vs) x v run h = absurd run
    last_follows M s (y ∷ xs) [] x v run h = absurd run
    last_follows M s (y ∷ xs) (u ∷ vs) x v run h = last_follows M (next_state N NoFault u) xs vs x v run.1 h.1

    pub last_quiet : (vs : List (List Bool)) (v : List Bool) → All (IsQuiet N P) (vs ++ v ∷ []) → IsQuiet N P v
    last_quiet [] v all = All-head (IsQuiet N P) v [] all
    last_quiet (u ∷ vs) v all = last_quiet vs v (All-tail (IsQuiet N P) u (vs ++ v ∷ []) all)

    pub last_shows : (vs : List (List Bool)) (v u : List Bool) → FirstErrorShows N P (vs ++ v ∷ []) (vs ++ u ∷ []) → (word N P u ≡ word N P v → ⊥) → Shows N P u
    last_shows [] v u h differ = h.1 differ
    last_shows (t ∷ vs) v u h differ = last_shows vs v u (h.0 refl) differ

    pub last_alarm : (vs : List (List Bool)) (u : List Bool) (at : ℕ) → All (IsQuiet N P) vs → at ≤ length vs → RailsAgree P (at_step (vs ++ u ∷ []) at) → RailsAgree P u
    last_alarm [] u zero quiet low agree = agree
    last_alarm [] u (suc at) quiet low agree = absurd (omega arith)
    last_alarm (v ∷ vs) u zero quiet low agree = absurd ((All-head (IsQuiet N P) v vs quiet).rails_differ agree)
    last_alarm (v ∷ vs) u (suc at) quiet low agree = last_alarm vs u at (All-tail (IsQuiet N P) v vs quiet) (omega arith) agree

pub step_at_last : (items : List (List Bool)) (item : List Bool) → at_step (items ++ item ∷ []) (length items) ≡ item
step_at_last [] item = refl
step_at_last (first ∷ items) item = step_at_last items item
