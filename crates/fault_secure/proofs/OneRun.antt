-- One valuation, one run.
use Rattle.std.proofs.Common.{◌≡◌, ℕ, ◌+◌, ◌-◌, ◌<◌, ◌≤◌, Bool, false, List, [], ◌∷◌, length, if◌then◌else◌, nat_lt, refl, ap, ap₂, sym, ◌∙◌, subst, arith, lt-ltb, le-ltb}
use Rattle.std.proofs.lemmas.Bool.{cond-true, cond-false}
use Rattle.std.proofs.lemmas.List.{ext_get_or}
use Rattle.fault_secure.specs.Circuit.{Circuit, node, latch_net, node_net, pin_net, nets, bit}
use Rattle.fault_secure.specs.StuckAt.{StuckAt, on_stem, on_pin, present}
use Rattle.fault_secure.specs.Settle.{Settles, Ranks, Acyclic, node_value}
use Rattle.fault_secure.specs.Run.{init_state, next_state, RunsFrom}
use Rattle.tsc_cover.specs.Cover.{truth}
use Rattle.fault_secure.specs.OneRun.{OneValuation, OneRun}
use Rattle.fault_secure.proofs.Places.{Place, place_of}
use Rattle.fault_secure.proofs.Places.Place.{Input, Latch, Node, Beyond}
use Rattle.fault_secure.proofs.Agree.{reads_same, agree}
use Rattle.fault_secure.proofs.ByRank.{solution, solution_sized, solution_driven}

-- what a net's driver gives it
abbrev drive : Circuit → StuckAt → (ℕ → Bool) → (ℕ → Bool) → List Bool → ℕ → Bool
drive N f x s v net = on_stem f net
    (if nat_lt net N.inputs then x net
    else if nat_lt net (N.inputs + length N.latches) then s (net - N.inputs)
    else node_value N f v (net - (N.inputs + length N.latches)))

module _ (N : Circuit) (f : StuckAt) (x s : ℕ → Bool) where
  drive_input : (v : List Bool) (net : ℕ) → net < N.inputs → drive N f x s v net ≡ on_stem f net (x net)
  drive_input v net h = ap (on_stem f net) (cond-true (nat_lt net N.inputs) _ _ (lt-ltb net N.inputs h))

  past_input : (v : List Bool) (net : ℕ) → N.inputs ≤ net → drive N f x s v net ≡ on_stem f net
      (if nat_lt net (N.inputs + length N.latches) then s (net - N.inputs) else node_value N f v (net - (N.inputs + length N.latches)))
  past_input v net h = ap (on_stem f net) (cond-false (nat_lt net N.inputs) _ _ (le-ltb net N.inputs h))

  drive_latch : (v : List Bool) (l : ℕ) → l < length N.latches → drive N f x s v (latch_net N l) ≡ on_stem f (latch_net N l) (s l)
  drive_latch v l h =
      past_input v (latch_net N l) (omega arith)
      ∙ ap (on_stem f (latch_net N l)) (cond-true (nat_lt (latch_net N l) (N.inputs + length N.latches)) _ _ (lt-ltb _ _ (omega arith)) ∙ ap s (omega arith))

  drive_node : (v : List Bool) (j : ℕ) → drive N f x s v (node_net N j) ≡ on_stem f (node_net N j) (node_value N f v j)
  drive_node v j =
      past_input v (node_net N j) (omega arith)
      ∙ ap (on_stem f (node_net N j)) (cond-false (nat_lt (node_net N j) (N.inputs + length N.latches)) _ _ (le-ltb _ _ (omega arith)) ∙ ap (node_value N f v) (omega arith))

  drive_at : (rank : ℕ → ℕ) → Ranks N rank → (v u : List Bool) (net : ℕ) → Place N net → net < nets N
      → ((m : ℕ) → rank m < rank net → bit v m ≡ bit u m) → drive N f x s v net ≡ drive N f x s u net
  drive_at rank ranks v u net (Input h) inside below = drive_input v net h ∙ sym (drive_input u net h)
  drive_at rank ranks v u net (Latch l h e) inside below =
      subst (λ m. drive N f x s v m ≡ drive N f x s u m) (sym e) (drive_latch v l h ∙ sym (drive_latch u l h))
  drive_at rank ranks v u net (Node j h e) inside below =
      subst (λ m. ((k : ℕ) → rank k < rank m → bit v k ≡ bit u k) → drive N f x s v m ≡ drive N f x s u m) (sym e)
      (λ lower. drive_node v j
      ∙ ap (λ bits. on_stem f (node_net N j) (truth (node N j).cover bits))
      (reads_same f f v u (node_net N j) 0 (node N j).reads (λ i k l. ap (on_pin f (node_net N j) k) (lower (pin_net N j i) (ranks.above j i h l))))
      ∙ sym (drive_node u j))
      below
  drive_at rank ranks v u net (Beyond h) inside below = absurd (omega arith)

  drive_lower : (rank : ℕ → ℕ) → Ranks N rank → (v u : List Bool) (net : ℕ) → net < nets N
      → ((m : ℕ) → rank m < rank net → bit v m ≡ bit u m) → drive N f x s v net ≡ drive N f x s u net
  drive_lower rank ranks v u net h below = drive_at rank ranks v u net (place_of N net) h below

  settled : Acyclic N → List Bool
  settled a = solution (nets N) a.rank (drive N f x s) (drive_lower a.rank a.ranks)

  settled_settles : (a : Acyclic N) → Settles N f x s (settled a)
  unfolding settled
  settled_settles a = record {
    sized = solution_sized (nets N) a.rank (drive N f x s) (drive_lower a.rank a.ranks);
    inputs = λ i h. solution_driven (nets N) a.rank (drive N f x s) (drive_lower a.rank a.ranks) i (omega arith) ∙ drive_input _ i h;
    latches = λ l h. solution_driven (nets N) a.rank (drive N f x s) (drive_lower a.rank a.ranks) (latch_net N l) (omega arith) ∙ drive_latch _ l h;
    nodes = λ j h. solution_driven (nets N) a.rank (drive N f x s) (drive_lower a.rank a.ranks) (node_net N j) (omega arith) ∙ drive_node _ j;
  }

  -- in an acyclic circuit two valuations that settle are the same
  pub settles_once : Acyclic N → (v u : List Bool) → Settles N f x s v → Settles N f x s u → v ≡ u
  settles_once a v u first second =
      ext_get_or false v u (first.sized ∙ sym second.sized)
      (λ i h. agree N f f x x s s v u first second (λ net. Unit {0}) (λ j pin l k z. tt) (λ net h z. record { stem = λ b. refl; pin = λ k b. refl })
      (λ j l. refl) (λ l k z. refl) a i tt)

-- in an acyclic circuit exactly one valuation settles
pub one_valuation : OneValuation
one_valuation N f x s a = record {
  valuation = settled N f x s a;
  settles = settled_settles N f x s a;
  only = λ v h. settles_once N f x s a v (settled N f x s a) h (settled_settles N f x s a);
}

-- the run from the state bits s on
abbrev run_from : (N : Circuit) → Acyclic N → StuckAt → List Bool → List Bool → List (List Bool) → List (List Bool)
run_from N a f s [] xs = []
run_from N a f s (here ∷ w) [] = []
run_from N a f s (here ∷ w) (x ∷ xs) =
    settled N (present here f) (bit x) (bit s) a
    ∷ run_from N a f (next_state N (present here f) (settled N (present here f) (bit x) (bit s) a)) w xs

module _ (N : Circuit) (a : Acyclic N) (f : StuckAt) where
  run_runs : (s w : List Bool) (xs : List (List Bool)) → length w ≡ length xs → RunsFrom N f s w xs (run_from N a f s w xs)
  run_runs s [] [] e = tt
  run_runs s [] (x ∷ xs) e = absurd (omega arith)
  run_runs s (here ∷ w) [] e = absurd (omega arith)
  run_runs s (here ∷ w) (x ∷ xs) e = (
    settled_settles N (present here f) (bit x) (bit s) a,
    run_runs (next_state N (present here f) (settled N (present here f) (bit x) (bit s) a)) w xs (omega arith),
  )

  run_only : (s w : List Bool) (xs vs : List (List Bool)) → RunsFrom N f s w xs vs → vs ≡ run_from N a f s w xs
  run_only s [] [] [] h = refl
  run_only s [] [] (v ∷ vs) h = elim h [ ]
  run_only s [] (x ∷ xs) vs h = elim h [ ]
  run_only s (here ∷ w) [] vs h = elim h [ ]
  run_only s (here ∷ w) (x ∷ xs) [] h = elim h [ ]
  run_only s (here ∷ w) (x ∷ xs) (v ∷ vs) h =
      let e = settles_once N (present here f) (bit x) (bit s) a v (settled N (present here f) (bit x) (bit s) a) h.0 (settled_settles N (present here f) (bit x) (bit s) a) in
      ap₂ ◌∷◌ e (run_only (next_state N (present here f) (settled N (present here f) (bit x) (bit s) a)) w xs vs
      (subst (λ u. RunsFrom N f (next_state N (present here f) u) w xs vs) e h.1))

-- in an acyclic circuit there is exactly one run over each list of inputs, with each fault present at any steps
pub one_run : OneRun
one_run N f w xs a e = record {
  run = run_from N a f (init_state N) w xs;
  runs = run_runs N a f (init_state N) w xs e;
  only = λ vs h. run_only N a f (init_state N) w xs vs h;
}
