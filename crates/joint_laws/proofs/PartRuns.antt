-- Runs of the joint, as runs of a part: without a fault, with one at a cell of the part, with one elsewhere.
use Rattle.std.proofs.Common.{◌≡◌, ℕ, suc, Bool, true, false, List, [], ◌∷◌, map, length, refl, sym, ap, subst, ◌∙◌, arith}
use Rattle.std.proofs.lemmas.List.{length-map}
use Rattle.fault_secure.specs.Circuit.{Circuit, bit}
use Rattle.fault_secure.specs.StuckAt.{StuckAt, NoFault, Stem, present}
use Rattle.fault_secure.specs.Settle.{Settles}
use Rattle.fault_secure.specs.Run.{init_state, next_state, Runs, RunsFrom}
use Rattle.fault_secure.specs.FailingCell.{IsCell, SettlesBut, RunsButFrom, RunsBut}
use Rattle.structure_laws.proofs.FirstErrors.{CleanFrom}
use Rattle.structure_laws.proofs.FailingCell.{cells_settle_as_held_stems}
use Rattle.joint_laws.specs.Parts.{StandsIn, as_part, part_inputs}
use Rattle.joint_laws.proofs.PartBits.{ActsAs, StateOver, part_bit, part_settles, next_over, init_over}
use Rattle.joint_laws.proofs.PartFaults.{IsNotOfPart, stem_acts, off_acts, cell_is_cell}

-- ---- runs without a fault, with marks of where none is present

-- a run has as many steps as inputs, and so has the list of marks where its fault is present
pub long_marks : (N : Circuit) (f : StuckAt) (s w : List Bool) (xs vs : List (List Bool)) → RunsFrom N f s w xs vs → (length w ≡ length xs) × (length vs ≡ length xs)
long_marks N f s [] [] [] h = (refl, refl)
long_marks N f s [] [] (v ∷ vs) h = absurd h
long_marks N f s [] (x ∷ xs) vs h = absurd h
long_marks N f s (here ∷ w) [] vs h = absurd h
long_marks N f s (here ∷ w) (x ∷ xs) [] h = absurd h
long_marks N f s (here ∷ w) (x ∷ xs) (v ∷ vs) h =
    let rest = long_marks N f (next_state N (present here f) v) w xs vs h.1 in (ap suc rest.0, ap suc rest.1)

pub marked : (N : Circuit) (s w : List Bool) (xs vs : List (List Bool)) → length w ≡ length xs → CleanFrom N s xs vs → RunsFrom N NoFault s w xs vs
marked N s [] [] [] e h = tt
marked N s [] [] (v ∷ vs) e h = absurd h
marked N s [] (x ∷ xs) vs e h = absurd (omega arith)
marked N s (here ∷ w) [] vs e h = absurd (omega arith)
marked N s (here ∷ w) (x ∷ xs) [] e h = absurd h
marked N s (true ∷ w) (x ∷ xs) (v ∷ vs) e h = (h.0, marked N (next_state N NoFault v) w xs vs (omega arith) h.1)
marked N s (false ∷ w) (x ∷ xs) (v ∷ vs) e h = (h.0, marked N (next_state N NoFault v) w xs vs (omega arith) h.1)

-- a run with a failing cell has as many steps as inputs
pub long_failing : (N : Circuit) (cell : ℕ) (s : List Bool) (xs us : List (List Bool)) → RunsButFrom N cell s xs us → length us ≡ length xs
long_failing N cell s [] [] h = refl
long_failing N cell s [] (u ∷ us) h = absurd h
long_failing N cell s (x ∷ xs) [] h = absurd h
long_failing N cell s (x ∷ xs) (u ∷ us) h = ap suc (long_failing N cell (next_state N NoFault u) xs us h.1)

no_fault_acts : (C : Circuit) (at : ℕ → ℕ) → ActsAs C at NoFault NoFault
no_fault_acts C at = record { stem = λ net b h. refl; pin = λ net k b h. refl }

present_acts : (C : Circuit) (at : ℕ → ℕ) (here : Bool) (f g : StuckAt) → ActsAs C at f g → ActsAs C at (present here f) (present here g)
present_acts C at true f g alike = alike
present_acts C at false f g alike = no_fault_acts C at

module _ (J C : Circuit) (at : ℕ → ℕ) (first_latch first_node : ℕ) (m : StandsIn J C at first_latch first_node) where
  runs_from : (f g : StuckAt) → ActsAs C at f g → (s t w : List Bool) (xs vs : List (List Bool)) → StateOver C first_latch s t → RunsFrom J f s w xs vs
      → RunsFrom C g t w (map (part_inputs C at) xs) (map (as_part C at) vs)
  runs_from f g alike s t [] [] [] over h = tt
  runs_from f g alike s t [] [] (v ∷ vs) over h = absurd h
  runs_from f g alike s t [] (x ∷ xs) vs over h = absurd h
  runs_from f g alike s t (here ∷ w) [] vs over h = absurd h
  runs_from f g alike s t (here ∷ w) (x ∷ xs) [] over h = absurd h
  runs_from f g alike s t (here ∷ w) (x ∷ xs) (v ∷ vs) over h =
      let settled : Settles J (present here f) (bit x) (bit s) v = h.0 in
      let now = present_acts C at here f g alike in (
        part_settles J C at first_latch first_node m (present here f) (present here g) now v settled.sized x s t over settled,
        runs_from f g alike (next_state J (present here f) v) (next_state C (present here g) (as_part C at v)) w xs vs
            (next_over J C at first_latch first_node m (present here f) (present here g) now v settled.sized) h.1,
      )

  -- a run under a fault that acts on the part as one of its own
  pub part_runs : (f g : StuckAt) → ActsAs C at f g → (w : List Bool) (xs vs : List (List Bool)) → Runs J f w xs vs
      → Runs C g w (map (part_inputs C at) xs) (map (as_part C at) vs)
  part_runs f g alike w xs vs h =
      runs_from f g alike (init_state J) (init_state C) w xs vs (init_over J C at first_latch first_node m) h

  -- the part runs as it does alone
  pub part_alone : (w : List Bool) (xs vs : List (List Bool)) → Runs J NoFault w xs vs → Runs C NoFault w (map (part_inputs C at) xs) (map (as_part C at) vs)
  part_alone w xs vs h = part_runs NoFault NoFault (no_fault_acts C at) w xs vs h

  -- ---- runs with a failing cell

  but_from : (c : ℕ) → IsCell C c → (s t : List Bool) (xs us : List (List Bool)) → StateOver C first_latch s t → RunsButFrom J (at c) s xs us
      → RunsButFrom C c t (map (part_inputs C at) xs) (map (as_part C at) us)
  but_from c is s t [] [] over h = tt
  but_from c is s t [] (u ∷ us) over h = absurd h
  but_from c is s t (x ∷ xs) [] over h = absurd h
  but_from c is s t (x ∷ xs) (u ∷ us) over h =
      let settled : SettlesBut J (at c) (bit x) (bit s) u = h.0 in
      let held = (cells_settle_as_held_stems J (at c) (bit x) (bit s) u (cell_is_cell J C at first_latch first_node m c is)).0 settled in
      let acts = stem_acts J C at first_latch first_node m c (bit u (at c)) is in
      let moved = part_settles J C at first_latch first_node m (Stem (at c) (bit u (at c))) (Stem c (bit u (at c))) acts u settled.sized x s t over held in (
        (cells_settle_as_held_stems C c (bit (part_inputs C at x)) (bit t) (as_part C at u) is).1
            (subst (λ b. Settles C (Stem c b) (bit (part_inputs C at x)) (bit t) (as_part C at u)) (sym (part_bit J C at first_latch first_node m u settled.sized c)) moved),
        but_from c is (next_state J NoFault u) (next_state C NoFault (as_part C at u)) xs us
            (next_over J C at first_latch first_node m NoFault NoFault (no_fault_acts C at) u settled.sized) h.1,
      )

  -- where the failing cell is of the part, that cell fails in the part's run
  pub part_fails : (c : ℕ) → IsCell C c → (xs us : List (List Bool)) → RunsBut J (at c) xs us → RunsBut C c (map (part_inputs C at) xs) (map (as_part C at) us)
  part_fails c is xs us h = but_from c is (init_state J) (init_state C) xs us (init_over J C at first_latch first_node m) h

  clean_but : (cell : ℕ) → IsCell J cell → IsNotOfPart C at cell → (s t : List Bool) (xs us : List (List Bool)) → StateOver C first_latch s t → RunsButFrom J cell s xs us
      → CleanFrom C t (map (part_inputs C at) xs) (map (as_part C at) us)
  clean_but cell is off s t [] [] over h = tt
  clean_but cell is off s t [] (u ∷ us) over h = absurd h
  clean_but cell is off s t (x ∷ xs) [] over h = absurd h
  clean_but cell is off s t (x ∷ xs) (u ∷ us) over h =
      let settled : SettlesBut J cell (bit x) (bit s) u = h.0 in
      let held = (cells_settle_as_held_stems J cell (bit x) (bit s) u is).0 settled in
      let acts = off_acts J C at first_latch first_node m (Stem cell (bit u cell)) is.no_input off in (
        part_settles J C at first_latch first_node m (Stem cell (bit u cell)) NoFault acts u settled.sized x s t over held,
        clean_but cell is off (next_state J NoFault u) (next_state C NoFault (as_part C at u)) xs us
            (next_over J C at first_latch first_node m NoFault NoFault (no_fault_acts C at) u settled.sized) h.1,
      )

  -- where it isn't, the part runs as it does alone
  pub part_untouched : (cell : ℕ) → IsCell J cell → IsNotOfPart C at cell → (w : List Bool) (xs us : List (List Bool)) → length w ≡ length xs → RunsBut J cell xs us
      → Runs C NoFault w (map (part_inputs C at) xs) (map (as_part C at) us)
  part_untouched cell is off w xs us long h =
      marked C (init_state C) w (map (part_inputs C at) xs) (map (as_part C at) us) (long ∙ sym (length-map xs (part_inputs C at)))
      (clean_but cell is off (init_state J) (init_state C) xs us (init_over J C at first_latch first_node m) h)
