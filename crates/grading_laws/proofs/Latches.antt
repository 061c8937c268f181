-- Faults of latches, present at every step: a held stem acts from the first step on, a held pin from the second.
use Rattle.std.proofs.Common.{◌≡◌, ℕ, zero, suc, ◌+◌, ◌<◌, ◌==◌, ◌&&◌, Bool, List, [], ◌∷◌, length, slice_index_or, refl, ap, ◌∙◌, eq-eqb, arith}
use Rattle.std.proofs.lemmas.Bool.{cond-true}
use Rattle.fault_secure.specs.Circuit.{Circuit, LatchOf, no_latch, latch_net, bit}
use Rattle.fault_secure.specs.StuckAt.{StuckAt, NoFault, Stem, Pin, on_stem, on_pin}
use Rattle.fault_secure.specs.Settle.{Settles}
use Rattle.fault_secure.specs.Run.{init_state, next_state, latch_reads, RunsFrom}
use Rattle.fault_secure.proofs.OneRun.{settles_once}
use Rattle.structure_laws.proofs.FailingCell.{fault_at, value-off}
use Rattle.structure_laws.proofs.FirstErrors.{CleanFrom, clean_from}
use Rattle.fault_secure.specs.FaultSecure.{at_step}
use Rattle.grading_laws.specs.Grades.{every_step}
use Rattle.grading_laws.specs.GradeLaws.{LatchStemsHold, LatchPinsHoldLater, LatchPinsBeginRight}

-- what the latches read, one by one
latch_read : (N : Circuit) (f : StuckAt) (v : List Bool) (k : ℕ) (ls : List LatchOf) (l : ℕ) → l < length ls
    → bit (latch_reads N f v k ls) l ≡ on_pin f (latch_net N (k + l)) 0 (bit v (slice_index_or ls l no_latch).reads)
latch_read N f v k [] l low = absurd (omega arith)
latch_read N f v k (first ∷ ls) zero low = ap (λ n. on_pin f (latch_net N n) 0 (bit v first.reads)) (omega arith)
latch_read N f v k (first ∷ ls) (suc l) low =
    latch_read N f v (suc k) ls l (omega arith) ∙ ap (λ n. on_pin f (latch_net N n) 0 (bit v (slice_index_or ls l no_latch).reads)) (omega arith)

module _ (N : Circuit) (l : ℕ) (held : Bool) (inside : l < length N.latches) where
  on_own_stem : (b : Bool) → on_stem (Stem (latch_net N l) held) (latch_net N l) b ≡ held
  on_own_stem b = cond-true _ held b (eq-eqb (latch_net N l) (latch_net N l) refl)

  on_own_pin : (b : Bool) → on_pin (Pin (latch_net N l) 0 held) (latch_net N l) 0 b ≡ held
  on_own_pin b = cond-true _ held b (ap (λ z. z && (0 == 0)) (eq-eqb (latch_net N l) (latch_net N l) refl))

  stem_from : (s : List Bool) (xs us : List (List Bool)) (step : ℕ) → RunsFrom N (Stem (latch_net N l) held) s (every_step xs) xs us → step < length xs
      → bit (at_step us step) (latch_net N l) ≡ held
  stem_from s [] us step run low = absurd (omega arith)
  stem_from s (x ∷ xs) [] step run low = absurd run
  stem_from s (x ∷ xs) (u ∷ us) zero run low = run.0.latches l inside ∙ on_own_stem (bit s l)
  stem_from s (x ∷ xs) (u ∷ us) (suc step) run low = stem_from (next_state N (Stem (latch_net N l) held) u) xs us step run.1 (omega arith)

  -- what the latch takes from a step with its pin held
  taken : (u : List Bool) → bit (next_state N (Pin (latch_net N l) 0 held) u) l ≡ held
  taken u = latch_read N (Pin (latch_net N l) 0 held) u 0 N.latches l inside
      ∙ ap (λ n. on_pin (Pin (latch_net N l) 0 held) (latch_net N n) 0 (bit u (slice_index_or N.latches l no_latch).reads)) (omega arith) ∙ on_own_pin _

  pin_from : (s : List Bool) (xs us : List (List Bool)) (step : ℕ) → bit s l ≡ held → RunsFrom N (Pin (latch_net N l) 0 held) s (every_step xs) xs us
      → step < length xs → bit (at_step us step) (latch_net N l) ≡ held
  pin_from s [] us step is run low = absurd (omega arith)
  pin_from s (x ∷ xs) [] step is run low = absurd run
  pin_from s (x ∷ xs) (u ∷ us) zero is run low = run.0.latches l inside ∙ is
  pin_from s (x ∷ xs) (u ∷ us) (suc step) is run low = pin_from (next_state N (Pin (latch_net N l) 0 held) u) xs us step (taken u) run.1 (omega arith)

  -- a step settles under a held pin of a latch as without a fault
  settles_right : (x s : ℕ → Bool) (u : List Bool) → Settles N (Pin (latch_net N l) 0 held) x s u → Settles N NoFault x s u
  settles_right x s u h = record {
    sized = h.sized;
    inputs = h.inputs;
    latches = h.latches;
    nodes = λ j low. h.nodes j low ∙ value-off N (Pin (latch_net N l) 0 held) (latch_net N l) j u (fault_at (Pin (latch_net N l) 0 held)) (λ e. omega arith);
  }

pub latch_stems_hold : LatchStemsHold
latch_stems_hold N l held xs us step inside run low = stem_from N l held inside (init_state N) xs us step run low

pub latch_pins_hold_later : LatchPinsHoldLater
latch_pins_hold_later N l held [] us step inside run low = absurd (omega arith)
latch_pins_hold_later N l held (x ∷ xs) [] step inside run low = absurd run
latch_pins_hold_later N l held (x ∷ xs) (u ∷ us) step inside run low =
    let next : step + 1 ≡ suc step = omega arith in
    ap (λ k. bit (at_step (u ∷ us) k) (latch_net N l)) next
    ∙ pin_from N l held inside (next_state N (Pin (latch_net N l) 0 held) u) xs us step (taken N l held inside u) run.1 (omega arith)

pub latch_pins_begin_right : LatchPinsBeginRight
latch_pins_begin_right N l held w xs vs us acyclic inside run pinned = from_clean xs vs us (clean_from N (init_state N) w xs vs run) pinned
  where
    from_clean : (xs vs us : List (List Bool)) → CleanFrom N (init_state N) xs vs → RunsFrom N (Pin (latch_net N l) 0 held) (init_state N) (every_step xs) xs us
        → at_step us 0 ≡ at_step vs 0
    from_clean [] [] [] clean held_run = refl
    from_clean [] [] (u ∷ us) clean held_run = absurd held_run
    from_clean [] (v ∷ vs) us clean held_run = absurd clean
    from_clean (x ∷ xs) [] us clean held_run = absurd clean
    from_clean (x ∷ xs) (v ∷ vs) [] clean held_run = absurd held_run
    from_clean (x ∷ xs) (v ∷ vs) (u ∷ us) clean held_run =
        settles_once N NoFault (bit x) (bit (init_state N)) acyclic u v (settles_right N l held inside (bit x) (bit (init_state N)) u held_run.0) clean.0
