-- What a failing cell doesn't reach keeps its bits, at every step.
use Rattle.std.proofs.Common.{◌≡◌, ℕ, zero, suc, ◌<◌, ◌⊎◌, inl, inr, Bool, false, List, [], ◌∷◌, length, refl, sym, ap, ◌∙◌, subst, arith, IsTrue}
use Rattle.std.proofs.lemmas.List.{get_or-map, length-map}
use Rattle.fault_secure.specs.Circuit.{Circuit, LatchOf, no_latch, latch_net, node_net, pin_net, bit}
use Rattle.fault_secure.specs.StuckAt.{NoFault, Stem}
use Rattle.fault_secure.specs.Settle.{Settles, Acyclic}
use Rattle.fault_secure.specs.Run.{next_state}
use Rattle.fault_secure.specs.CodePlan.{next_nets}
use Rattle.fault_secure.specs.FaultSecure.{at_step}
use Rattle.fault_secure.specs.FailingCell.{IsCell, SettlesBut, RunsButFrom}
use Rattle.fault_secure.specs.Depends.{Depends, itself, through}
use Rattle.fault_secure.proofs.Agree.{agree}
use Rattle.structure_laws.proofs.FailingCell.{fault_at, cells_settle_as_held_stems}
use Rattle.structure_laws.proofs.FirstErrors.{CleanFrom, next_clean}
use Rattle.register_laws.specs.RegisterPlan.{next_net}
use Rattle.register_laws.specs.RegisterStructure.{Reaches}
use Rattle.register_laws.specs.RegisterLaws.{MarksHoldWhatReaches}
use Rattle.register_laws.specs.RegisterStructure.Reaches.{own, through as by_node, across}

-- the bit that a latch holds next is the one at its input
pub next_bit : (N : Circuit) (v : List Bool) (l : ℕ) → l < length N.latches → bit (next_state N NoFault v) l ≡ bit v (next_net N l)
next_bit N v l h =
    ap (λ bits. bit bits l) (next_clean N v)
    ∙ get_or-map (bit v) (next_nets N) l 0 false (omega (arith, length-map N.latches (λ (k : LatchOf). k.reads)))
    ∙ ap (bit v) (get_or-map (λ (k : LatchOf). k.reads) N.latches l no_latch 0 h)

-- two valuations of one step, of which the second has a failing cell: they are the same wherever the cell doesn't reach
pub record IsStep (N : Circuit) (cell : ℕ) (v u : List Bool) : Type 0 where
  pub x : ℕ → Bool
  pub s : ℕ → Bool
  pub t : ℕ → Bool
  pub settles : Settles N NoFault x s v
  pub settles_but : SettlesBut N cell x t u
  pub outside : (net : ℕ) → (Reaches N cell net → ⊥) → bit v net ≡ bit u net

module _ (N : Circuit) (cell : ℕ) (acyclic : Acyclic N) (is : IsCell N cell) where
  -- state bits are the same at latches that the cell doesn't reach
  abbrev pub SameOutside : (ℕ → Bool) → (ℕ → Bool) → Type 0
  SameOutside s t = (l : ℕ) → l < length N.latches → (Reaches N cell (latch_net N l) → ⊥) → s l ≡ t l

  step_outside : (x s t : ℕ → Bool) (v u : List Bool) → SameOutside s t → Settles N NoFault x s v → SettlesBut N cell x t u
      → (net : ℕ) → (Reaches N cell net → ⊥) → bit v net ≡ bit u net
  step_outside x s t v u same settled held =
      agree N NoFault (Stem cell (bit u cell)) x x s t v u settled ((cells_settle_as_held_stems N cell x t u is).0 held) (λ net. Reaches N cell net → ⊥)
      (λ j pin h l free reached. free (by_node (node_net N j) j pin h refl l reached))
      (λ net h free. record {
        stem = λ b. sym ((fault_at (Stem cell (bit u cell)) net (λ e. free (own net e))).stem b);
        pin = λ k b. sym ((fault_at (Stem cell (bit u cell)) net (λ e. free (own net e))).pin k b);
      })
      (λ i h. refl) same acyclic

  next_outside : (v u : List Bool) → ((net : ℕ) → (Reaches N cell net → ⊥) → bit v net ≡ bit u net)
      → SameOutside (bit (next_state N NoFault v)) (bit (next_state N NoFault u))
  next_outside v u same l h free =
      next_bit N v l h ∙ same (next_net N l) (λ reached. free (across (latch_net N l) l h refl reached)) ∙ sym (next_bit N u l h)

  -- at each step of a run what the cell doesn't reach has its bit
  pub steps_from : (xs vs us : List (List Bool)) (s t : List Bool) → SameOutside (bit s) (bit t) → CleanFrom N s xs vs → RunsButFrom N cell t xs us
      → (step : ℕ) → step < length xs → IsStep N cell (at_step vs step) (at_step us step)
  steps_from [] vs us s t same run held step within = absurd (omega arith)
  steps_from (x ∷ xs) [] us s t same run held step within = absurd run
  steps_from (x ∷ xs) (v ∷ vs) [] s t same run held step within = absurd held
  steps_from (x ∷ xs) (v ∷ vs) (u ∷ us) s t same run held zero within = record {
    x = bit x;
    s = bit s;
    t = bit t;
    settles = run.0;
    settles_but = held.0;
    outside = step_outside (bit x) (bit s) (bit t) v u same run.0 held.0;
  }
  steps_from (x ∷ xs) (v ∷ vs) (u ∷ us) s t same run held (suc step) within =
      steps_from xs vs us (next_state N NoFault v) (next_state N NoFault u)
      (next_outside v u (step_outside (bit x) (bit s) (bit t) v u same run.0 held.0)) run.1 held.1 step (omega arith)

-- a net that a node's cell reaches depends on the node, or what some latch reads does
pub reach_depends : (N : Circuit) (cell q net : ℕ) → cell ≡ node_net N q → q < length N.nodes → Reaches N cell net
    → Depends N q net ⊎ ((l : ℕ) × (l < length N.latches) × Depends N q (next_net N l))
reach_depends N cell q _ is there (own net e) = inl (itself net there (e ∙ is))
reach_depends N cell q _ is there (by_node net j pin h e k reached) = elim (reach_depends N cell q (pin_net N j pin) is there reached) [
  | inl d ↦ inl (through net j pin h e k d)
  | inr d ↦ inr d
]
reach_depends N cell q _ is there (across net l h e reached) = elim (reach_depends N cell q (next_net N l) is there reached) [
  | inl d ↦ inr (l, h, d)
  | inr d ↦ inr d
]

-- marks that go back from each net to what drives it are on what reaches a marked net
pub marks_hold_what_reaches : MarksHoldWhatReaches
marks_hold_what_reaches N marks cell _ pins latches is (own net e) = subst (λ n. IsTrue (marks n)) e is
marks_hold_what_reaches N marks cell _ pins latches is (by_node net j pin h e k reached) =
    marks_hold_what_reaches N marks cell (pin_net N j pin) pins latches (pins j pin h k (subst (λ n. IsTrue (marks n)) e is)) reached
marks_hold_what_reaches N marks cell _ pins latches is (across net l h e reached) =
    marks_hold_what_reaches N marks cell (next_net N l) pins latches (latches l h (subst (λ n. IsTrue (marks n)) e is)) reached
