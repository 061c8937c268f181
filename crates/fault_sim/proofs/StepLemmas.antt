-- From a settled bench to what a step answers and leaves.
use Rattle.std.proofs.Common.{◌≡◌, Bool, List, length, map, sym, ap, ap₂, ◌∙◌, subst}
use Rattle.std.proofs.lemmas.List.{length-map}
use Rattle.fault_secure.specs.Circuit.{Circuit, bit}
use Rattle.fault_secure.specs.StuckAt.{StuckAt}
use Rattle.fault_secure.specs.Run.{next_state}
use Rattle.fault_secure.specs.CodePlan.{CodePlan, next_nets}
use Rattle.fault_secure.specs.Settle.{Settles}
use Rattle.lane_sim.specs.Bench.{BenchState}
use Rattle.lane_sim.specs.Points.{PointsState, ArePointsOf}
use Rattle.fault_sim.specs.Sim.{SimState, watched_nets, first_bit, SettlesNext, next_fault, IsViewOf, ShowsFirst}
use Rattle.fault_sim.specs.Shown.{taken_bit, IsShownOf}
use Rattle.fault_sim.specs.SimView.{sim_as, KeepsSim}
use Rattle.fault_sim.specs.declared.step_view.StepView.{StepView}
use Rattle.fault_sim.specs.declared.sim.Sim.TheInside.{Inside}
use Rattle.fault_sim.proofs.ShownLemmas.{length-views, length-next, next_same, taken_next, shows_valuation}

-- a simulation that was opened up: its bench after the step has settled, and the fault of the step
module _ (old : Inside) (sim : SimState) (is : sim_as old ≡ sim) (keeps : KeepsSim old)
    (bench : BenchState) (circuit : bench.circuit ≡ old.bench.circuit) (watched : bench.watched ≡ old.bench.watched)
    (f : StuckAt) (present : f ≡ next_fault (sim_as old)) where
  pub settles_old : (x v : List Bool) → SettlesNext sim x v
      → Settles old.bench.circuit f (bit x) (bit old.state) v
  settles_old x v settles =
      subst (λ (g : StuckAt). Settles old.bench.circuit g (bit x) (bit old.state) v) (sym present)
      (subst (λ (s : SimState). SettlesNext s x v) (sym is) settles)

  pub shown_new : IsShownOf bench.circuit old.shown.plan.now old.shown
  shown_new = subst (λ (C : Circuit). IsShownOf C old.shown.plan.now old.shown) (sym circuit) keeps.shown

  pub watched_new : bench.watched ≡ watched_nets bench.circuit old.shown.plan.now
  watched_new = watched ∙ (keeps.watched ∙ ap (λ (C : Circuit). watched_nets C old.shown.plan.now) (sym circuit))

  pub points_new : (points : PointsState) → ArePointsOf old.bench.circuit points → ArePointsOf bench.circuit points
  points_new points are = subst (λ (C : Circuit). ArePointsOf C points) (sym circuit) are

  abbrev taken : List Bool
  taken = map (taken_bit f (first_bit bench)) old.shown.latches.items

  pub state_new_sized : (state : List Bool) → state ≡ taken → length state ≡ length bench.circuit.latches
  state_new_sized state e =
      ap length e ∙ (length-map old.shown.latches.items (taken_bit f (first_bit bench)) ∙ length-views bench.circuit old.shown.latches.items shown_new.latches)

  pub state_new : (v state : List Bool) → ShowsFirst bench v → state ≡ taken → state ≡ next_state sim.bench.circuit (next_fault sim) v
  state_new v state first e =
      e
      ∙ (taken_next bench.circuit old.shown.plan.now f bench.watched (first_bit bench) v old.shown.latches.items watched_new shown_new.latches first.bits
      ∙ ap₂ (λ (C : Circuit) (g : StuckAt). next_state C g v) (circuit ∙ ap (λ (s : SimState). s.bench.circuit) is) (present ∙ ap next_fault is))

  pub next_new_sized : (next : List Bool) → next ≡ map (first_bit bench) (next_nets bench.circuit) → length next ≡ length bench.circuit.latches
  next_new_sized next e = ap length e ∙ length-next bench.circuit (first_bit bench)

  pub next_new : (v next : List Bool) → ShowsFirst bench v → next ≡ map (first_bit bench) (next_nets bench.circuit) → next ≡ map (bit v) (next_nets sim.bench.circuit)
  next_new v next first e =
      e
      ∙ (next_same bench.circuit old.shown.plan.now bench.watched (first_bit bench) v watched_new first.bits
      ∙ ap (λ (C : Circuit). map (bit v) (next_nets C)) (circuit ∙ ap (λ (s : SimState). s.bench.circuit) is))

  pub shows_new : (v : List Bool) (view : StepView) → ShowsFirst bench v → IsViewOf bench.circuit old.shown.plan.now (first_bit bench) view
      → IsViewOf sim.bench.circuit sim.plan (bit v) view
  shows_new v view first shows =
      subst (λ (P : CodePlan). IsViewOf sim.bench.circuit P (bit v) view) (ap (λ (s : SimState). s.plan) is)
      (subst (λ (C : Circuit). IsViewOf C old.shown.plan.now (bit v) view) (circuit ∙ ap (λ (s : SimState). s.bench.circuit) is)
      (shows_valuation bench.circuit old.shown.plan.now bench.watched (first_bit bench) v view watched_new first.bits shows))
