-- What a simulation has before its first step.
use Rattle.std.proofs.Common.{◌≡◌, Bool, List, length, map, sym, ap, ◌∙◌, subst}
use Rattle.std.proofs.lemmas.List.{length-map}
use Rattle.fault_secure.specs.Circuit.{Circuit, LatchOf}
use Rattle.fault_secure.specs.Run.{init_state}
use Rattle.fault_secure.specs.CodePlan.{CodePlan}
use Rattle.tsc_net.specs.declared.netlist.LatchView.{LatchView}
use Rattle.lane_sim.specs.Bench.{BenchState}
use Rattle.lane_sim.specs.Points.{PointsState, ArePointsOf}
use Rattle.fault_sim.specs.Sim.{watched_nets}
use Rattle.fault_sim.specs.Shown.{IsShownOf}
use Rattle.fault_sim.specs.declared.shown.Shown.{Shown}
use Rattle.fault_sim.proofs.ShownLemmas.{inits_of}

abbrev pub inits : List LatchView → List Bool
inits views = map (λ latch. latch.init) views

module _ (N : Circuit) (P : CodePlan) (shown : Shown) (is : IsShownOf N P shown) (bench : BenchState) (circuit : bench.circuit ≡ N) where
  pub shown_first : IsShownOf bench.circuit shown.plan.now shown
  shown_first =
      subst (λ (C : Circuit). IsShownOf C shown.plan.now shown) (sym circuit) (subst (λ (Q : CodePlan). IsShownOf N Q shown) (sym is.plan) is)

  pub watched_first : bench.watched ≡ watched_nets N shown.plan.now → bench.watched ≡ watched_nets bench.circuit shown.plan.now
  watched_first watched = watched ∙ ap (λ (C : Circuit). watched_nets C shown.plan.now) (sym circuit)

  pub watched_plan : bench.watched ≡ watched_nets N shown.plan.now → bench.watched ≡ watched_nets N P
  watched_plan watched = watched ∙ ap (watched_nets N) is.plan

  pub points_first : (points : PointsState) → ArePointsOf N points → ArePointsOf bench.circuit points
  points_first points are = subst (λ (C : Circuit). ArePointsOf C points) (sym circuit) are

  pub state_first : (views : List LatchView) (state : List Bool) → views ≡ shown.latches.items → state ≡ inits views → state ≡ init_state N
  state_first views state same e = e ∙ (ap inits same ∙ inits_of N shown.latches.items is.latches)

  pub state_first_sized : (views : List LatchView) (state : List Bool) → views ≡ shown.latches.items → state ≡ inits views → length state ≡ length bench.circuit.latches
  state_first_sized views state same e =
      ap length (state_first views state same e)
      ∙ (length-map N.latches (λ (latch : LatchOf). latch.init) ∙ ap (λ (C : Circuit). length C.latches) (sym circuit))
