-- A plan over what stands in a composed netlist: its word is composed as the stated checker asks.
use Rattle.std.proofs.Common.{◌≡◌, ℕ, List, Contains, sym, subst}
use Rattle.fault_secure.specs.Circuit.{Circuit}
use Rattle.fault_secure.specs.CodePlan.{CodePlan, monitored}
use Rattle.gate_net.specs.Signal.{Signal}
use Rattle.gate_net.specs.Realised.{AllRealise}
use Rattle.gate_net.proofs.Realised.{function_before}
use Rattle.code_checkers.specs.GateList.{GateList, IsCheckerOf}
use Rattle.code_checkers.proofs.Realised.{rails_are_realised}
use Rattle.code_checkers.proofs.CanonicalGates.{ends_in_checker}
use Rattle.unate_synth.specs.Alone.{AreAlone}
use Rattle.unate_synth.specs.Composed.{StandsOver, IsComposed}

-- gates that stand over a plan's monitored nets and rails, with the plan's checker, compose the netlist of the plan
pub plan_is_composed : (N : Circuit) (signals : List Signal) (made : GateList) (word : List ℕ) (first second : ℕ) (P : CodePlan) → StandsOver N signals made word first second
    → monitored N P ≡ word → P.rail1 ≡ first → P.rail2 ≡ second → IsCheckerOf P made → IsComposed N P signals
plan_is_composed N signals made word first second P stands watched one two is =
    let here : AllRealise N stands.top signals (monitored N P) = subst (AllRealise N stands.top signals) (sym watched) stands.stand in
    let both = stands.checker P watched one two in
    record {
      top = stands.top;
      stand = here;
      alone = subst (λ w. AreAlone N w stands.top) (sym watched) stands.alone;
      needed = λ q low.
          let some = stands.needed q low in
          record { net = some.0; monitors = subst (λ w. Contains w some.0) (sym watched) some.1; depends = some.2 };
      rails = rails_are_realised N P stands.top made is both.0 (λ q of_function. function_before N P stands.top signals q here of_function);
      ends = ends_in_checker P made is N stands.top both.1;
    }
