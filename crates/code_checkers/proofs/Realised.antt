-- Gates that stand in a netlist realise the signals of their places.
use Rattle.std.specs.Prelude.{◌≡◌, ℕ, zero, suc, ◌<◌, ◌≤◌, Bool, List, [], ◌∷◌, length}
use Rattle.std.proofs.Common.{sym, subst, arith}
use Rattle.tsc_cover.specs.Cover.{CoverTable, truth}
use Rattle.tsc_cover.specs.Gates.{buf_cover, not_cover, and_cover, or_cover, xor_cover}
use Rattle.fault_secure.specs.Circuit.{Circuit}
use Rattle.fault_secure.specs.CodePlan.{CodePlan}
use Rattle.fault_secure.specs.Depends.{InFunction}
use Rattle.fault_secure.proofs.GateLemmas.{truth-buf, truth-not, truth-and, truth-or, truth-xor}
use Rattle.code_checkers.specs.declared.gate.CheckGate.{CheckGate}
use Rattle.code_checkers.specs.declared.gate.CheckGate.TheVariants as gate
use Rattle.code_checkers.specs.Signal.{Signal, value}
use Rattle.code_checkers.specs.Checker.{rail1, rail2}
use Rattle.code_checkers.specs.Gates.{signal_at, signal_of, signals_of, meaning, ReadsBelow, AreOrdered, gate_at}
use Rattle.code_checkers.specs.GateList.{GateList, IsCheckerOf}
use Rattle.code_checkers.specs.Block.{IsGateNode, Realises, RailsRealise}
use Rattle.code_checkers.specs.Nodes.{cover_of, reads_of, pin_values, IsNodeFrom, Stands, AllStand}
use Rattle.code_checkers.specs.NodesOfGates.{StandsFrom}
use Rattle.code_checkers.proofs.Sharing.{meaning_is}

-- the truth of a gate's cover on the values that its pins read is the value of its signal
pub gate_values : (w : List Bool) (signals : List Signal) (g : CheckGate) → 0 < length (reads_of g) → truth (cover_of g) (pin_values w signals g) ≡ value w (signal_of signals g)
gate_values w signals (gate.Word place) some = absurd (omega arith)
gate_values w signals (gate.Buf a) some = truth-buf (value w (signal_at signals a))
gate_values w signals (gate.Not a) some = truth-not (value w (signal_at signals a))
gate_values w signals (gate.And a b) some = truth-and (value w (signal_at signals a)) (value w (signal_at signals b))
gate_values w signals (gate.Or a b) some = truth-or (value w (signal_at signals a)) (value w (signal_at signals b))
gate_values w signals (gate.Xor a b) some = truth-xor (value w (signal_at signals a)) (value w (signal_at signals b))

module _ (N : Circuit) (P : CodePlan) (lo : ℕ) (before : (q : ℕ) → InFunction N P q → q < lo) (net : ℕ → ℕ) where
  -- a node after the function stands outside it
  node_outside : (at : ℕ) (cover : CoverTable) (reads : List ℕ) → IsNodeFrom N lo at cover reads → IsGateNode N P at cover reads
  node_outside at cover reads g = record {
    driver = g.driver;
    is_node = g.is_node;
    outside = λ is. (let b : g.driver < lo = before g.driver is in let c : lo ≤ g.driver = g.behind in omega arith);
    drives = g.drives;
    is_gate = g.is_gate;
  }

  realised_gate : (signals : List Signal) (place n : ℕ) (g : CheckGate) → ReadsBelow n g → Stands N P lo net place g
      → ((k : ℕ) → k < n → Realises N P (signal_at signals k) (net k)) → Realises N P (signal_of signals g) (net place)
  realised_gate signals place n (gate.Word p) reads s below = s
  realised_gate signals place n (gate.Buf a) reads s below = (net a, node_outside (net place) buf_cover (net a ∷ []) s, below a reads)
  realised_gate signals place n (gate.Not a) reads s below = (net a, node_outside (net place) not_cover (net a ∷ []) s, below a reads)
  realised_gate signals place n (gate.And a b) reads s below =
      (net a, net b, node_outside (net place) and_cover (net a ∷ (net b ∷ [])) s, below a reads.0, below b reads.1)
  realised_gate signals place n (gate.Or a b) reads s below =
      (net a, net b, node_outside (net place) or_cover (net a ∷ (net b ∷ [])) s, below a reads.0, below b reads.1)
  realised_gate signals place n (gate.Xor a b) reads s below =
      (net a, net b, node_outside (net place) xor_cover (net a ∷ (net b ∷ [])) s, below a reads.0, below b reads.1)

  realised_below : (bound : ℕ) (gates : List CheckGate) → AreOrdered gates → AllStand N P lo net gates → (k : ℕ) → k < bound → k < length gates → Realises N P (meaning gates k) (net k)
  realised_below zero gates ordered stand k lt within = absurd (omega arith)
  realised_below (suc bound) gates ordered stand k lt within =
      subst (λ (s : Signal). Realises N P s (net k)) (sym (meaning_is gates k ordered within))
      (realised_gate (signals_of gates) k k (gate_at gates k) (ordered k within) (stand k within) (λ j h. realised_below bound gates ordered stand j (omega arith) (omega arith)))

  -- each place's net realises its signal
  pub gates_realise : (gates : List CheckGate) → AreOrdered gates → AllStand N P lo net gates → (k : ℕ) → k < length gates → Realises N P (meaning gates k) (net k)
  gates_realise gates ordered stand k within = realised_below (suc k) gates ordered stand k (omega arith) within

  -- a rail of a checker whose gates all stand, which is the plan's, is realised
  rail_realised : (made : GateList) (s : Signal) (place rail : ℕ) → IsCheckerOf P made → AllStand N P lo net made.gates → place < length made.gates
      → meaning made.gates place ≡ s → net place ≡ rail → Realises N P s rail
  rail_realised made s place rail h stand within means is =
      subst (λ (n : ℕ). Realises N P s n) is (subst (λ (t : Signal). Realises N P t (net place)) means (gates_realise made.gates h.ordered stand place within))

-- each rail of a checker whose gates all stand after the function realises its gate
pub rails_are_realised : (N : Circuit) (P : CodePlan) (lo : ℕ) (made : GateList) → IsCheckerOf P made → StandsFrom N P lo made
    → ((q : ℕ) → InFunction N P q → q < lo) → RailsRealise N P
rails_are_realised N P lo made h stand before = record {
  first = rail_realised N P lo before stand.net made (rail1 P) made.rail1 P.rail1 h stand.all h.first_within h.first stand.first;
  second = rail_realised N P lo before stand.net made (rail2 P) made.rail2 P.rail2 h stand.all h.second_within h.second stand.second;
}
