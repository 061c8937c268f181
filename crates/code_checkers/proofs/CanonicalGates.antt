-- A checker's list of gates is determined by the signals of its walk.
use Rattle.std.specs.Prelude.{◌≡◌, ℕ, ◌<◌, ◌≤◌, false, List, length, slice_index, refl}
use Rattle.std.proofs.Common.{sym, ap, ap₂, ◌∙◌, arith, inl, inr}
use Rattle.std.proofs.lemmas.Bool.{cases_Bool}
use Rattle.std.proofs.lemmas.List.{length-map, get_or-map, ext_get_or}
use Rattle.std.proofs.lemmas.List.Sums.{position_or_len_is}
use Rattle.fault_secure.specs.Circuit.{Circuit, node_net}
use Rattle.fault_secure.specs.CodePlan.{CodePlan, monitored}
use Rattle.code_checkers.specs.declared.gate.CheckGate.{CheckGate}
use Rattle.code_checkers.specs.declared.gate.CheckGate.TheVariants as gate
use Rattle.code_checkers.specs.Signal.Signal.{Word}
use Rattle.code_checkers.specs.Checker.{rail1, rail2}
use Rattle.code_checkers.specs.Gates.{signal_of, signals_of, meaning, ReadsBelow, AreOrdered, gate_at}
use Rattle.code_checkers.specs.GateList.{GateList, IsCheckerOf}
use Rattle.code_checkers.specs.Walk.{same_signal}
use Rattle.code_checkers.specs.CheckerNodes.{place_of, gate_of, gates_of, checker_signals, checker_gates, gate_nets, gate_nodes}
use Rattle.code_checkers.specs.NodesOfGates.{EndsInGates, EndsInChecker}
use Rattle.code_checkers.proofs.Gates.{length-signals_of}
use Rattle.code_checkers.proofs.Sharing.{same_signal-refl, same_signal-true, meaning_is}

module _ (gates : List CheckGate) (ordered : AreOrdered gates) (distinct : (i k : ℕ) → i < length gates → k < length gates → meaning gates i ≡ meaning gates k → i ≡ k) where
  other : (k j : ℕ) → k < length gates → j < k → same_signal (meaning gates k) (meaning gates j) ≡ false
  other k j within low = elim (cases_Bool (same_signal (meaning gates k) (meaning gates j))) [
    | inl same ↦ (let e : k ≡ j = distinct k j within (omega arith) (same_signal-true (meaning gates k) (meaning gates j) same) in absurd (omega arith))
    | inr apart ↦ apart
  ]

  -- what a place means stands at that place
  place_is : (k : ℕ) → k < length gates → place_of (signals_of gates) (meaning gates k) ≡ k
  place_is k within =
      let count : length (signals_of gates) ≡ length gates = length-signals_of gates in
      position_or_len_is (same_signal (meaning gates k)) (signals_of gates) k (Word 0) (omega arith) (λ j low. other k j within low) (λ _. same_signal-refl (meaning gates k))

  -- a gate is that of its signal
  gate_is : (n : ℕ) (g : CheckGate) → n ≤ length gates → ReadsBelow n g → gate_of (signals_of gates) (signal_of (signals_of gates) g) ≡ g
  gate_is n (gate.Word p) low reads = refl
  gate_is n (gate.Buf a) low reads = ap gate.Buf (place_is a (omega arith))
  gate_is n (gate.Not a) low reads = ap gate.Not (place_is a (omega arith))
  gate_is n (gate.And a b) low reads = let x : a < n = reads.0 in let y : b < n = reads.1 in ap₂ gate.And (place_is a (omega arith)) (place_is b (omega arith))
  gate_is n (gate.Or a b) low reads = let x : a < n = reads.0 in let y : b < n = reads.1 in ap₂ gate.Or (place_is a (omega arith)) (place_is b (omega arith))
  gate_is n (gate.Xor a b) low reads = let x : a < n = reads.0 in let y : b < n = reads.1 in ap₂ gate.Xor (place_is a (omega arith)) (place_is b (omega arith))

  -- ordered gates, no two of which mean the same, are the gates of their signals
  pub gates_are : gates ≡ gates_of (signals_of gates)
  gates_are =
      let count : length (signals_of gates) ≡ length gates = length-signals_of gates in
      ext_get_or (gate.Word 0) gates (gates_of (signals_of gates)) (sym (length-map (signals_of gates) (gate_of (signals_of gates)) ∙ count)) (λ k h. each k h)
    where
      each : (k : ℕ) → k < length gates → gate_at gates k ≡ gate_at (gates_of (signals_of gates)) k
      each k h =
          let count : length (signals_of gates) ≡ length gates = length-signals_of gates in
          sym (get_or-map (gate_of (signals_of gates)) (signals_of gates) k (Word 0) (gate.Word 0) (omega arith)
          ∙ ap (gate_of (signals_of gates)) (meaning_is gates k ordered h)
          ∙ gate_is k (gate_at gates k) (omega arith) (ordered k h))

module _ (P : CodePlan) (made : GateList) (is : IsCheckerOf P made) where
  signals_are : signals_of made.gates ≡ checker_signals P
  unfolding checker_signals
  signals_are = is.signals

  pub checker_gates_are : made.gates ≡ checker_gates P
  checker_gates_are = gates_are made.gates is.ordered is.distinct ∙ ap gates_of signals_are

  pub rail1_place : made.rail1 ≡ place_of (checker_signals P) (rail1 P)
  rail1_place = sym (place_is made.gates is.ordered is.distinct made.rail1 is.first_within) ∙ ap₂ place_of signals_are is.first

  pub rail2_place : made.rail2 ≡ place_of (checker_signals P) (rail2 P)
  rail2_place = sym (place_is made.gates is.ordered is.distinct made.rail2 is.second_within) ∙ ap₂ place_of signals_are is.second

  -- a netlist that ends in the gates of a plan's checker ends in the checker
  pub ends_in_checker : (N : Circuit) (lo : ℕ) → EndsInGates N P lo made → EndsInChecker N P lo
  ends_in_checker N lo ends = record {
    nodes = ends.nodes ∙ ap (λ gates. gate_nodes (gate_nets (monitored N P) (node_net N lo) gates) gates) checker_gates_are;
    first = ap₂ (λ gates place. slice_index (gate_nets (monitored N P) (node_net N lo) gates) place) (sym checker_gates_are) (sym rail1_place) ∙ ends.first;
    second = ap₂ (λ gates place. slice_index (gate_nets (monitored N P) (node_net N lo) gates) place) (sym checker_gates_are) (sym rail2_place) ∙ ends.second;
  }
