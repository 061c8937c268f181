-- The three wrong twins: runs in which they are silent, or alarm without a fault.
use Rattle.std.proofs.Common.{◌≡◌, ℕ, zero, suc, ◌≤◌, Bool, true, false, List, [], ◌∷◌, length, refl, ap, arith}
use Rattle.std.proofs.lemmas.Bool.{false≢true, true≢false}
use Rattle.fault_secure.specs.Circuit.{Circuit, latch_net, node_net, nets, bit}
use Rattle.fault_secure.specs.StuckAt.{NoFault}
use Rattle.fault_secure.specs.Settle.{Settles, node_value}
use Rattle.fault_secure.specs.Run.{Runs}
use Rattle.fault_secure.specs.FailingCell.{SettlesBut, RunsBut}
use Rattle.fault_secure.specs.FaultSecure.{at_step}
use Rattle.structure_laws.proofs.Each.{Each, each}
use Rattle.register_laws.specs.WrongTwins.{forked_source, forked_netlist, ApartInOneStepIsSilent, single_source, leaning_netlist, LeaningIsSilent, zeroed_netlist, ZeroedIsFalse}

-- a valuation settles where each net's equation, written out, holds
settled : (N : Circuit) (x s : ℕ → Bool) (v : List Bool) → length v ≡ nets N → Each N.inputs (λ i. bit v i ≡ x i)
    → Each (length N.latches) (λ l. bit v (latch_net N l) ≡ s l) → Each (length N.nodes) (λ j. bit v (node_net N j) ≡ node_value N NoFault v j) → Settles N NoFault x s v
settled N x s v sized inputs latches nodes = record {
  sized = sized;
  inputs = each N.inputs (λ i. bit v i ≡ x i) inputs;
  latches = each (length N.latches) (λ l. bit v (latch_net N l) ≡ s l) latches;
  nodes = each (length N.nodes) (λ j. bit v (node_net N j) ≡ node_value N NoFault v j) nodes;
}

-- and at every net except that of a node where the others' do
settled_but : (N : Circuit) (cell : ℕ) (x s : ℕ → Bool) (v : List Bool) → length v ≡ nets N → Each N.inputs (λ i. bit v i ≡ x i)
    → Each (length N.latches) (λ l. bit v (latch_net N l) ≡ s l)
    → Each (length N.nodes) (λ j. (node_net N j ≡ cell → ⊥) → bit v (node_net N j) ≡ node_value N NoFault v j) → SettlesBut N cell x s v
settled_but N cell x s v sized inputs latches nodes = record {
  sized = sized;
  inputs = each N.inputs (λ i. bit v i ≡ x i) inputs;
  latches = λ l h off. each (length N.latches) (λ l. bit v (latch_net N l) ≡ s l) latches l h;
  nodes = each (length N.nodes) (λ j. (node_net N j ≡ cell → ⊥) → bit v (node_net N j) ≡ node_value N NoFault v j) nodes;
}

-- ---- the node that two registers read gives 1 at step 0

abbrev forked_inputs : List (List Bool)
forked_inputs = (false ∷ []) ∷ (false ∷ []) ∷ []

abbrev forked_shown : List (List Bool)
forked_shown = (false ∷ false ∷ false ∷ false ∷ []) ∷ (false ∷ false ∷ false ∷ false ∷ []) ∷ []

forked_shown_runs : Runs forked_source NoFault (false ∷ false ∷ []) forked_inputs forked_shown
forked_shown_runs = (
  settled forked_source _ _ _ refl (refl, tt) (refl, (refl, tt)) (refl, tt),
  (settled forked_source _ _ _ refl (refl, tt) (refl, (refl, tt)) (refl, tt), tt),
)

abbrev forked_clean : List (List Bool)
forked_clean = (false ∷ false ∷ false ∷ false ∷ false ∷ false ∷ false ∷ true ∷ false ∷ true ∷ []) ∷ (false ∷ false ∷ false ∷ false ∷ false ∷ false ∷ false ∷ true ∷ false ∷ true ∷ []) ∷ []

forked_clean_runs : Runs forked_netlist NoFault (false ∷ false ∷ []) forked_inputs forked_clean
forked_clean_runs = (
  settled forked_netlist _ _ _ refl (refl, tt) (refl, (refl, (refl, (refl, tt)))) (refl, (refl, (refl, (refl, (refl, tt))))),
  (settled forked_netlist _ _ _ refl (refl, tt) (refl, (refl, (refl, (refl, tt)))) (refl, (refl, (refl, (refl, (refl, tt))))), tt),
)

abbrev forked_failing : List (List Bool)
forked_failing = (false ∷ false ∷ false ∷ false ∷ false ∷ true ∷ false ∷ true ∷ false ∷ true ∷ []) ∷ (false ∷ true ∷ true ∷ false ∷ false ∷ false ∷ false ∷ true ∷ false ∷ true ∷ []) ∷ []

forked_failing_runs : RunsBut forked_netlist 5 forked_inputs forked_failing
forked_failing_runs = (
  settled_but forked_netlist 5 _ _ _ refl (refl, tt) (refl, (refl, (refl, (refl, tt)))) (λ off. absurd (off refl), (λ off. refl, (λ off. refl, (λ off. refl, (λ off. refl, tt))))),
  (settled_but forked_netlist 5 _ _ _ refl (refl, tt) (refl, (refl, (refl, (refl, tt)))) (λ off. absurd (off refl), (λ off. refl, (λ off. refl, (λ off. refl, (λ off. refl, tt))))), tt),
)

forked_silent : (step : ℕ) → step ≤ 1 → bit (at_step forked_failing step) 8 ≡ bit (at_step forked_failing step) 9 → ⊥
forked_silent zero h e = false≢true e
forked_silent (suc zero) h e = false≢true e
forked_silent (suc (suc step)) h e = omega arith

pub apart_in_one_step_is_silent : ApartInOneStepIsSilent
apart_in_one_step_is_silent secure =
    let alarm = secure.alarmed 5 (false ∷ false ∷ []) (false ∷ false ∷ []) forked_inputs forked_shown forked_clean forked_failing
    (record { no_input = omega arith; inside = omega arith }) forked_shown_runs forked_clean_runs forked_failing_runs 1 (omega arith)
    (λ e. true≢false (ap (λ bits. bit bits 0) e)) in
    forked_silent alarm.at alarm.in_time alarm.rails_agree

-- ---- the node that register and copy read gives 1 at step 0

abbrev leaning_inputs : List (List Bool)
leaning_inputs = (false ∷ []) ∷ (false ∷ []) ∷ []

abbrev leaning_shown : List (List Bool)
leaning_shown = (false ∷ true ∷ false ∷ []) ∷ (false ∷ false ∷ false ∷ []) ∷ []

leaning_shown_runs : Runs single_source NoFault (false ∷ false ∷ []) leaning_inputs leaning_shown
leaning_shown_runs = (
  settled single_source _ _ _ refl (refl, tt) (refl, tt) (refl, tt),
  (settled single_source _ _ _ refl (refl, tt) (refl, tt) (refl, tt), tt),
)

abbrev leaning_clean : List (List Bool)
leaning_clean = (false ∷ true ∷ true ∷ false ∷ false ∷ true ∷ false ∷ []) ∷ (false ∷ false ∷ false ∷ false ∷ true ∷ false ∷ true ∷ []) ∷ []

leaning_clean_runs : Runs leaning_netlist NoFault (false ∷ false ∷ []) leaning_inputs leaning_clean
leaning_clean_runs = (
  settled leaning_netlist _ _ _ refl (refl, tt) (refl, (refl, tt)) (refl, (refl, (refl, (refl, tt)))),
  (settled leaning_netlist _ _ _ refl (refl, tt) (refl, (refl, tt)) (refl, (refl, (refl, (refl, tt)))), tt),
)

abbrev leaning_failing : List (List Bool)
leaning_failing = (false ∷ true ∷ true ∷ true ∷ false ∷ true ∷ false ∷ []) ∷ (false ∷ true ∷ true ∷ false ∷ false ∷ true ∷ false ∷ []) ∷ []

leaning_failing_runs : RunsBut leaning_netlist 3 leaning_inputs leaning_failing
leaning_failing_runs = (
  settled_but leaning_netlist 3 _ _ _ refl (refl, tt) (refl, (refl, tt)) (λ off. absurd (off refl), (λ off. refl, (λ off. refl, (λ off. refl, tt)))),
  (settled_but leaning_netlist 3 _ _ _ refl (refl, tt) (refl, (refl, tt)) (λ off. absurd (off refl), (λ off. refl, (λ off. refl, (λ off. refl, tt)))), tt),
)

leaning_silent : (step : ℕ) → step ≤ 1 → bit (at_step leaning_failing step) 5 ≡ bit (at_step leaning_failing step) 6 → ⊥
leaning_silent zero h e = true≢false e
leaning_silent (suc zero) h e = true≢false e
leaning_silent (suc (suc step)) h e = omega arith

pub leaning_is_silent : LeaningIsSilent
leaning_is_silent secure =
    let alarm = secure.alarmed 3 (false ∷ false ∷ []) (false ∷ false ∷ []) leaning_inputs leaning_shown leaning_clean leaning_failing
    (record { no_input = omega arith; inside = omega arith }) leaning_shown_runs leaning_clean_runs leaning_failing_runs 1 (omega arith)
    (λ e. true≢false (ap (λ bits. bit bits 0) e)) in
    leaning_silent alarm.at alarm.in_time alarm.rails_agree

-- ---- no cell fails

abbrev zeroed_inputs : List (List Bool)
zeroed_inputs = (false ∷ []) ∷ []

abbrev zeroed_shown : List (List Bool)
zeroed_shown = (false ∷ true ∷ false ∷ []) ∷ []

zeroed_shown_runs : Runs single_source NoFault (false ∷ []) zeroed_inputs zeroed_shown
zeroed_shown_runs = (settled single_source _ _ _ refl (refl, tt) (refl, tt) (refl, tt), tt)

abbrev zeroed_clean : List (List Bool)
zeroed_clean = (false ∷ true ∷ false ∷ false ∷ false ∷ true ∷ true ∷ true ∷ []) ∷ []

zeroed_clean_runs : Runs zeroed_netlist NoFault (false ∷ []) zeroed_inputs zeroed_clean
zeroed_clean_runs = (settled zeroed_netlist _ _ _ refl (refl, tt) (refl, (refl, tt)) (refl, (refl, (refl, (refl, (refl, tt))))), tt)

pub zeroed_is_false : ZeroedIsFalse
zeroed_is_false secure =
    (secure.quiet (false ∷ []) (false ∷ []) zeroed_inputs zeroed_shown zeroed_clean zeroed_shown_runs zeroed_clean_runs 0 [] (omega arith)).rails_differ refl
