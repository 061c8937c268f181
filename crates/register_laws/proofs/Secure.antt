-- Netlists of this structure are secure: where an output or a check is wrong, its group isn't odd, and the checker says so.
use Rattle.std.proofs.Common.{◌≡◌, ℕ, zero, suc, ◌+◌, ◌<◌, inl, inr, Bool, true, false, not, List, [], ◌∷◌, take, length, slice_index_or, All, refl, sym, ap, ◌∙◌, subst, arith, true≢false, length-append, length-take}
use Rattle.std.proofs.lemmas.Bool.{cases_lt}
use Rattle.std.proofs.lemmas.List.{get_or-map, get_or_past, get_or_default, length-map}
use Rattle.fault_secure.specs.Circuit.{Circuit, LatchOf, no_latch, node_net, bit}
use Rattle.fault_secure.specs.StuckAt.{NoFault}
use Rattle.fault_secure.specs.Run.{init_state, next_state, Runs}
use Rattle.fault_secure.specs.CodePlan.{bits_at, members}
use Rattle.tsc_bits.specs.Counting.{odd}
use Rattle.fault_secure.specs.FailingCell.{IsCell, RunsBut}
use Rattle.fault_secure.specs.FaultSecure.{outputs_in, at_step}
use Rattle.fault_secure.proofs.OneRun.{one_run}
use Rattle.structure_laws.proofs.FailingCell.{one_run_but_a_cell, listed_faults_are_failing_cells}
use Rattle.structure_laws.proofs.FirstErrors.{CleanFrom, clean_from}
use Rattle.structure_laws.proofs.Groups.{InGroup, parity_flips, place_in_group}
use Rattle.structure_laws.proofs.ParityStep.{same_bit, DifferAt, same_or_differ}
use Rattle.structure_laws.proofs.Words.{same_parts}
use Rattle.register_laws.specs.RegisterPlan.{RegisterPlan, front_nets, front, IsOdd, next_net}
use Rattle.register_laws.specs.RegisterStructure.{Reaches, front_net, IsLogic, RegisterCheckerSettles, HasRegisterStructure}
use Rattle.register_laws.specs.RegisterSecure.{shown, IsCalm, ErrorShows, IsHeard}
use Rattle.register_laws.specs.RegisterLaws.{RegistersAreSecure, RegistersAreFaultSecure}
use Rattle.register_laws.proofs.Outside.{IsStep, steps_from, reach_depends}

-- a run has one valuation per input
pub run_sized : (N : Circuit) (s : List Bool) (xs vs : List (List Bool)) → CleanFrom N s xs vs → length vs ≡ length xs
run_sized N s [] [] h = refl
run_sized N s [] (v ∷ vs) h = absurd h
run_sized N s (x ∷ xs) [] h = absurd h
run_sized N s (x ∷ xs) (v ∷ vs) h = ap suc (run_sized N (next_state N NoFault v) xs vs h.1)

-- in a run without a fault, what the checker decides is calm
module _ (N : Circuit) (P : RegisterPlan) (structure : HasRegisterStructure N P) where
  calm_from : (xs vs : List (List Bool)) (s : List Bool) → CleanFrom N s xs vs → (step : ℕ) → step < length xs → IsOdd N P (at_step vs step)
      → IsCalm N P (at_step vs step)
  calm_from [] vs s run step within odd = absurd (omega arith)
  calm_from (x ∷ xs) [] s run step within odd = absurd run
  calm_from (x ∷ xs) (v ∷ vs) s run zero within odd = record {
    odd = odd;
    rails_differ = (structure.checker.decides v (record { settles = λ q h checker. run.0.nodes q h })).1 odd;
  }
  calm_from (x ∷ xs) (v ∷ vs) s run (suc step) within odd = calm_from xs vs (next_state N NoFault v) run.1 step (omega arith) odd

  module _ (cell : ℕ) (is : IsCell N cell) (v u : List Bool) (step : IsStep N cell v u) (odd_before : IsOdd N P v) where
    -- a place among outputs and checks that the cell doesn't reach has its bit
    place_outside : (place : ℕ) → (Reaches N cell (front_net N P place) → ⊥) → bit (front N P u) place ≡ bit (front N P v) place
    place_outside place free = elim (cases_lt place (length (front_nets N P))) [
      | inl h ↦ get_or-map (bit u) (front_nets N P) place 0 false h
          ∙ sym (step.outside (front_net N P place) free)
          ∙ sym (get_or-map (bit v) (front_nets N P) place 0 false h)
      | inr h ↦ get_or_past (front N P u) place false (let e = length-map (front_nets N P) (bit u) in omega arith)
          ∙ sym (get_or_past (front N P v) place false (let e = length-map (front_nets N P) (bit v) in omega arith))
    ]

    -- a node whose cell reaches an output or a check is of the logic that is checked
    is_logic : (q place : ℕ) → q < length N.nodes → cell ≡ node_net N q → place < length (front_nets N P) → Reaches N cell (front_net N P place) → IsLogic N P q
    is_logic q place there e within reached = elim (reach_depends N cell q (front_net N P place) e there reached) [
      | inl d ↦ record {
        net = front_net N P place;
        needed = inl (place, within, get_or_default (front_nets N P) place (front_net N P place) 0 within);
        depends = d;
      }
      | inr d ↦ record {
        net = next_net N d.0;
        needed = inr (inr (
          d.0,
          omega (arith, d.1, length-map N.latches (λ (k : LatchOf). k.reads)),
          get_or-map (λ (k : LatchOf). k.reads) N.latches d.0 no_latch (next_net N d.0) d.1,
        ));
        depends = d.2;
      }
    ]

    -- the group of a place that is wrong isn't odd
    wrong_not_odd : (d : DifferAt (front N P u) (front N P v)) → InGroup (members P.plan) d.place → IsOdd N P u → ⊥
    wrong_not_odd d g after =
        let flips : odd (bits_at (front N P u) (slice_index_or (members P.plan) g.group [])) ≡ not (odd (bits_at (front N P v) (slice_index_or (members P.plan) g.group []))) =
        parity_flips (front N P u) (front N P v) (λ place. Reaches N cell (front_net N P place)) place_outside (slice_index_or (members P.plan) g.group [])
        (λ a b l k one two. structure.apart cell g.group a b is l k one two)
        g.index g.within (subst (λ place. bit (front N P u) place ≡ bit (front N P v) place → ⊥) (sym g.is) d.apart) in
        let odd_v : odd (bits_at (front N P v) (slice_index_or (members P.plan) g.group [])) ≡ true = odd_before.groups g.group [] g.there in
        let odd_u : odd (bits_at (front N P u) (slice_index_or (members P.plan) g.group [])) ≡ true = after.groups g.group [] g.there in
        true≢false (sym odd_u ∙ flips ∙ ap not odd_v)

    -- where a place is wrong the checker settles: the cell isn't one of its nodes
    checker_settles : (d : DifferAt (front N P u) (front N P v)) → RegisterCheckerSettles N P u
    checker_settles d = record {
      settles = λ q h checker. step.settles_but.nodes q h
          (λ here. d.apart (place_outside d.place (λ reached. checker.outside
          (is_logic q d.place h (sym here) (let e = length-map (front_nets N P) (bit u) in let l = d.within in omega arith) reached))));
    }

    wrong_shows : DifferAt (front N P u) (front N P v) → ErrorShows N P u
    wrong_shows d =
        let size = length-map (front_nets N P) (bit u) in
        let parts = length-append (take P.plan.outputs N.outputs) P.plan.checks in
        let outputs = length-take P.plan.outputs N.outputs in
        let low : d.place < P.plan.outputs + length P.plan.checks = (let l = d.within in omega arith) in
        let bad : IsOdd N P u → ⊥ = wrong_not_odd d (place_in_group P.plan structure.groups d.place low) in
        record {
          not_odd = bad;
          rails_agree = elim (same_bit (bit u P.plan.rail1) (bit u P.plan.rail2)) [
            | inl agrees ↦ agrees
            | inr differ ↦ absurd (bad ((structure.checker.decides u (checker_settles d)).0 differ))
          ];
        }

    pub error_shows : (front N P u ≡ front N P v → ⊥) → ErrorShows N P u
    error_shows wrong = elim (same_or_differ (front N P u) (front N P v) (length-map (front_nets N P) (bit u) ∙ sym (length-map (front_nets N P) (bit v)))) [
      | inl e ↦ absurd (wrong e)
      | inr d ↦ wrong_shows d
    ]

-- a netlist of this structure that follows its source is secure against any one failing cell
pub registers_are_secure : RegistersAreSecure
registers_are_secure S N P source structure follows = record {
  source_runs = λ m xs sized. one_run S NoFault m xs source sized;
  one_run = λ w xs sized. one_run N NoFault w xs structure.acyclic sized;
  one_run_but = λ cell bits xs is sized. one_run_but_a_cell N cell bits xs structure.acyclic is sized;
  follows = follows.outputs;
  quiet = λ m w xs ws vs source_run run. quiet m w xs ws vs source_run run;
  heard = λ cell m w xs ws vs us is source_run run held. heard cell m w xs ws vs us is source_run run held;
}
  where
    quiet : (m w : List Bool) (xs ws vs : List (List Bool)) → Runs S NoFault m xs ws → Runs N NoFault w xs vs → All (IsCalm N P) vs
    quiet m w xs ws vs source_run run k d within =
        let clean = clean_from N (init_state N) w xs vs run in
        let e = run_sized N (init_state N) xs vs clean in
        subst (IsCalm N P) (get_or_default vs k [] d within)
        (calm_from N P structure xs vs (init_state N) clean k (omega arith) (follows.odd m w xs ws vs source_run run k [] within))

    heard : (cell : ℕ) (m w : List Bool) (xs ws vs us : List (List Bool)) → IsCell N cell
        → Runs S NoFault m xs ws → Runs N NoFault w xs vs → RunsBut N cell xs us → IsHeard S N P xs ws vs us
    heard cell m w xs ws vs us is source_run run held = record {
      errors_show = shows;
      no_wrong_output = λ step within wrong. record {
        at = step;
        in_time = omega arith;
        rails_agree = (shows step within (λ same. wrong (outputs_same (at_step us step) (at_step vs step) same ∙ right step within))).rails_agree;
      };
    }
      where
        shows : (step : ℕ) → step < length xs → (front N P (at_step us step) ≡ front N P (at_step vs step) → ⊥) → ErrorShows N P (at_step us step)
        shows step within =
            let clean = clean_from N (init_state N) w xs vs run in
            let e = run_sized N (init_state N) xs vs clean in
            error_shows N P structure cell is (at_step vs step) (at_step us step)
            (steps_from N cell structure.acyclic is xs vs us (init_state N) (init_state N) (λ l h free. refl) clean held step within)
            (follows.odd m w xs ws vs source_run run step [] (omega arith))

        outputs_same : (u v : List Bool) → front N P u ≡ front N P v → outputs_in N P.plan u ≡ outputs_in N P.plan v
        outputs_same u v same = (same_parts (bit u) (bit v) (take P.plan.outputs N.outputs) P.plan.checks same).0

        right : (step : ℕ) → step < length xs → outputs_in N P.plan (at_step vs step) ≡ shown S (at_step ws step)
        right step within =
            let e = run_sized N (init_state N) xs vs (clean_from N (init_state N) w xs vs run) in
            let f = run_sized S (init_state S) xs ws (clean_from S (init_state S) m xs ws source_run) in
            sym (get_or-map (outputs_in N P.plan) vs step [] [] (omega arith))
            ∙ ap (λ items. at_step items step) (follows.outputs m w xs ws vs source_run run)
            ∙ get_or-map (shown S) ws step [] [] (omega arith)

-- a listed fault is among what one failing cell does
pub registers_are_fault_secure : RegistersAreFaultSecure
registers_are_fault_secure S N P acyclic secure = record {
  source_runs = secure.source_runs;
  one_run = secure.one_run;
  one_run_under = λ f h xs listed sized. one_run N f h xs acyclic sized;
  follows = secure.follows;
  quiet = secure.quiet;
  heard = λ f h m w xs ws vs us listed source_run run held.
      let failing = listed_faults_are_failing_cells N f h xs us listed held in
      secure.heard failing.cell m w xs ws vs us failing.is_cell source_run run failing.runs;
}
