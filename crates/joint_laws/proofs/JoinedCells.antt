-- Parts that are secure against any one failing cell make a joint that is.
use Rattle.std.proofs.Common.{◌≡◌, ℕ, zero, suc, ◌+◌, ◌<◌, ◌≤◌, ◌⊎◌, Bool, List, [], ◌∷◌, length, All, sym, ap, subst, ◌∙◌, inl, inr, arith}
use Rattle.std.proofs.lemmas.List.{length-map, get_or-map}
use Rattle.std.proofs.lemmas.List.Elements.{All-from_get_or}
use Rattle.fault_secure.specs.Circuit.{Circuit, latch_net, node_net, nets, bit}
use Rattle.fault_secure.specs.StuckAt.{NoFault}
use Rattle.fault_secure.specs.Run.{init_state, next_state, Runs}
use Rattle.fault_secure.specs.FailingCell.{IsCell, RunsBut, RunsButFrom, SettlesBut}
use Rattle.fault_secure.specs.FaultSecure.{IsQuiet, at_step}
use Rattle.fault_secure.proofs.OneRun.{one_run}
use Rattle.fault_secure.proofs.Places.{Place, place_of}
use Rattle.fault_secure.proofs.Places.Place.{Input, Latch, Node, Beyond}
use Rattle.structure_laws.proofs.FailingCell.{one_run_but_a_cell}
use Rattle.joint_laws.specs.Parts.{as_part, part_inputs}
use Rattle.joint_laws.specs.Joint.{JointOf, IsJoint, part}
use Rattle.joint_laws.specs.JointSecure.{JointRailsAgree, NoSilentPart, inputs_over, run_over}
use Rattle.joint_laws.specs.JointLaws.{JoinedIsCellSecure}
use Rattle.joint_laws.proofs.PartFaults.{IsOfPart, IsNotOfPart, of_part_or_not}
use Rattle.joint_laws.proofs.PartRuns.{long_marks, long_failing, part_alone, part_fails, part_untouched}
use Rattle.joint_laws.proofs.JoinedSteps.{no_fault_off, works_under, works_but, rails_quiet, silent_joins, right_stays, runs_same}

-- a run with a failing cell has valuations of the circuit's size
sized_but : (N : Circuit) (cell : ℕ) (s : List Bool) (xs us : List (List Bool)) → RunsButFrom N cell s xs us
    → (step : ℕ) → step < length us → length (at_step us step) ≡ nets N
sized_but N cell s [] [] h step l = absurd (omega arith)
sized_but N cell s [] (u ∷ us) h step l = absurd h
sized_but N cell s (x ∷ xs) [] h step l = absurd h
sized_but N cell s (x ∷ xs) (u ∷ us) h zero l = let settled : SettlesBut N cell (bit x) (bit s) u = h.0 in settled.sized
sized_but N cell s (x ∷ xs) (u ∷ us) h (suc step) l = sized_but N cell (next_state N NoFault u) xs us h.1 step (omega arith)

module _ (J : JointOf) (is : IsJoint J) where
  -- a run of the joint without a fault is, on the nets of a part, a run of that part without a fault
  pub alone : (i : ℕ) (w : List Bool) (xs vs : List (List Bool)) → i < length J.parts → Runs J.circuit NoFault w xs vs
      → Runs (part J i).circuit NoFault w (inputs_over (part J i) xs) (run_over (part J i) vs)
  alone i w xs vs h run =
      part_alone J.circuit (part J i).circuit (part J i).at (part J i).first_latch (part J i).first_node (is.stand i h) w xs vs run

  -- without a fault the rails differ, where each part is quiet
  pub quiet_joins : (w : List Bool) (xs vs : List (List Bool)) → Runs J.circuit NoFault w xs vs
      → ((i : ℕ) → i < length J.parts → All (IsQuiet (part J i).circuit (part J i).plan) (run_over (part J i) vs))
      → All (λ v. JointRailsAgree J v → ⊥) vs
  quiet_joins w xs vs run quiet = All-from_get_or (λ v. JointRailsAgree J v → ⊥) vs [] (λ step h.
      rails_quiet J is (at_step vs step) (works_under J NoFault (no_fault_off J) (init_state J.circuit) w xs vs run step h) (λ i l.
      subst (λ v. bit v (part J i).plan.rail1 ≡ bit v (part J i).plan.rail2 → ⊥) (get_or-map (as_part (part J i).circuit (part J i).at) vs step [] [] h)
      (quiet i l step [] (omega (arith, length-map vs (as_part (part J i).circuit (part J i).at)))).rails_differ))

  -- a cell of a part isn't one of the tree
  pub off_tree : (i c : ℕ) → i < length J.parts → Place (part J i).circuit c → IsCell (part J i).circuit c
      → (j : ℕ) → J.tree ≤ j → node_net J.circuit j ≡ (part J i).at c → ⊥
  off_tree i c h (Input l) cell j from e = let k = cell.no_input in omega arith
  off_tree i c h (Beyond l) cell j from e = let k = cell.inside in omega arith
  off_tree i c h (Latch l k here) cell j from e =
      let m = is.stand i h in
      let fits = m.latches_fit in
      let there : (part J i).at c ≡ latch_net J.circuit ((part J i).first_latch + l) = ap (part J i).at here ∙ m.latch_nets l k in
      omega arith
  off_tree i c h (Node n k here) cell j from e =
      let m = is.stand i h in
      let before = is.before i h in
      let there : (part J i).at c ≡ node_net J.circuit ((part J i).first_node + n) = ap (part J i).at here ∙ m.node_nets n k in
      omega arith

-- a joint of parts that are secure against any one failing cell is so too, whichever cell of it fails
pub joined_is_cell_secure : JoinedIsCellSecure
joined_is_cell_secure M J is acyclic secure = record {
  one_run = λ w xs sized. one_run J.circuit NoFault w xs acyclic sized;
  one_run_but = λ cell bits xs c sized. one_run_but_a_cell J.circuit cell bits xs acyclic c sized;
  alone = λ i w xs vs h run. alone J is i w xs vs h run;
  quiet = λ w xs vs run. quiet_joins J is w xs vs run (λ i h.
      (secure i h).quiet w (inputs_over (part J i) xs) (run_over (part J i) vs) (alone J is i w xs vs h run));
  untouched = λ cell i w xs us c h off long failing. untouched cell i w xs us c h off long failing;
  flagged = λ cell i w xs vs us c h run failing. flagged cell i w xs vs us c h run failing (of_part_or_not (part J i).circuit (part J i).at cell);
}
  where
    untouched : (cell i : ℕ) (w : List Bool) (xs us : List (List Bool)) → IsCell J.circuit cell → i < length J.parts
        → IsNotOfPart (part J i).circuit (part J i).at cell → length w ≡ length xs → RunsBut J.circuit cell xs us
        → Runs (part J i).circuit NoFault w (inputs_over (part J i) xs) (run_over (part J i) us)
    untouched cell i w xs us c h off long failing =
        part_untouched J.circuit (part J i).circuit (part J i).at (part J i).first_latch (part J i).first_node (is.stand i h) cell c off w xs us long failing

    flagged : (cell i : ℕ) (w : List Bool) (xs vs us : List (List Bool)) → IsCell J.circuit cell → i < length J.parts
        → Runs J.circuit NoFault w xs vs → RunsBut J.circuit cell xs us → IsOfPart (part J i).circuit (part J i).at cell ⊎ IsNotOfPart (part J i).circuit (part J i).at cell
        → NoSilentPart (M i) J (part J i) xs vs us
    flagged cell i w xs vs us c h run failing (inl found) =
        let held = subst (λ n. RunsBut J.circuit n xs us) (sym found.2) failing in
        let failed = part_fails J.circuit (part J i).circuit (part J i).at (part J i).first_latch (part J i).first_node (is.stand i h) found.0 found.1 xs us held in
        silent_joins J is (M i) i h xs vs us (long_failing J.circuit cell (init_state J.circuit) xs us failing)
        (works_but J ((part J i).at found.0) (off_tree J is i found.0 h (place_of (part J i).circuit found.0) found.1) (init_state J.circuit) xs us held)
        ((secure i h).flagged found.0 w (inputs_over (part J i) xs) (run_over (part J i) vs) (run_over (part J i) us) found.1 (alone J is i w xs vs h run) failed).no_silent_error
    flagged cell i w xs vs us c h run failing (inr off) =
        let long = (long_marks J.circuit NoFault (init_state J.circuit) w xs vs run).0 in
        let first = alone J is i w xs vs h run in
        let second = untouched cell i w xs us c h off long failing in
        let one = (secure i h).one_run w (inputs_over (part J i) xs) (long ∙ sym (length-map xs (part_inputs (part J i).circuit (part J i).at))) in
        right_stays J is (M i) i h xs vs us (long_failing J.circuit cell (init_state J.circuit) xs us failing)
        (sized_but J.circuit cell (init_state J.circuit) xs us failing)
        (runs_same (part J i).circuit NoFault w (inputs_over (part J i) xs) (run_over (part J i) vs) (run_over (part J i) us) one first second)
        ((secure i h).follows w (inputs_over (part J i) xs) (run_over (part J i) vs) first)
