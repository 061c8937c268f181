-- Parts that are alarm-secure make a joint that is secure.
use Rattle.std.proofs.Common.{◌≡◌, ℕ, zero, suc, ◌<◌, ◌⊎◌, Bool, List, [], ◌∷◌, length, sym, subst, ◌∙◌, inl, inr, arith}
use Rattle.std.proofs.lemmas.List.{length-map}
use Rattle.fault_secure.specs.Circuit.{Circuit, nets, bit}
use Rattle.fault_secure.specs.StuckAt.{NoFault}
use Rattle.fault_secure.specs.Run.{init_state, next_state, Runs}
use Rattle.fault_secure.specs.FailingCell.{IsCell, RunsBut, RunsButFrom, SettlesBut}
use Rattle.fault_secure.specs.FaultSecure.{at_step}
use Rattle.fault_secure.proofs.OneRun.{one_run}
use Rattle.fault_secure.proofs.Places.{place_of}
use Rattle.structure_laws.proofs.FailingCell.{one_run_but_a_cell}
use Rattle.joint_laws.specs.Parts.{part_inputs}
use Rattle.joint_laws.specs.Joint.{part}
use Rattle.joint_laws.specs.JointSecure.{NoSilentPart, inputs_over, run_over}
use Rattle.joint_laws.proofs.PartFaults.{IsOfPart, IsNotOfPart, of_part_or_not}
use Rattle.joint_laws.proofs.PartRuns.{long_marks, long_failing, part_fails, part_untouched}
use Rattle.joint_laws.proofs.JoinedSteps.{works_but, silent_joins, right_stays, runs_same}
use Rattle.joint_laws.proofs.JoinedCells.{alone, off_tree, quiet_joins}
use Rattle.alarm_joints.specs.AlarmJoints.{AlarmSecurePartsJoin}

-- a run with a failing cell has valuations of the circuit's size
sized_but : (N : Circuit) (cell : ℕ) (s : List Bool) (xs us : List (List Bool)) → RunsButFrom N cell s xs us
    → (step : ℕ) → step < length us → length (at_step us step) ≡ nets N
sized_but N cell s [] [] h step l = absurd (omega arith)
sized_but N cell s [] (u ∷ us) h step l = absurd h
sized_but N cell s (x ∷ xs) [] h step l = absurd h
sized_but N cell s (x ∷ xs) (u ∷ us) h zero l = let settled : SettlesBut N cell (bit x) (bit s) u = h.0 in settled.sized
sized_but N cell s (x ∷ xs) (u ∷ us) h (suc step) l = sized_but N cell (next_state N NoFault u) xs us h.1 step (omega arith)

-- a joint of alarm-secure parts is secure against any one failing cell, whichever cell of the joint fails
pub alarm_secure_parts_join : AlarmSecurePartsJoin
alarm_secure_parts_join M J is acyclic secure = record {
  one_run = λ w xs sized. one_run J.circuit NoFault w xs acyclic sized;
  one_run_but = λ cell bits xs c sized. one_run_but_a_cell J.circuit cell bits xs acyclic c sized;
  alone = λ i w xs vs h run. alone J is i w xs vs h run;
  quiet = λ w xs vs run. quiet_joins J is w xs vs run (λ i h.
      (secure i h).quiet w (inputs_over (part J i) xs) (run_over (part J i) vs) (alone J is i w xs vs h run));
  untouched = λ cell i w xs us c h off long failing. untouched cell i w xs us c h off long failing;
  flagged = λ cell i w xs vs us c h run failing. flagged cell i w xs vs us c h run failing (of_part_or_not (part J i).circuit (part J i).at cell);
}
  where
    untouched : (cell i : ℕ) (w : List Bool) (xs us : List (List Bool)) → IsCell J.circuit cell → i < length J.parts
        → IsNotOfPart (part J i).circuit (part J i).at cell → length w ≡ length xs → RunsBut J.circuit cell xs us
        → Runs (part J i).circuit NoFault w (inputs_over (part J i) xs) (run_over (part J i) us)
    untouched cell i w xs us c h off long failing =
        part_untouched J.circuit (part J i).circuit (part J i).at (part J i).first_latch (part J i).first_node (is.stand i h) cell c off w xs us long failing

    flagged : (cell i : ℕ) (w : List Bool) (xs vs us : List (List Bool)) → IsCell J.circuit cell → i < length J.parts
        → Runs J.circuit NoFault w xs vs → RunsBut J.circuit cell xs us → IsOfPart (part J i).circuit (part J i).at cell ⊎ IsNotOfPart (part J i).circuit (part J i).at cell
        → NoSilentPart (M i) J (part J i) xs vs us
    flagged cell i w xs vs us c h run failing (inl found) =
        let held = subst (λ n. RunsBut J.circuit n xs us) (sym found.2) failing in
        let failed = part_fails J.circuit (part J i).circuit (part J i).at (part J i).first_latch (part J i).first_node (is.stand i h) found.0 found.1 xs us held in
        silent_joins J is (M i) i h xs vs us (long_failing J.circuit cell (init_state J.circuit) xs us failing)
        (works_but J ((part J i).at found.0) (off_tree J is i found.0 h (place_of (part J i).circuit found.0) found.1) (init_state J.circuit) xs us held)
        ((secure i h).alarmed found.0 w (inputs_over (part J i) xs) (run_over (part J i) vs) (run_over (part J i) us) found.1 (alone J is i w xs vs h run) failed)
    flagged cell i w xs vs us c h run failing (inr off) =
        let long = (long_marks J.circuit NoFault (init_state J.circuit) w xs vs run).0 in
        let first = alone J is i w xs vs h run in
        let second = untouched cell i w xs us c h off long failing in
        let one = (secure i h).one_run w (inputs_over (part J i) xs) (long ∙ sym (length-map xs (part_inputs (part J i).circuit (part J i).at))) in
        right_stays J is (M i) i h xs vs us (long_failing J.circuit cell (init_state J.circuit) xs us failing)
        (sized_but J.circuit cell (init_state J.circuit) xs us failing)
        (runs_same (part J i).circuit NoFault w (inputs_over (part J i) xs) (run_over (part J i) vs) (run_over (part J i) us) one first second)
        ((secure i h).follows w (inputs_over (part J i) xs) (run_over (part J i) vs) first)
