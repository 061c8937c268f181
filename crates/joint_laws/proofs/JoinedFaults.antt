-- Fault-secure parts make a fault-secure joint.
use Rattle.std.proofs.Common.{◌≡◌, ℕ, zero, suc, ◌<◌, ◌⊎◌, Bool, List, [], ◌∷◌, length, arith, IsTrue, refl, sym, subst, ◌∙◌, inl, inr}
use Rattle.std.proofs.lemmas.List.{length-map}
use Rattle.fault_secure.specs.Circuit.{Circuit, nets, bit}
use Rattle.fault_secure.specs.StuckAt.{StuckAt, NoFault, Stem, Pin, is_listed, fault_cell, present}
use Rattle.fault_secure.specs.Settle.{Settles}
use Rattle.fault_secure.specs.Run.{init_state, next_state, Runs, RunsFrom}
use Rattle.fault_secure.specs.FaultSecure.{at_step}
use Rattle.fault_secure.proofs.OneRun.{one_run}
use Rattle.fault_secure.proofs.Places.{place_of}
use Rattle.structure_laws.proofs.FailingCell.{fault_at, listed_faults_are_failing_cells}
use Rattle.joint_laws.specs.Parts.{part_inputs}
use Rattle.joint_laws.specs.Joint.{JointOf, IsJoint, part}
use Rattle.joint_laws.specs.JointSecure.{NoSilentPart, inputs_over, run_over}
use Rattle.joint_laws.specs.JointLaws.{JoinedIsFaultSecure, JointCellsCoverFaults}
use Rattle.joint_laws.proofs.PartBits.{ActsAs}
use Rattle.joint_laws.proofs.PartFaults.{IsOfPart, IsNotOfPart, of_part_or_not, listed_at, stem_acts, pin_acts, off_acts, stem_listed, pin_listed}
use Rattle.joint_laws.proofs.PartRuns.{long_marks, part_runs}
use Rattle.joint_laws.proofs.JoinedSteps.{works_under, silent_joins, right_stays, runs_same}
use Rattle.joint_laws.proofs.JoinedCells.{alone, quiet_joins, off_tree}

-- a run under a fault has valuations of the circuit's size
sized_under : (N : Circuit) (f : StuckAt) (s w : List Bool) (xs us : List (List Bool)) → RunsFrom N f s w xs us
    → (step : ℕ) → step < length us → length (at_step us step) ≡ nets N
sized_under N f s [] [] [] h step l = absurd (omega arith)
sized_under N f s [] [] (u ∷ us) h step l = absurd h
sized_under N f s [] (x ∷ xs) us h step l = absurd h
sized_under N f s (here ∷ w) [] us h step l = absurd h
sized_under N f s (here ∷ w) (x ∷ xs) [] h step l = absurd h
sized_under N f s (here ∷ w) (x ∷ xs) (u ∷ us) h zero l = let settled : Settles N (present here f) (bit x) (bit s) u = h.0 in settled.sized
sized_under N f s (here ∷ w) (x ∷ xs) (u ∷ us) h (suc step) l = sized_under N f (next_state N (present here f) u) w xs us h.1 step (omega arith)

-- a listed fault of the joint at a cell of the part is a listed fault of the part
record PartFault (J : JointOf) (i : ℕ) (f : StuckAt) : Type 0 where
  fault : StuckAt
  listed : IsTrue (is_listed (part J i).circuit fault)
  acts : ActsAs (part J i).circuit (part J i).at f fault

part_fault : (J : JointOf) (is : IsJoint J) (i : ℕ) → i < length J.parts → (f : StuckAt) → IsTrue (is_listed J.circuit f)
    → IsOfPart (part J i).circuit (part J i).at (fault_cell f) → PartFault J i f
part_fault J is i h NoFault listed found = absurd (cc)
part_fault J is i h (Stem net held) listed found = record {
  fault = Stem found.0 held;
  listed = stem_listed J.circuit (part J i).circuit (part J i).at (part J i).first_latch (part J i).first_node (is.stand i h) found.0 held found.1;
  acts = subst (λ n. ActsAs (part J i).circuit (part J i).at (Stem n held) (Stem found.0 held)) found.2
      (stem_acts J.circuit (part J i).circuit (part J i).at (part J i).first_latch (part J i).first_node (is.stand i h) found.0 held found.1);
}
part_fault J is i h (Pin driver index held) listed found = record {
  fault = Pin found.0 index held;
  listed = pin_listed J.circuit (part J i).circuit (part J i).at (part J i).first_latch (part J i).first_node (is.stand i h) found.0 index held found.1
      (subst (λ n. IsTrue (is_listed J.circuit (Pin n index held))) (sym found.2) listed);
  acts = subst (λ n. ActsAs (part J i).circuit (part J i).at (Pin n index held) (Pin found.0 index held)) found.2
      (pin_acts J.circuit (part J i).circuit (part J i).at (part J i).first_latch (part J i).first_node (is.stand i h) found.0 index held found.1);
}

-- a joint of fault-secure parts is fault-secure
pub joined_is_fault_secure : JoinedIsFaultSecure
joined_is_fault_secure M J is acyclic secure = record {
  one_run = λ f w xs listed sized. one_run J.circuit f w xs acyclic sized;
  alone = λ i w xs vs h run. alone J is i w xs vs h run;
  quiet = λ w xs vs run. quiet_joins J is w xs vs run (λ i h.
      (secure i h).quiet w (inputs_over (part J i) xs) (run_over (part J i) vs) (alone J is i w xs vs h run));
  flagged = λ f i w xs vs us listed h run held. flagged f i w xs vs us listed h run held (of_part_or_not (part J i).circuit (part J i).at (fault_cell f));
}
  where
    flagged : (f : StuckAt) (i : ℕ) (w : List Bool) (xs vs us : List (List Bool)) → IsTrue (is_listed J.circuit f) → i < length J.parts
        → Runs J.circuit NoFault w xs vs → Runs J.circuit f w xs us
        → IsOfPart (part J i).circuit (part J i).at (fault_cell f) ⊎ IsNotOfPart (part J i).circuit (part J i).at (fault_cell f)
        → NoSilentPart (M i) J (part J i) xs vs us
    flagged f i w xs vs us listed h run held (inl found) =
        let own = part_fault J is i h f listed found in
        let failed = part_runs J.circuit (part J i).circuit (part J i).at (part J i).first_latch (part J i).first_node (is.stand i h) f own.fault own.acts w xs us held in
        silent_joins J is (M i) i h xs vs us (long_marks J.circuit f (init_state J.circuit) w xs us held).1
        (works_under J f (λ j from below. fault_at f _ (λ e. off_tree J is i found.0 h (place_of (part J i).circuit found.0) found.1 j from (e ∙ sym found.2)))
        (init_state J.circuit) w xs us held)
        ((secure i h).flagged own.fault w (inputs_over (part J i) xs) (run_over (part J i) vs) (run_over (part J i) us) own.listed (alone J is i w xs vs h run) failed).no_silent_error
    flagged f i w xs vs us listed h run held (inr off) =
        let long = (long_marks J.circuit NoFault (init_state J.circuit) w xs vs run).0 in
        let first = alone J is i w xs vs h run in
        let acts = off_acts J.circuit (part J i).circuit (part J i).at (part J i).first_latch (part J i).first_node (is.stand i h) f (listed_at J.circuit f listed).no_input off in
        let second = part_runs J.circuit (part J i).circuit (part J i).at (part J i).first_latch (part J i).first_node (is.stand i h) f NoFault acts w xs us held in
        let one = (secure i h).one_run NoFault w (inputs_over (part J i) xs) (inl refl) (long ∙ sym (length-map xs (part_inputs (part J i).circuit (part J i).at))) in
        right_stays J is (M i) i h xs vs us (long_marks J.circuit f (init_state J.circuit) w xs us held).1
        (sized_under J.circuit f (init_state J.circuit) w xs us held)
        (runs_same (part J i).circuit NoFault w (inputs_over (part J i) xs) (run_over (part J i) vs) (run_over (part J i) us) one first second)
        ((secure i h).follows w (inputs_over (part J i) xs) (run_over (part J i) vs) first)

-- a joint that is secure against any one failing cell is so against each listed fault
pub cell_secure_joints_are_fault_secure : JointCellsCoverFaults
cell_secure_joints_are_fault_secure M J acyclic secure = record {
  one_run = λ f w xs listed sized. one_run J.circuit f w xs acyclic sized;
  alone = secure.alone;
  quiet = secure.quiet;
  flagged = λ f i w xs vs us listed h run held.
      let failing = listed_faults_are_failing_cells J.circuit f w xs us listed held in
      secure.flagged failing.cell i w xs vs us failing.is_cell h run failing.runs;
}
