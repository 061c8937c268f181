-- Parts that are secure for their sources make a joint that is secure for all of them.
use Rattle.std.proofs.Common.{◌≡◌, ℕ, zero, suc, ◌<◌, ◌⊎◌, Bool, List, [], ◌∷◌, length, IsTrue, sym, subst, ◌∙◌, inl, inr, arith}
use Rattle.std.proofs.lemmas.List.{length-map}
use Rattle.fault_secure.specs.Circuit.{Circuit, nets, bit}
use Rattle.fault_secure.specs.StuckAt.{StuckAt, NoFault, Stem, Pin, is_listed, fault_cell, present}
use Rattle.fault_secure.specs.Settle.{Settles}
use Rattle.fault_secure.specs.Run.{init_state, next_state, Runs, RunsFrom}
use Rattle.fault_secure.specs.CodePlan.{CodePlan}
use Rattle.fault_secure.specs.FailingCell.{IsCell, RunsBut, RunsButFrom, SettlesBut}
use Rattle.fault_secure.specs.FaultSecure.{at_step}
use Rattle.fault_secure.proofs.OneRun.{one_run}
use Rattle.fault_secure.proofs.Places.{place_of}
use Rattle.structure_laws.proofs.FailingCell.{one_run_but_a_cell, fault_at, listed_faults_are_failing_cells}
use Rattle.point_laws.proofs.Heard.{cell_secure_is_alarm_secure}
use Rattle.joint_laws.specs.Parts.{part_inputs}
use Rattle.joint_laws.specs.Joint.{JointOf, IsJoint, part}
use Rattle.joint_laws.specs.JointSecure.{inputs_over, run_over}
use Rattle.joint_laws.proofs.PartBits.{ActsAs}
use Rattle.joint_laws.proofs.PartFaults.{IsOfPart, IsNotOfPart, of_part_or_not, listed_at, stem_acts, pin_acts, off_acts, stem_listed, pin_listed}
use Rattle.joint_laws.proofs.PartRuns.{long_marks, long_failing, part_runs, part_fails, part_untouched}
use Rattle.joint_laws.proofs.JoinedSteps.{works_under, works_but, runs_same}
use Rattle.joint_laws.proofs.JoinedCells.{alone, off_tree}
use Rattle.register_laws.proofs.MappedRegisters.{register_secure_is_alarm_secure}
use Rattle.register_joints.specs.PartSource.{PartSource, Logical, Registers, IsPartSecure, IsPartFaultSecure}
use Rattle.register_joints.specs.SourcesSecure.{NoSilentOutput}
use Rattle.register_joints.specs.RegisterJoints.{SecurePartsJoin, FaultSecurePartsJoin, SourceCellsCoverFaults, CellSecureIsPart, RegisterSecureIsPart, RegisterFaultSecureIsPart, LogicalCellsJoin, LogicalFaultsJoin}
use Rattle.register_joints.proofs.Shown.{shown_over, quiet_joins}
use Rattle.register_joints.proofs.OwnAlarms.{alike_silent, OwnAlarm, OwnFollows, follows_joins, own_joins, right_joins, part_source_runs, part_one_run, part_follows, part_quiet, fault_part_source_runs, fault_part_one_run, fault_part_follows, fault_part_quiet}

-- a run with a failing cell has valuations of the circuit's size
sized_but : (N : Circuit) (cell : ℕ) (s : List Bool) (xs us : List (List Bool)) → RunsButFrom N cell s xs us
    → (step : ℕ) → step < length us → length (at_step us step) ≡ nets N
sized_but N cell s [] [] h step l = absurd (omega arith)
sized_but N cell s [] (u ∷ us) h step l = absurd h
sized_but N cell s (x ∷ xs) [] h step l = absurd h
sized_but N cell s (x ∷ xs) (u ∷ us) h zero l = let settled : SettlesBut N cell (bit x) (bit s) u = h.0 in settled.sized
sized_but N cell s (x ∷ xs) (u ∷ us) h (suc step) l = sized_but N cell (next_state N NoFault u) xs us h.1 step (omega arith)

-- and so has one under a fault
sized_under : (N : Circuit) (f : StuckAt) (s w : List Bool) (xs us : List (List Bool)) → RunsFrom N f s w xs us
    → (step : ℕ) → step < length us → length (at_step us step) ≡ nets N
sized_under N f s [] [] [] h step l = absurd (omega arith)
sized_under N f s [] [] (u ∷ us) h step l = absurd h
sized_under N f s [] (x ∷ xs) us h step l = absurd h
sized_under N f s (here ∷ w) [] us h step l = absurd h
sized_under N f s (here ∷ w) (x ∷ xs) [] h step l = absurd h
sized_under N f s (here ∷ w) (x ∷ xs) (u ∷ us) h zero l = let settled : Settles N (present here f) (bit x) (bit s) u = h.0 in settled.sized
sized_under N f s (here ∷ w) (x ∷ xs) (u ∷ us) h (suc step) l = sized_under N f (next_state N (present here f) u) w xs us h.1 step (omega arith)

-- ---- any one failing cell

-- a part's own failing cell
own_cell : (source : PartSource) (N : Circuit) (P : CodePlan) (c : ℕ) (w : List Bool) (xs vs us : List (List Bool)) → IsPartSecure source N P → IsCell N c
    → Runs N NoFault w xs vs → RunsBut N c xs us → OwnAlarm source N P xs vs us
own_cell (Logical M) N P c w xs vs us secure is run failing = secure.alarmed c w xs vs us is run failing
own_cell (Registers S) N P c w xs vs us secure is run failing = λ m ws own.
    alike_silent secure.whole.plan P secure.alike S N xs ws us (secure.secure.alarmed c m w xs ws vs us is own run failing)

-- a joint of parts that are secure for their sources is secure for all of them, whichever cell of it fails
pub secure_parts_join : SecurePartsJoin
secure_parts_join source J is acyclic secure = record {
  source_runs = λ i h. part_source_runs (part J i).circuit (part J i).plan (source i) (secure i h);
  one_run = λ w xs sized. one_run J.circuit NoFault w xs acyclic sized;
  one_run_but = λ cell bits xs c sized. one_run_but_a_cell J.circuit cell bits xs acyclic c sized;
  alone = λ i w xs vs h run. alone J is i w xs vs h run;
  shown = λ i w xs vs h run. shown_over J is i h w xs vs run;
  follows = λ i w xs vs h run. follows_joins J is i h (source i) w xs vs run (own_follows i h w xs vs run);
  quiet = λ w xs vs run. quiet_joins J is w xs vs run (λ i h.
      part_quiet (part J i).circuit (part J i).plan (source i) (secure i h) w (inputs_over (part J i) xs) (run_over (part J i) vs) (alone J is i w xs vs h run));
  untouched = λ cell i w xs us c h off long failing. untouched cell i w xs us c h off long failing;
  alarmed = λ cell i w xs vs us c h run failing. alarmed cell i w xs vs us c h run failing (of_part_or_not (part J i).circuit (part J i).at cell);
}
  where
    own_follows : (i : ℕ) → i < length J.parts → (w : List Bool) (xs vs : List (List Bool)) → Runs J.circuit NoFault w xs vs
        → OwnFollows (source i) (part J i).circuit (part J i).plan (inputs_over (part J i) xs) (run_over (part J i) vs)
    own_follows i h w xs vs run =
        part_follows (part J i).circuit (part J i).plan (source i) (secure i h) w (inputs_over (part J i) xs) (run_over (part J i) vs) (alone J is i w xs vs h run)

    untouched : (cell i : ℕ) (w : List Bool) (xs us : List (List Bool)) → IsCell J.circuit cell → i < length J.parts
        → IsNotOfPart (part J i).circuit (part J i).at cell → length w ≡ length xs → RunsBut J.circuit cell xs us
        → Runs (part J i).circuit NoFault w (inputs_over (part J i) xs) (run_over (part J i) us)
    untouched cell i w xs us c h off long failing =
        part_untouched J.circuit (part J i).circuit (part J i).at (part J i).first_latch (part J i).first_node (is.stand i h) cell c off w xs us long failing

    alarmed : (cell i : ℕ) (w : List Bool) (xs vs us : List (List Bool)) → IsCell J.circuit cell → i < length J.parts
        → Runs J.circuit NoFault w xs vs → RunsBut J.circuit cell xs us → IsOfPart (part J i).circuit (part J i).at cell ⊎ IsNotOfPart (part J i).circuit (part J i).at cell
        → NoSilentOutput (source i) J (part J i) xs vs us
    alarmed cell i w xs vs us c h run failing (inl found) =
        let held = subst (λ n. RunsBut J.circuit n xs us) (sym found.2) failing in
        let failed = part_fails J.circuit (part J i).circuit (part J i).at (part J i).first_latch (part J i).first_node (is.stand i h) found.0 found.1 xs us held in
        own_joins J is i h (source i) xs vs us (long_failing J.circuit cell (init_state J.circuit) xs us failing)
        (works_but J ((part J i).at found.0) (off_tree J is i found.0 h (place_of (part J i).circuit found.0) found.1) (init_state J.circuit) xs us held)
        (own_cell (source i) (part J i).circuit (part J i).plan found.0 w (inputs_over (part J i) xs) (run_over (part J i) vs) (run_over (part J i) us)
        (secure i h) found.1 (alone J is i w xs vs h run) failed)
    alarmed cell i w xs vs us c h run failing (inr off) =
        let long = (long_marks J.circuit NoFault (init_state J.circuit) w xs vs run).0 in
        let first = alone J is i w xs vs h run in
        let second = untouched cell i w xs us c h off long failing in
        let one = part_one_run (part J i).circuit (part J i).plan (source i) (secure i h) w (inputs_over (part J i) xs)
        (long ∙ sym (length-map xs (part_inputs (part J i).circuit (part J i).at))) in
        right_joins J is i h (source i) xs vs us (long_failing J.circuit cell (init_state J.circuit) xs us failing)
        (sized_but J.circuit cell (init_state J.circuit) xs us failing)
        (runs_same (part J i).circuit NoFault w (inputs_over (part J i) xs) (run_over (part J i) vs) (run_over (part J i) us) one first second)
        (own_follows i h w xs vs run)

-- ---- each listed fault

-- a listed fault of the joint at a cell of the part is a listed fault of the part
record PartFault (J : JointOf) (i : ℕ) (f : StuckAt) : Type 0 where
  fault : StuckAt
  listed : IsTrue (is_listed (part J i).circuit fault)
  acts : ActsAs (part J i).circuit (part J i).at f fault

part_fault : (J : JointOf) (is : IsJoint J) (i : ℕ) → i < length J.parts → (f : StuckAt) → IsTrue (is_listed J.circuit f)
    → IsOfPart (part J i).circuit (part J i).at (fault_cell f) → PartFault J i f
part_fault J is i h NoFault listed found = absurd (cc)
part_fault J is i h (Stem net held) listed found = record {
  fault = Stem found.0 held;
  listed = stem_listed J.circuit (part J i).circuit (part J i).at (part J i).first_latch (part J i).first_node (is.stand i h) found.0 held found.1;
  acts = subst (λ n. ActsAs (part J i).circuit (part J i).at (Stem n held) (Stem found.0 held)) found.2
      (stem_acts J.circuit (part J i).circuit (part J i).at (part J i).first_latch (part J i).first_node (is.stand i h) found.0 held found.1);
}
part_fault J is i h (Pin driver index held) listed found = record {
  fault = Pin found.0 index held;
  listed = pin_listed J.circuit (part J i).circuit (part J i).at (part J i).first_latch (part J i).first_node (is.stand i h) found.0 index held found.1
      (subst (λ n. IsTrue (is_listed J.circuit (Pin n index held))) (sym found.2) listed);
  acts = subst (λ n. ActsAs (part J i).circuit (part J i).at (Pin n index held) (Pin found.0 index held)) found.2
      (pin_acts J.circuit (part J i).circuit (part J i).at (part J i).first_latch (part J i).first_node (is.stand i h) found.0 index held found.1);
}

-- a part's own listed fault
own_fault : (source : PartSource) (N : Circuit) (P : CodePlan) (f : StuckAt) (w : List Bool) (xs vs us : List (List Bool)) → IsPartFaultSecure source N P
    → IsTrue (is_listed N f) → Runs N NoFault w xs vs → Runs N f w xs us → OwnAlarm source N P xs vs us
own_fault (Logical M) N P f w xs vs us secure listed run held = (secure.flagged f w xs vs us listed run held).no_silent_error
own_fault (Registers S) N P f w xs vs us secure listed run held = λ m ws own.
    alike_silent secure.whole.plan P secure.alike S N xs ws us (secure.secure.alarmed f w m w xs ws vs us listed own run held)

-- a joint of parts that are secure for their sources against each listed fault is so for all of them
pub fault_secure_parts_join : FaultSecurePartsJoin
fault_secure_parts_join source J is acyclic secure = record {
  source_runs = λ i h. fault_part_source_runs (part J i).circuit (part J i).plan (source i) (secure i h);
  one_run = λ f w xs listed sized. one_run J.circuit f w xs acyclic sized;
  alone = λ i w xs vs h run. alone J is i w xs vs h run;
  shown = λ i w xs vs h run. shown_over J is i h w xs vs run;
  follows = λ i w xs vs h run. follows_joins J is i h (source i) w xs vs run (own_follows i h w xs vs run);
  quiet = λ w xs vs run. quiet_joins J is w xs vs run (λ i h.
      fault_part_quiet (part J i).circuit (part J i).plan (source i) (secure i h) w (inputs_over (part J i) xs) (run_over (part J i) vs) (alone J is i w xs vs h run));
  alarmed = λ f i w xs vs us listed h run held. alarmed f i w xs vs us listed h run held (of_part_or_not (part J i).circuit (part J i).at (fault_cell f));
}
  where
    own_follows : (i : ℕ) → i < length J.parts → (w : List Bool) (xs vs : List (List Bool)) → Runs J.circuit NoFault w xs vs
        → OwnFollows (source i) (part J i).circuit (part J i).plan (inputs_over (part J i) xs) (run_over (part J i) vs)
    own_follows i h w xs vs run =
        fault_part_follows (part J i).circuit (part J i).plan (source i) (secure i h) w (inputs_over (part J i) xs) (run_over (part J i) vs) (alone J is i w xs vs h run)

    alarmed : (f : StuckAt) (i : ℕ) (w : List Bool) (xs vs us : List (List Bool)) → IsTrue (is_listed J.circuit f) → i < length J.parts
        → Runs J.circuit NoFault w xs vs → Runs J.circuit f w xs us
        → IsOfPart (part J i).circuit (part J i).at (fault_cell f) ⊎ IsNotOfPart (part J i).circuit (part J i).at (fault_cell f)
        → NoSilentOutput (source i) J (part J i) xs vs us
    alarmed f i w xs vs us listed h run held (inl found) =
        let own = part_fault J is i h f listed found in
        let failed = part_runs J.circuit (part J i).circuit (part J i).at (part J i).first_latch (part J i).first_node (is.stand i h) f own.fault own.acts w xs us held in
        own_joins J is i h (source i) xs vs us (long_marks J.circuit f (init_state J.circuit) w xs us held).1
        (works_under J f (λ j from below. fault_at f _ (λ e. off_tree J is i found.0 h (place_of (part J i).circuit found.0) found.1 j from (e ∙ sym found.2)))
        (init_state J.circuit) w xs us held)
        (own_fault (source i) (part J i).circuit (part J i).plan own.fault w (inputs_over (part J i) xs) (run_over (part J i) vs) (run_over (part J i) us)
        (secure i h) own.listed (alone J is i w xs vs h run) failed)
    alarmed f i w xs vs us listed h run held (inr off) =
        let long = (long_marks J.circuit NoFault (init_state J.circuit) w xs vs run).0 in
        let first = alone J is i w xs vs h run in
        let acts = off_acts J.circuit (part J i).circuit (part J i).at (part J i).first_latch (part J i).first_node (is.stand i h) f (listed_at J.circuit f listed).no_input off in
        let second = part_runs J.circuit (part J i).circuit (part J i).at (part J i).first_latch (part J i).first_node (is.stand i h) f NoFault acts w xs us held in
        let one = fault_part_one_run (part J i).circuit (part J i).plan (source i) (secure i h) w (inputs_over (part J i) xs)
        (long ∙ sym (length-map xs (part_inputs (part J i).circuit (part J i).at))) in
        right_joins J is i h (source i) xs vs us (long_marks J.circuit f (init_state J.circuit) w xs us held).1
        (sized_under J.circuit f (init_state J.circuit) w xs us held)
        (runs_same (part J i).circuit NoFault w (inputs_over (part J i) xs) (run_over (part J i) vs) (run_over (part J i) us) one first second)
        (own_follows i h w xs vs run)

-- a joint that is secure for the sources against any one failing cell is so against each listed fault
pub source_cells_cover_faults : SourceCellsCoverFaults
source_cells_cover_faults source J acyclic secure = record {
  source_runs = secure.source_runs;
  one_run = λ f w xs listed sized. one_run J.circuit f w xs acyclic sized;
  alone = secure.alone;
  shown = secure.shown;
  follows = secure.follows;
  quiet = secure.quiet;
  alarmed = λ f i w xs vs us listed h run held.
      let failing = listed_faults_are_failing_cells J.circuit f w xs us listed held in
      secure.alarmed failing.cell i w xs vs us failing.is_cell h run failing.runs;
}

-- ---- which parts are secure

pub cell_secure_is_part : CellSecureIsPart
cell_secure_is_part M N P secure = cell_secure_is_alarm_secure M N P secure

pub register_secure_is_part : RegisterSecureIsPart
register_secure_is_part S N P Q alike secure = record { whole = P; alike = alike; secure = register_secure_is_alarm_secure S N P secure }

pub register_fault_secure_is_part : RegisterFaultSecureIsPart
register_fault_secure_is_part S N P Q alike secure = record {
  whole = P;
  alike = alike;
  secure = record {
    source_runs = secure.source_runs;
    one_run = secure.one_run;
    one_run_under = secure.one_run_under;
    follows = secure.follows;
    quiet = secure.quiet;
    alarmed = λ f h m w xs ws vs us listed source run held. (secure.heard f h m w xs ws vs us listed source run held).no_wrong_output;
  };
}

-- ---- where every source is logic

pub logical_cells_join : LogicalCellsJoin
logical_cells_join M J secure = record {
  one_run = secure.one_run;
  one_run_but = secure.one_run_but;
  alone = secure.alone;
  quiet = secure.quiet;
  untouched = secure.untouched;
  flagged = secure.alarmed;
}

pub logical_faults_join : LogicalFaultsJoin
logical_faults_join M J secure = record {
  one_run = secure.one_run;
  alone = secure.alone;
  quiet = secure.quiet;
  flagged = secure.alarmed;
}
