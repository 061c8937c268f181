-- What `grade` answers, by the laws of grades.
use Rattle.std.proofs.Common.{◌≡◌, ℕ, ◌+◌, ◌<◌, ◌≤◌, Bool, true, List, [], ◌∷◌, length, None, refl, sym, ap, ap₂, ◌∙◌, subst, arith}
use Rattle.std.specs.Prelude.{slice_index_or}
use Rattle.std.proofs.lemmas.List.{length-map}
use Rattle.tsc_text.specs.Bytes.{bad_line}
use Rattle.tsc_text.specs.Lines.{lines_of}
use Rattle.tsc_net.specs.When.{has_step}
use Rattle.tsc_net.specs.declared.when.Span.{Span}
use Rattle.fault_secure.specs.Circuit.{Circuit}
use Rattle.fault_secure.specs.CodePlan.{CodePlan}
use Rattle.fault_secure.specs.Run.{Runs}
use Rattle.fault_secure.specs.Settle.{Acyclic}
use Rattle.fault_secure.specs.StuckAt.{StuckAt}
use Rattle.fault_sim.specs.Calls.{steps_held}
use Rattle.sim_text.specs.StepLines.{all_steps, step_bits}
use Rattle.grading_laws.specs.Grades.{Grade, SilentAt, IsGrade, IsSilentAt, Unseen, every_step}
use Rattle.grading_laws.specs.GradeLaws.{AlarmSecureHasNoSilent, AlarmsAreShown, CellSecureHasNoSilent, FaultSecureHasNoSilent, NoneIsSilent, RegisterAlarmSecureHasNoSilent, RegisterSecureHasNoSilent}
use Rattle.grading_laws.specs.Counts.{EachHasOneGrading, NoSilentIsCounted}
use Rattle.blif_read.specs.declared.kinds.Kind.TheVariants.{AnyPlan}
use Rattle.commands.specs.declared.sim_words.SimFault.TheVariants.{NoFault as NoNamedFault}
use Rattle.text_sections.specs.Denoted.{first_lines, first_net, lines_behind, netlist_in}
use Rattle.text_sections.specs.Refused.{byte_refusal, first_refusal}
use Rattle.text_sections.proofs.SectionLemmas.{first_allowed, none_first, none_later}
use Rattle.netlist_answers.specs.GradeText.{grade_list}
use Rattle.netlist_answers.specs.Refused.{run_refusal, sim_lines_refusal, sim_refusal}
use Rattle.netlist_answers.specs.Simulated.{steps_of}
use Rattle.mapped_laws.specs.MappedLaws.{SectionsAreBuilt}
use Rattle.answer_laws.specs.GradedLaws.{AlarmsAreSimulated, OneGradeReply, SecureTellsNoSilent, TellsNoSilent, any_plan_in, circuit_in, with_latches}

-- ---- one answer

-- a text that nothing refuses has no ring
without_ring : SectionsAreBuilt → (text : List ℕ) → sim_refusal NoNamedFault text ≡ None → Acyclic (circuit_in text)
without_ring built text sound =
    let lines = lines_of text in
    let allowed = none_later (byte_refusal (bad_line text)) (sim_lines_refusal NoNamedFault lines) sound in
    let first = none_first (first_refusal AnyPlan lines) (run_refusal NoNamedFault (first_net lines) (lines_behind lines)) allowed in
    (built AnyPlan (first_lines lines) (first_allowed AnyPlan lines 0 first)).acyclic

pub one_grade_reply : SectionsAreBuilt → EachHasOneGrading → OneGradeReply
one_grade_reply built one text answer other sound is also =
    let N = circuit_in text in
    let xs = all_steps N.inputs (lines_behind (lines_of text)) in
    let grading = one N (any_plan_in text) xs (without_ring built text sound) in
    is.listed
    ∙ (ap (grade_list (netlist_in text)) (grading.only is.grades is.right ∙ sym (grading.only also.grades also.right))
    ∙ sym also.listed)

-- ---- no silent fault

-- a silent error is one, however many registers a plan has as latches: outputs and rails are the same
module _ (N : Circuit) (Q : CodePlan) (latches : ℕ) where
  abbrev counted : CodePlan
  counted = record Q { latches = latches }

  silent_at : (vs us : List (List Bool)) (step : ℕ) → IsSilentAt N Q vs us step → IsSilentAt N counted vs us step
  silent_at vs us step is = record {
    error = record { inside = is.error.inside; wrong = is.error.wrong; first = is.error.first };
    quiet = is.quiet;
  }

  silent_grade : (f : StuckAt) (xs : List (List Bool)) (step : ℕ) → IsGrade N Q f xs (SilentAt step) → IsGrade N counted f xs (SilentAt step)
  silent_grade f xs step is = record {
    right = is.right;
    faulty = is.faulty;
    right_runs = is.right_runs;
    faulty_runs = is.faulty_runs;
    graded = silent_at is.right is.faulty step is.graded;
  }

  none_silent : NoneIsSilent N counted → NoneIsSilent N Q
  none_silent none f xs step listed is = none f xs step listed (silent_grade f xs step is)

module _ (count : NoSilentIsCounted) (text : List ℕ) where
  tells : NoneIsSilent (circuit_in text) (any_plan_in text) → TellsNoSilent text
  tells none answer reply =
      let N = circuit_in text in
      count N (any_plan_in text) (all_steps N.inputs (lines_behind (lines_of text))) reply.grades none reply.right

  -- the same where the plan is that of the text, with so many registers as latches
  tells_of : (P : CodePlan) (latches : ℕ) → P ≡ with_latches latches text → NoneIsSilent (circuit_in text) P → TellsNoSilent text
  tells_of P latches is none =
      let Q : CodePlan → Type 0 = λ p. NoneIsSilent (circuit_in text) p in
      tells (none_silent (circuit_in text) (any_plan_in text) latches (subst Q is none))

pub secure_tells_no_silent : NoSilentIsCounted → FaultSecureHasNoSilent → CellSecureHasNoSilent → AlarmSecureHasNoSilent → RegisterSecureHasNoSilent
    → RegisterAlarmSecureHasNoSilent → SecureTellsNoSilent
secure_tells_no_silent count faults cells alarms registers register_alarms = record {
  faults = λ M text secure. tells count text (faults M (circuit_in text) (any_plan_in text) secure);
  cells = λ M text secure. tells count text (cells M (circuit_in text) (any_plan_in text) secure);
  alarms = λ M text allows secure. tells count text (alarms M (circuit_in text) (any_plan_in text) allows secure);
  registers = λ S P latches text is secure. tells_of count text P.plan latches is (registers S (circuit_in text) P secure);
  register_alarms = λ S P latches text is secure. tells_of count text P.plan latches is (register_alarms S (circuit_in text) P secure);
}

-- ---- alarms are simulated

-- where the spans hold each of these steps the fault is present at every step
held_at_each : (spans : List Span) (from : ℕ) (xs : List (List Bool)) → ((step : ℕ) → from ≤ step → step < from + length xs → has_step spans step ≡ true)
    → steps_held spans from xs ≡ every_step xs
held_at_each spans from [] held = refl
held_at_each spans from (x ∷ xs) held =
    ap₂ (λ (b : Bool) (w : List Bool). b ∷ w) (held from (omega arith) (omega arith))
    (held_at_each spans (from + 1) xs (λ step above below. held step (omega arith) (omega arith)))

pub alarms_are_simulated : SectionsAreBuilt → AlarmsAreShown → AlarmsAreSimulated
alarms_are_simulated built shown text answer printed fault place step sound graded run each inside is alarm =
    let N = circuit_in text in
    let P = any_plan_in text in
    let steps = lines_behind (lines_of text) in
    let xs = all_steps N.inputs steps in
    let held : steps_held (steps_of fault) 0 xs ≡ every_step xs =
    held_at_each (steps_of fault) 0 xs (λ at above below. each at (omega (arith, below, length-map steps (step_bits N.inputs)))) in
    let Q : StuckAt → Type 0 = λ f. IsGrade N P f xs (slice_index_or graded.grades place Unseen) in
    let R : Grade → Type 0 = λ g. IsGrade N P run.stuck xs g in
    let S : List Bool → Type 0 = λ w. Runs N run.stuck w xs run.run.one.run in
    shown N P run.stuck xs run.run.one.run step (without_ring built text sound)
    (subst R alarm (subst Q is (graded.right.each place inside)))
    (subst S held run.run.one.runs)
