-- A text has one joint; and what syntheses answered, one after another, is joined.
use Rattle.std.proofs.Common.{◌≡◌, ℕ, zero, suc, ◌<◌, ◌≤◌, List, [], ◌∷◌, length, map, Option, None, IfSome, refl, sym, ap, subst, ◌∙◌, arith}
use Rattle.std.specs.Prelude.{slice_index_or}
use Rattle.std.specs.List.{concat}
use Rattle.std.proofs.lemmas.List.{length-map}
use Rattle.tsc_text.specs.Lines.{lines_of}
use Rattle.fault_secure.specs.CellSecure.{IsCellSecure}
use Rattle.fault_secure.specs.CodePlan.{CodePlan}
use Rattle.fault_secure.specs.FaultSecure.{IsFaultSecure}
use Rattle.fault_secure.specs.Logic.{Logic}
use Rattle.module_join.specs.JointNet.{PlannedOf}
use Rattle.module_join.specs.JoinLaws.{no_planned, planned}
use Rattle.module_join.specs.JoinParts.{parts_as, planned_as}
use Rattle.commands.specs.declared.command.Command.{Command}
use Rattle.commands.specs.declared.command.Command.TheVariants.{SynthBlif, SynthWatched, SynthKiss, SynthPla}
use Rattle.synth_ways.specs.declared.way.Way.{Way}
use Rattle.synth_ways.specs.declared.way.Way.TheVariants.{Parity, Duplex, Berger, MOutOfN}
use Rattle.commands.specs.declared.source_format.SourceFormat.TheVariants.{Blif}
use Rattle.register_joints.specs.PartSource.{PartSource, Logical, Registers}
use Rattle.text_sections.specs.Denoted.{first_any_plan, netlist_in, plan_in, source_in}
use Rattle.text_sections.specs.Refused.{byte_refusal, first_of}
use Rattle.part_reading.specs.PartRefusal.{parts_refusal, sections_refusal}
use Rattle.part_reading.specs.Parts.{planned_of, sections_behind, sections_of}
use Rattle.part_reading.proofs.PartLemmas.{refused_parts}
use Rattle.joint_answers.specs.JointParts.{join_lines_refusal, join_refusal, joint_refusal, parts_in}
use Rattle.answers.specs.Commands.{IsAnswer}
use Rattle.answers.specs.Answers.{IsBlifSynthesis, IsSynthesis}
use Rattle.joined_laws.specs.JoinedAnswers.{AnswersAreJoined, IsMadeFor, OneJoint, network_source, synthesis_source, twin_source}
use Rattle.joined_laws.proofs.ListedPlans.{same_plan}
use Rattle.joined_laws.proofs.AnswersInARow.{AreWritten, IsWritten, allowed_parts, bytes_in_a_row, parts_in_a_row, planned_in, some_sections}

pub joints_are_determined : OneJoint
joints_are_determined text answer other is also = is.written ∙ sym also.written

-- ---- one answer

-- it was written, and is secure for its source
record IsSecurelyWritten (M : Logic) (answer : List ℕ) : Type 0 where
  written : IsWritten answer
  cells : IsCellSecure M (netlist_in answer).circuit (first_any_plan (lines_of answer))
  secure : IsFaultSecure M (netlist_in answer).circuit (first_any_plan (lines_of answer))

-- of logic; nothing is said of a circuit with registers
abbrev IsSecureAnswer : PartSource → List ℕ → Type 0
IsSecureAnswer (Logical M) answer = IsSecurelyWritten M answer
IsSecureAnswer (Registers S) answer = Unit {0}

-- under the plan that is read where a plan may list no states
securely : (M : Logic) (answer : List ℕ) → IsWritten answer → IsCellSecure M (netlist_in answer).circuit (plan_in answer)
    → IsFaultSecure M (netlist_in answer).circuit (plan_in answer) → IsSecurelyWritten M answer
securely M answer written cells secure =
    let N = (netlist_in answer).circuit in
    let same = sym (same_plan answer written.readable) in
    record {
      written = written;
      cells = subst (λ (P : CodePlan). IsCellSecure M N P) same cells;
      secure = subst (λ (P : CodePlan). IsFaultSecure M N P) same secure;
    }

-- of a network by some way
of_network : (way : Way) (text answer : List ℕ) → IsSynthesis way text answer → IsSecurelyWritten (source_in Blif text) answer
of_network way text answer made =
    securely (source_in Blif text) answer (record { readable = made.readable; written = made.written; structure = made.secure.checking.structure })
    made.secure.cells made.secure.secure

-- of two copies, where there is no register
of_twin : (latches : ℕ) (text answer : List ℕ) → (latches ≡ 0 → IsSynthesis Duplex text answer) → IsSecureAnswer (twin_source latches text) answer
of_twin zero text answer made = of_network Duplex text answer (made refl)
of_twin (suc more) text answer made = tt

of_way : (way : Way) (text answer : List ℕ) → IsBlifSynthesis way text answer → IsSecureAnswer (network_source way text) answer
of_way Parity text answer made = of_network Parity text answer made
of_way Duplex text answer made = of_twin (length (netlist_in text).circuit.latches) text answer made.network
of_way Berger text answer made = of_network Berger text answer made
of_way MOutOfN text answer made = of_network MOutOfN text answer made

of_synthesis : (command : Command) (text answer : List ℕ) → IsAnswer command text answer
    → IfSome (synthesis_source command text) (λ source. IsSecureAnswer source answer)
of_synthesis (SynthBlif way) text answer made = of_way way text answer made
of_synthesis SynthWatched text answer made = of_twin (length (netlist_in text).circuit.latches) text answer made.network
of_synthesis (SynthKiss code) text answer made =
    securely _ answer (record { readable = made.readable; written = made.written; structure = made.secure.checking.structure })
    made.secure.cells made.secure.secure
of_synthesis (SynthPla way) text answer made =
    securely _ answer (record { readable = made.readable; written = made.written; structure = made.secure.checking.structure })
    made.secure.cells made.secure.secure
of_synthesis command text answer made = tt

made_securely : (M : Logic) (answer : List ℕ) → IsMadeFor (Logical M) answer → IsSecurelyWritten M answer
made_securely M answer made =
    let P : Option PartSource → Type 0 = λ given. IfSome given (λ source. IsSecureAnswer source answer) in
    subst P made.denoted (of_synthesis made.command made.text answer made.answers)

all_written : (answers : List (List ℕ)) (M : ℕ → Logic)
    → ((i : ℕ) → i < length answers → IsMadeFor (Logical (M i)) (slice_index_or answers i [])) → AreWritten answers
all_written [] M made = tt
all_written (answer ∷ answers) M made =
    ((made_securely (M 0) answer (made 0 (omega arith))).written, all_written answers (λ i. M (suc i)) (λ i below. made (suc i) (omega (arith, below))))

-- ---- answers one after another
module _ (M : ℕ → Logic) (answers : List (List ℕ)) (some : 0 < length answers) (few : length answers ≤ 64)
    (made : (i : ℕ) → i < length answers → IsMadeFor (Logical (M i)) (slice_index_or answers i [])) where
  abbrev text : List ℕ
  text = concat answers

  are : AreWritten answers
  are = all_written answers M made

  counted : length (sections_behind (lines_of text)) ≡ length answers
  counted =
      sym (length-map (sections_behind (lines_of text)) planned_of) ∙ (ap length (parts_in_a_row answers are) ∙ length-map answers planned_in)

  sections : sections_of (lines_of text) ≡ sections_behind (lines_of text)
  sections = some_sections (lines_of text) (omega (arith, counted, some))

  parts_are : parts_in text ≡ parts_as (map planned_in answers)
  parts_are = ap (λ s. parts_as (map planned_of s)) sections ∙ ap parts_as (parts_in_a_row answers are)

  parts_allowed : parts_refusal (lines_of text) ≡ None
  parts_allowed =
      refused_parts (lines_of text) (omega (arith, counted, few)) ∙ (ap (sections_refusal None) sections ∙ allowed_parts answers are)

  refused : join_refusal text ≡ joint_refusal (parts_in text)
  refused =
      ap (λ bad. first_of (byte_refusal bad) (join_lines_refusal (lines_of text))) (bytes_in_a_row answers are)
      ∙ ap (λ r. first_of r (joint_refusal (parts_in text))) parts_allowed

  parts_counted : length (parts_in text) ≡ length answers
  parts_counted = ap length parts_are ∙ (length-map (map planned_in answers) planned_as ∙ length-map answers planned_in)

  -- the part at a place is the netlist with its plan of the answer there
  part_at : (i : ℕ) → i < length answers → planned (parts_in text) i ≡ planned_as (planned_in (slice_index_or answers i []))
  part_at i below =
      ap (λ parts. slice_index_or parts i no_planned) parts_are ∙ at answers i below
    where
      at : (list : List (List ℕ)) (k : ℕ) → k < length list
          → slice_index_or (parts_as (map planned_in list)) k no_planned ≡ planned_as (planned_in (slice_index_or list k []))
      at [] k inside = absurd (omega (arith, inside))
      at (answer ∷ list) zero inside = refl
      at (answer ∷ list) (suc k) inside = at list k (omega (arith, inside))

  each_secure : (i : ℕ) → i < length (parts_in text) → IsCellSecure (M i) (planned (parts_in text) i).net.circuit (planned (parts_in text) i).plan
  each_secure i inside =
      let below : i < length answers = omega (arith, inside, parts_counted) in
      let P : PlannedOf → Type 0 = λ p. IsCellSecure (M i) p.net.circuit p.plan in
      subst P (sym (part_at i below)) (made_securely (M i) (slice_index_or answers i []) (made i below)).cells

  each_fault_secure : (i : ℕ) → i < length (parts_in text) → IsFaultSecure (M i) (planned (parts_in text) i).net.circuit (planned (parts_in text) i).plan
  each_fault_secure i inside =
      let below : i < length answers = omega (arith, inside, parts_counted) in
      let P : PlannedOf → Type 0 = λ p. IsFaultSecure (M i) p.net.circuit p.plan in
      subst P (sym (part_at i below)) (made_securely (M i) (slice_index_or answers i []) (made i below)).secure

pub answers_are_joined : AnswersAreJoined
answers_are_joined M answers some few made = record {
  refused = refused M answers some few made;
  counted = parts_counted M answers some few made;
  parts = part_at M answers some few made;
  cells = λ joint reply. reply.cells M (each_secure M answers some few made);
  secure = λ joint reply. reply.secure M (each_fault_secure M answers some few made);
}
