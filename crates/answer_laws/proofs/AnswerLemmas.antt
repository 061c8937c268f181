-- What a synthesis answers is read by the other commands, and three wrong answers are none.
use Rattle.std.proofs.Common.{◌≡◌, ℕ, Bool, true, false, List, [], length, None, Some, ap, inl, inr}
use Rattle.std.specs.Prelude.{nat_lt, if◌then◌else◌}
use Rattle.std.proofs.lemmas.Bool.{cases_lt, lt-ltb}
use Rattle.std.proofs.lemmas.List.{drop_all}
use Rattle.tsc_text.specs.Bytes.{bad_line}
use Rattle.tsc_text.specs.Lines.{lines_of}
use Rattle.tsc_text.specs.TextLine.{TextLine, the_line}
use Rattle.blif_read.specs.declared.kinds.Kind.TheVariants.{AnyPlan, Netlist}
use Rattle.refusals.specs.declared.text_refusal.TextRefusal.{TextRefusal}
use Rattle.refusals.specs.declared.text_refusal.TextRefusal.TheVariants.{AfterTheEnd}
use Rattle.commands.specs.declared.sim_words.SimFault.TheVariants.{NoFault}
use Rattle.answer_laws.specs.AnswerLaws.{AnswersAreRead, IsNoSynthesis, IsNoSynthesisOf, IsReadByAll, LooseAnswersAreRead, MachineAnswersAreRead, late_answer, two_states, undriven_answer, wide_answer}
use Rattle.text_sections.specs.Denoted.{first_net, first_section, lines_behind, netlist_in, plan_in}
use Rattle.text_sections.specs.Refused.{byte_refusal, first_of, first_refusal, left_over, lines_refusal, text_refusal}
use Rattle.netlist_answers.specs.Refused.{has_too_many_points, points_refusal, run_refusal, shape_refusal, sim_lines_refusal}
use Rattle.sim_text.specs.StepLines.{first_misshapen}
use Rattle.text_sections.proofs.AnyPlans.{any_first, any_text}
use Rattle.text_sections.proofs.SectionLemmas.{allowed_both, none_first, none_later}
use Rattle.text_sections.proofs.StateLemmas.{listed_text}

pub some_left : (b : Bool) (refusal : TextRefusal) → b ≡ true → (if b then Some refusal else None) ≡ None → ⊥
some_left true refusal is e = cc
some_left false refusal is e = cc

-- where nothing is left over, no line stands behind the first section
none_behind : (lines : List TextLine) → left_over lines ≡ None → lines_behind lines ≡ []
none_behind lines none = elim (cases_lt (first_section lines).next (length lines)) [
  | inl left ↦ absurd (some_left (nat_lt (first_section lines).next (length lines)) (AfterTheEnd (the_line lines (first_section lines).next).number) (lt-ltb (first_section lines).next (length lines) left) none)
  | inr past ↦ drop_all (first_section lines).next lines past
]

-- a text that nothing refuses as a netlist is read by all commands that read one
read_by_all : (answer : List ℕ) → text_refusal Netlist answer ≡ None → IsReadByAll answer
read_by_all answer readable =
    let lines = lines_of answer in
    let all : lines_refusal Netlist lines ≡ None = none_later (byte_refusal (bad_line answer)) (lines_refusal Netlist lines) readable in
    let bytes : byte_refusal (bad_line answer) ≡ None = none_first (byte_refusal (bad_line answer)) (lines_refusal Netlist lines) readable in
    let section : first_refusal Netlist lines ≡ None = none_first (first_refusal Netlist lines) (left_over lines) all in
    let behind : lines_behind lines ≡ [] = none_behind lines (none_later (first_refusal Netlist lines) (left_over lines) all) in
    let steps : run_refusal NoFault (first_net lines) (lines_behind lines) ≡ None =
    ap (λ steps. shape_refusal (first_misshapen (first_net lines).circuit.inputs steps)) behind in
    record {
      faults = any_text answer readable;
      tested = ap (λ first. first_of first (points_refusal (has_too_many_points (netlist_in answer).circuit (plan_in answer)))) (listed_text answer readable);
      simulated = allowed_both (byte_refusal (bad_line answer)) (sim_lines_refusal NoFault lines) bytes
          (allowed_both (first_refusal AnyPlan lines) (run_refusal NoFault (first_net lines) (lines_behind lines)) (any_first lines section) steps);
    }

pub answers_are_read : AnswersAreRead
answers_are_read way text answer made = read_by_all answer made.readable

pub machine_answers_are_read : MachineAnswersAreRead
machine_answers_are_read code text answer made = read_by_all answer made.readable

pub loose_answers_are_read : LooseAnswersAreRead
loose_answers_are_read way text answer made = read_by_all answer made.readable

-- a name that nothing drives, and a row of another width, are refused
pub undriven_is_refused : IsNoSynthesis undriven_answer
undriven_is_refused way text made = let readable = made.readable in cc

pub wide_is_refused : IsNoSynthesis wide_answer
wide_is_refused way text made = let readable = made.readable in cc

-- a machine whose latches hold another state's word at first is another machine
pub late_is_refused : IsNoSynthesisOf two_states late_answer
late_is_refused code made = let reset = made.secure.exact.reset in cc
