-- What `make` answers to a number.
use Rattle.std.specs.Prelude.{ℕ, ◌+◌, ◌*◌, List, [], ◌∷◌, ◌++◌, codes, length, Option}
use Rattle.fault_secure.specs.declared.code.Code.TheVariants.{Berger}
use Rattle.fault_secure.specs.Logic.{StateTable, States}
use Rattle.machine_maker.specs.Counts.{output_ones, points, resets}
use Rattle.machine_maker.specs.MadeText.{made_text}
use Rattle.machine_maker.specs.Summary.{summary_text}
use Rattle.machine_maker.specs.declared.summary.Figures.{Figures}
use Rattle.machine_synth.specs.MachineBound.{check_count, machine_bound, state_weight}
use Rattle.refusals.specs.declared.text_refusal.TextRefusal.{TextRefusal}
use Rattle.text_sections.specs.Denoted.{machine_in}
use Rattle.text_sections.specs.Refused.{first_of}
use Rattle.netlist_answers.specs.Refused.{audit_points_refusal, has_too_many_audit_points}
use Rattle.answers.specs.Refused.{limits_refusal, synth_machine_refusal}

-- the figures of a machine and of its netlist under the Berger code
abbrev pub figures_of : StateTable → Figures
figures_of M = record {
  states = M.states;
  rows = length M.rows;
  inputs = M.inputs;
  outputs = M.outputs;
  checks = check_count Berger M.outputs;
  latches = 2 * state_weight M.states;
  word = M.outputs + check_count Berger M.outputs + 2 * state_weight M.states;
  bound = machine_bound M Berger;
  points = points M;
  ones = output_ones M;
  resets = resets M;
}

-- the six lines on a machine: its figures, and that its netlist is accepted, as each is that a synthesis answers
abbrev pub report_of : ℕ → StateTable → List ℕ
report_of number M = summary_text number (figures_of M) ++ (codes "audit yes" ++ 10 ∷ [])

-- the machine that the text of a number denotes
abbrev pub made_machine : ℕ → StateTable
made_machine number = machine_in (made_text number)

-- what `make` answers to a number
abbrev pub made_report : ℕ → List ℕ
made_report number = report_of number (made_machine number)

-- what a machine is refused for: the limits of its netlist, then the number of its points
abbrev pub machine_limits_refusal : StateTable → Option TextRefusal
machine_limits_refusal M = first_of (limits_refusal Berger M) (audit_points_refusal (has_too_many_audit_points (States M)))

-- what the text of a machine is refused for: as `synth kiss berger` refuses it, then for the number of its points
abbrev pub make_refusal : List ℕ → Option TextRefusal
make_refusal text = first_of (synth_machine_refusal Berger text) (audit_points_refusal (has_too_many_audit_points (States (machine_in text))))
