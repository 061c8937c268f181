-- What matters of the lines before a row: how many inputs and outputs there are, how many rows, and their states.
use Rattle.std.specs.Prelude.{◌≡◌, ℕ, ◌+◌, ◌≤◌, List, [], length, Option, None, Some}
use Rattle.tsc_text.specs.TextLine.{TextLine}
use Rattle.table_lines.specs.LineFaults.{number_in}
use Rattle.kiss_read.specs.Selections.{count_in, rows_of, states_of_lines, with_states}
use Rattle.kiss_read.specs.declared.kinds.LineKind.{LineKind}
use Rattle.kiss_read.specs.declared.kinds.LineKind.TheVariants.{Inputs, Outputs, Row}
use Rattle.kiss_read.specs.declared.survey.Survey.{Survey}

-- what is seen of these lines
abbrev pub survey_of : List TextLine → Survey
survey_of lines = record {
  inputs = count_in Inputs lines;
  outputs = count_in Outputs lines;
  rows = length (rows_of lines);
  states = states_of_lines lines;
}

-- what is seen after one more line of this kind
abbrev pub survey_behind : Survey → LineKind → TextLine → Survey
survey_behind survey Inputs line = record survey { inputs = Some (number_in line) }
survey_behind survey Outputs line = record survey { outputs = Some (number_in line) }
survey_behind survey Row line = record survey { rows = survey.rows + 1; states = with_states survey.states line }
survey_behind survey _ line = survey

-- a number of inputs or outputs keeps its limits
abbrev pub IsFewBits : Option ℕ → Type 0
IsFewBits None = Unit {0}
IsFewBits (Some count) = (1 ≤ count) × (count ≤ 64)

-- without a number of inputs and of outputs there is no state
abbrev pub IsHeaded : Option ℕ → Option ℕ → List (List ℕ) → Type 0
IsHeaded None outputs states = states ≡ []
IsHeaded (Some inputs) None states = states ≡ []
IsHeaded (Some inputs) (Some outputs) states = Unit {0}

-- the counts keep their limits
pub record IsWithin (survey : Survey) : Type 0 where
  pub few_inputs : IsFewBits survey.inputs
  pub few_outputs : IsFewBits survey.outputs
  pub few_rows : survey.rows ≤ 16384
  pub few_states : length survey.states ≤ 4096
  pub headed : IsHeaded survey.inputs survey.outputs survey.states
