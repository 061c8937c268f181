-- What a synthesis answers, twice in a row, is a mapping of itself: the statements of the laws.
use Rattle.std.specs.Prelude.{◌≡◌, ℕ, List, ◌++◌, None}
use Rattle.fault_secure.specs.declared.code.Code.{Code}
use Rattle.synth_ways.specs.declared.way.Way.{Way}
use Rattle.commands.specs.declared.command.Command.TheVariants.{AuditMapped}
use Rattle.mapping_answers.specs.MappedText.{yes_text}
use Rattle.answers.specs.Commands.{IsAnswer, IsNo, PassesLimit, refusal_of}
use Rattle.answers.specs.Answers.{IsLooseSynthesis, IsSynthesis, IsMachineSynthesis}

-- of the answer twice in a row `audit mapped` refuses nothing, it answers `yes`, and never `no`, and no limit of its stops it
pub record IsItsOwnMapping (answer : List ℕ) : Type 0 where
  pub allowed : refusal_of AuditMapped (answer ++ answer) ≡ None
  pub yes : IsAnswer AuditMapped (answer ++ answer) yes_text
  pub never_no : (reply : List ℕ) → IsNo AuditMapped (answer ++ answer) reply → ⊥
  pub no_limit : PassesLimit AuditMapped (answer ++ answer) → ⊥

-- so it is of whatever a synthesis answers to a network
abbrev pub AnswersAreTheirOwnMappings : Type 0
AnswersAreTheirOwnMappings = (way : Way) (text answer : List ℕ) → IsSynthesis way text answer → IsItsOwnMapping answer

-- and to a machine
abbrev pub MachineAnswersAreTheirOwnMappings : Type 0
MachineAnswersAreTheirOwnMappings = (code : Code) (text answer : List ℕ) → IsMachineSynthesis code text answer → IsItsOwnMapping answer

-- and to a network with free bits
abbrev pub LooseAnswersAreTheirOwnMappings : Type 0
LooseAnswersAreTheirOwnMappings = (way : Way) (text answer : List ℕ) → IsLooseSynthesis way text answer → IsItsOwnMapping answer
