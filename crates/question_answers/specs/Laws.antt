-- What a text of a network and a netlist determines: the statement of the law.
use Rattle.std.specs.Prelude.{◌≡◌, ℕ, List}
use Rattle.refusals.specs.declared.ending.Ending.{Ending}
use Rattle.question_answers.specs.QuestionReply.{IsQuestionReply}

-- two replies to one text are the same bytes, and the command ends in the same way
abbrev pub OneQuestionReply : Type 0
OneQuestionReply = (text : List ℕ) (ends also : Ending) (answer other : List ℕ) → IsQuestionReply ends text answer → IsQuestionReply also text other
    → (ends ≡ also) × (answer ≡ other)
