-- The small question is computed.
use Rattle.std.proofs.Common.{refl}
use Rattle.exact_question.specs.SmallQuestion.{SmallQuestion}

pub small_question : SmallQuestion
small_question = refl
