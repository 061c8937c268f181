use Rattle.refined_laws.proofs.RefinedAnswers.{refined_answers_are_secure}
use Rattle.refined_laws.proofs.laws.refined_answers_are_secure.Goals as goal

pub returns : goal.returns
returns c = record { secure = refined_answers_are_secure }
