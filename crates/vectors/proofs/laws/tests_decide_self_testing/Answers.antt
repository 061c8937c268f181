use Rattle.vectors.proofs.SelfTesting.{tests_decide}
use Rattle.vectors.proofs.laws.tests_decide_self_testing.Goals as goal

pub returns : goal.returns
returns c = record { decide = tests_decide }
