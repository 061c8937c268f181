use Rattle.std.proofs.Common.{refl}
use Rattle.std.proofs.lemmas.Result.{err_from_is_err_and}
use Rattle.netlist_answers.proofs.VectorLemmas.{allowed_points, are_tests, is_vector_list, latches_of_text, nets_of_text, refused_netlist, refused_points}
use Rattle.netlist_answers.proofs.testing.test_vectors.Goals as goal

pub tests_of-requires-clause-latches : goal.tests_of-requires-clause-latches
tests_of-requires-clause-latches c = latches_of_text c.args.text.now c.in_ok-read.read.net c.in_ok-read.ensures.exact c.in_ok-read.ensures.allowed

pub tests_of-requires-clause-nets : goal.tests_of-requires-clause-nets
tests_of-requires-clause-nets c = nets_of_text c.args.text.now c.in_ok-read.read.net c.in_ok-read.ensures.exact c.in_ok-read.ensures.allowed

pub returns-in_err-read-clause-refused : goal.returns-in_err-read-clause-refused
returns-in_err-read-clause-refused c =
    let p = err_from_is_err_and c.from_residual.result c.from_residual.ensures.1 in rw (p.1, p.2) (
    refused_netlist c.args.text.now c.in_err-read.field-0.0 c.in_err-read.ensures.refused)

pub returns-in_err-tests-clause-refused : goal.returns-in_err-tests-clause-refused
returns-in_err-tests-clause-refused c =
    let p = err_from_is_err_and c.from_residual-in_err-tests.result c.from_residual-in_err-tests.ensures.1 in rw (p.1, p.2) (
    refused_points c.args.text.now c.in_ok-read.read.net c.in_ok-read.read.plan c.in_ok-read.ensures.exact c.in_ok-read.ensures.denoted c.in_err-tests.field-0.0
    c.in_ok-read.ensures.allowed c.in_err-tests.ensures.refused)

pub returns-in-Ok-clause-allowed : goal.returns-in-Ok-clause-allowed
returns-in-Ok-clause-allowed c =
    allowed_points c.args.text.now c.in_ok-read.read.net c.in_ok-read.read.plan c.in_ok-read.ensures.exact c.in_ok-read.ensures.denoted
    c.in_ok-read.ensures.allowed c.in_ok-tests.ensures.few

pub returns-in-Ok-clause-net : goal.returns-in-Ok-clause-net
returns-in-Ok-clause-net c = c.in_ok-read.ensures.exact

pub returns-in-Ok-clause-tests : goal.returns-in-Ok-clause-tests
returns-in-Ok-clause-tests c =
    are_tests c.args.text.now c.in_ok-read.read.net c.in_ok-read.read.plan c.in_ok-read.ensures.exact c.in_ok-read.ensures.denoted
    c.in_ok-tests.tests c.in_ok-tests.ensures.tests

pub returns-in-Ok-clause-answers : goal.returns-in-Ok-clause-answers
returns-in-Ok-clause-answers c =
    is_vector_list c.args.text.now c.in_ok-read.read.net c.in_ok-read.read.plan c.in_ok-read.ensures.exact c.in_ok-read.ensures.denoted
    c.in_ok-tests.tests _ c.in_ok-tests.ensures.tests refl
