use Rattle.std.proofs.Common.{subst}
use Rattle.fault_secure.specs.CodePlan.{IsWellMade}
use Rattle.vectors.specs.declared.vec_error.VecError.TheVariants.{TooManyPoints}
use Rattle.netlist_answers.proofs.VectorLemmas.{few_inputs, not_err}
use Rattle.netlist_answers.proofs.testing.tests_of.Goals as goal

pub returns-in-Ok-clause-inputs : goal.returns-in-Ok-clause-inputs
returns-in-Ok-clause-inputs c =
    few_inputs c.args.net.now.circuit c.args.plan.now (subst IsWellMade c.plan.view_is c.plan.invariant.well_made) (λ more. not_err c.vectors.result c.in-Ok.tests TooManyPoints c.in-Ok.is (c.vectors.ensures.too_many.1 more))
