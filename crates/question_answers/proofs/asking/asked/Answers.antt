-- The question is one that is asked, and has fewer than 2 ^ 32 variables.
use Rattle.std.proofs.Common.{subst, arith}
use Rattle.fault_secure.specs.CodePlan.{IsWellMade}
use Rattle.question_answers.proofs.Asked.{is_asked, is_question}
use Rattle.question_answers.proofs.FewVariables.{few_variables}
use Rattle.question_answers.proofs.asking.asked.Goals as goal

pub question_text-requires-clause-asked : goal.question_text-requires-clause-asked
question_text-requires-clause-asked c =
    is_asked c.args.source.now c.args.net.now c.args.plan.now c.nets-source.ensures.checked c.nets-nets.ensures.checked
    (subst IsWellMade c.plan.view_is c.plan.invariant.well_made) c.requires.plan c.requires.latches c.requires.fits

pub question_text-requires-clause-few : goal.question_text-requires-clause-few
question_text-requires-clause-few c =
    let fits = c.requires.fits.fits in
    few_variables c.args.source.now.circuit c.args.net.now.circuit c.args.plan.now (subst IsWellMade c.plan.view_is c.plan.invariant.well_made) c.requires.fits.parity fits.outputs
    (omega (arith, fits.inputs, c.requires.inputs)) c.requires.small_source c.requires.small

pub returns : goal.returns
returns c =
    let asked = is_asked c.args.source.now c.args.net.now c.args.plan.now c.nets-source.ensures.checked c.nets-nets.ensures.checked
    (subst IsWellMade c.plan.view_is c.plan.invariant.well_made) c.requires.plan c.requires.latches c.requires.fits in
    record {
      answers =
          is_question c.args.source.now c.args.net.now c.args.plan.now c.in_ok-bytes.bytes c.question_decides.ensures.decides c.question_decides.ensures.secure asked
          c.nets-nets.ensures.checked.acyclic c.requires.fits c.in_ok-bytes.ensures.text;
    }
