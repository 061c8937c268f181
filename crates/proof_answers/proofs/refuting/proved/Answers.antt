-- The question is one that is asked, and has fewer than 2 ^ 32 variables and clauses; without a fault its answer is yes.
use Rattle.std.proofs.Common.{drop, sym, subst, ◌∙◌}
use Rattle.fault_secure.specs.CodePlan.{IsWellMade}
use Rattle.question_answers.proofs.Asked.{is_asked}
use Rattle.proof_answers.proofs.Few.{clauses_of_small, variables_of_small}
use Rattle.proof_answers.proofs.Fits.{fault_allowed, fault_refused}
use Rattle.proof_answers.proofs.Proved.{is_proved}
use Rattle.proof_answers.proofs.refuting.proved.Goals as goal

pub refutation_fault-requires-clause-asked : goal.refutation_fault-requires-clause-asked
refutation_fault-requires-clause-asked c =
    is_asked c.args.source.now c.args.net.now c.args.plan.now c.nets-source.ensures.checked c.nets-nets.ensures.checked (subst IsWellMade c.plan.view_is c.plan.invariant.well_made)
    c.requires.plan c.requires.latches c.requires.fits

pub refutation_fault-requires-clause-few : goal.refutation_fault-requires-clause-few
refutation_fault-requires-clause-few c =
    variables_of_small c.args.source.now.circuit c.args.net.now.circuit c.args.plan.now (subst IsWellMade c.plan.view_is c.plan.invariant.well_made) c.requires.fits c.requires.small_source
    c.requires.small c.requires.inputs

pub refutation_fault-requires-clause-few_clauses : goal.refutation_fault-requires-clause-few_clauses
refutation_fault-requires-clause-few_clauses c =
    clauses_of_small c.args.source.now.circuit c.args.net.now.circuit c.args.plan.now (subst IsWellMade c.plan.view_is c.plan.invariant.well_made) c.requires.fits c.requires.small_source
    c.requires.small

pub returns-in-Ok-clause-answers : goal.returns-in-Ok-clause-answers
returns-in-Ok-clause-answers c =
    let asked = is_asked c.args.source.now c.args.net.now c.args.plan.now c.nets-source.ensures.checked c.nets-nets.ensures.checked
    (subst IsWellMade c.plan.view_is c.plan.invariant.well_made) c.requires.plan c.requires.latches c.requires.fits in
    is_proved c.args.source.now c.args.net.now c.args.plan.now (drop c.args.from c.args.lines.now) c.in-Ok.reply.ending c.in-Ok.reply.bytes c.question_decides.ensures.decides
    c.question_decides.ensures.secure asked c.nets-nets.ensures.checked.acyclic c.requires.fits (sym c.in-Ok-None.ensures.fault ∙ c.in-Ok-None.field-0-is)
    (c.in-Ok-None.ensures.refuted c.in-Ok-None.field-0-is) c.in-Ok.ensures.text c.in-Ok.ensures.ending
