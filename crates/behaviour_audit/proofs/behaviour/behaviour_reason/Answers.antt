use Rattle.std.proofs.Common.{subst}
use Rattle.fault_secure.specs.CodePlan.{IsWellMade}
use Rattle.tsc_net.specs.SourceView.{logic_of}
use Rattle.behaviour_audit.proofs.AnswerLemmas.{belong_together}
use Rattle.behaviour_audit.proofs.behaviour.behaviour_reason.Goals as goal

pub trial_of-requires-clause-fit : goal.trial_of-requires-clause-fit
trial_of-requires-clause-fit c =
    belong_together (logic_of c.args.source.now) c.args.net.now.circuit c.args.plan.now c.requires.plan (subst IsWellMade c.plan.view_is c.plan.invariant.well_made) c.reset_of-reset.ensures.sound
    c.requires.inputs c.requires.outputs c.requires.states c.requires.latches c.requires.few
