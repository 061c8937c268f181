use Rattle.std.proofs.Common.{rules, ◌≡◌, Some}
use Rattle.refusals.specs.declared.ending.Ending.TheVariants.{Finished, Rejected}
use Rattle.tsc_tool.proofs.CauseLemmas.{fulfilled_so}
use Rattle.tsc_tool.proofs.CompleteLemmas.{stopped_complete}
use Rattle.tsc_tool.proofs.StoppedCause.{stopped_cause}
use Rattle.commands.specs.Meaning.{meaning}
use Rattle.tsc_tool.proofs.running.run.Goals as goal

pub returns-in-Ok-Finished-clause-cause : goal.returns-in-Ok-Finished-clause-cause
returns-in-Ok-Finished-clause-cause g c = record {
  request = c.in-Ok-Some.request;
  meant = search rules;
  fulfilled = fulfilled_so c.in-Ok-Finished.field-0 Finished _ _ _ c.in-Ok-Finished.field-0-is c.in-Ok-Finished.ensures.done;
  quiet = search rules;
}

pub returns-in-Ok-Rejected-clause-cause : goal.returns-in-Ok-Rejected-clause-cause
returns-in-Ok-Rejected-clause-cause g c = record {
  request = c.in-Ok-Some.request;
  meant = search rules;
  fulfilled = fulfilled_so c.in-Ok-Rejected.field-0 Rejected _ _ _ c.in-Ok-Rejected.field-0-is c.in-Ok-Rejected.ensures.done;
  quiet = search rules;
}

pub returns-in-Err-fulfil-clause-complete : goal.returns-in-Err-fulfil-clause-complete
returns-in-Err-fulfil-clause-complete g c =
    let meant : meaning c.args.words.now ≡ Some c.in-Ok-Some.request = search rules in
    stopped_complete _ _ c.in-Ok-Some.request c.in-Err-fulfil.refusal _ meant c.in-Err-fulfil.ensures.stopped c.refuse-in-Err-fulfil.ensures.tells

pub returns-in-Err-fulfil-clause-cause : goal.returns-in-Err-fulfil-clause-cause
returns-in-Err-fulfil-clause-cause g c =
    let meant : meaning c.args.words.now ≡ Some c.in-Ok-Some.request = search rules in
    stopped_cause _ _ c.in-Ok-Some.request c.in-Err-fulfil.refusal _ meant c.in-Err-fulfil.ensures.stopped c.refuse-in-Err-fulfil.ensures.tells
