-- What is asked at a point is what the trial and the point keep.
use Rattle.std.proofs.Common.{ap, sym, ◌∙◌, length}
use Rattle.std.proofs.lemmas.List.{length-map}
use Rattle.behaviour_audit.proofs.search.reason_at.Goals as goal

pub returns-in-NextState-clause-room : goal.returns-in-NextState-clause-room
returns-in-NextState-clause-room c = record {
  word = c.read_word.ensures.sized ∙ sym (length-map c.args.trial.now.watch.nets (λ net. net.number)) ∙ ap length c.requires.trial.nets;
  chosen = c.requires.room.chosen;
  free = c.requires.room.free;
  free_lanes = c.requires.room.free_lanes;
  lanes = c.requires.room.lanes;
  source_lanes = c.requires.room.source_lanes;
}

pub returns-in-WordAndOutputs-clause-room : goal.returns-in-WordAndOutputs-clause-room
returns-in-WordAndOutputs-clause-room c = record {
  word = c.read_word.ensures.sized ∙ sym (length-map c.args.trial.now.watch.nets (λ net. net.number)) ∙ ap length c.requires.trial.nets;
  chosen = c.choose.ensures.sized ∙ sym c.requires.trial.fit.outputs;
  free = c.choose.ensures.room ∙ sym c.requires.trial.fit.outputs;
  free_lanes = c.requires.room.free_lanes;
  lanes = c.shown_reason.ensures.lanes ∙ c.requires.room.lanes;
  source_lanes = c.requires.room.source_lanes;
}

pub read_word-requires-clause-sized : goal.read_word-requires-clause-sized
read_word-requires-clause-sized c = c.requires.room.word ∙ sym (ap length c.requires.trial.nets) ∙ length-map c.args.trial.now.watch.nets (λ net. net.number)

pub next_reason-requires-clause-sized : goal.next_reason-requires-clause-sized
next_reason-requires-clause-sized c =
    ap length c.as_slice.ensures.whole ∙ c.read_word.ensures.sized ∙ sym (length-map c.args.trial.now.watch.nets (λ net. net.number)) ∙ ap length c.requires.trial.nets

pub choose-requires-clause-sized : goal.choose-requires-clause-sized
choose-requires-clause-sized c = c.requires.room.chosen ∙ c.requires.trial.fit.outputs

pub shown_reason-requires-clause-sized : goal.shown_reason-requires-clause-sized
shown_reason-requires-clause-sized c =
    ap length c.as_slice-in-WordAndOutputs.ensures.whole ∙ c.read_word.ensures.sized ∙ sym (length-map c.args.trial.now.watch.nets (λ net. net.number)) ∙ ap length c.requires.trial.nets

pub shown_reason-requires-clause-room : goal.shown_reason-requires-clause-room
shown_reason-requires-clause-room c = ap length c.as_slice-in-WordAndOutputs-2.ensures.whole ∙ c.choose.ensures.sized ∙ sym c.requires.trial.fit.outputs
