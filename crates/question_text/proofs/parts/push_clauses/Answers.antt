use Rattle.std.proofs.Common.{sym, subst, ap, ◌∙◌, arith}
use Rattle.std.proofs.lemmas.Result.{on_ok_weaker}
use Rattle.tsc_net.specs.PlanView.{net_numbers}
use Rattle.question_text.specs.Gates.{after_clauses}
use Rattle.question_text.specs.Whole.{copies_gates, word_gates, alarm_gates, wrong_of, rest_over}
use Rattle.question_text.specs.declared.numbers.Numbers.{Numbers}
use Rattle.question_text.specs.Nodes.{HasRoom}
use Rattle.question_text.specs.Failing.{CellsHaveRoom}
use Rattle.question_text.proofs.Ends.{firsts_rise}
use Rattle.question_text.proofs.Once.{after_clauses-append, before_all}
use Rattle.question_text.proofs.Rooms.{source_room, right_room, failing_room}
use Rattle.question_text.proofs.parts.push_clauses.Goals as goal

pub push_copies-requires-clause-source_room : goal.push_copies-requires-clause-source_room
push_copies-requires-clause-source_room c =
    let C = c.args.source.now.circuit in
    subst (λ (n : Numbers). HasRoom n.source C) (sym c.requires.numbers) (source_room C c.args.net.now.circuit c.args.groups.now c.requires.few c.requires.source_latches)

pub push_copies-requires-clause-right_room : goal.push_copies-requires-clause-right_room
push_copies-requires-clause-right_room c =
    let N = c.args.net.now.circuit in
    subst (λ (n : Numbers). HasRoom n.right N) (sym c.requires.numbers) (right_room c.args.source.now.circuit N c.args.groups.now c.requires.few c.requires.latches)

pub push_copies-requires-clause-failing_room : goal.push_copies-requires-clause-failing_room
push_copies-requires-clause-failing_room c =
    let N = c.args.net.now.circuit in
    subst (λ (n : Numbers). CellsHaveRoom n.cells N) (sym c.requires.numbers) (failing_room c.args.source.now.circuit N c.args.groups.now c.requires.few)

pub push_rest-requires-clause-outputs_room : goal.push_rest-requires-clause-outputs_room
push_rest-requires-clause-outputs_room c =
    let rise = firsts_rise c.args.source.now.circuit c.args.net.now.circuit c.args.groups.now in
    let first = ap (λ (n : Numbers). n.outputs) c.requires.numbers in
    omega (arith, first, rise.2, c.requires.few)

pub returns : goal.returns
returns c =
    let C = c.args.source.now.circuit in
    let N = c.args.net.now.circuit in
    let n = c.args.numbers.now in
    let groups = c.args.groups.now in
    let rail1 = c.args.rails.0.number in
    let rail2 = c.args.rails.1.number in
    let shown = net_numbers c.args.shown.now in
    record {
      clauses = on_ok_weaker c.push_rest.result (λ pushed.
          pushed
          ∙ ap (λ out. after_clauses out (rest_over n C N groups rail1 rail2 shown)) c.in_ok-push_copies.ensures.clauses
          ∙ sym (after_clauses-append c.args.out.now (copies_gates n C N) (rest_over n C N groups rail1 rail2 shown))
          ∙ ap (after_clauses c.args.out.now) (before_all (copies_gates n C N) (word_gates n C N groups) (alarm_gates n N.inputs rail1 rail2 shown) (wrong_of n C N groups)))
          c.push_rest.ensures.clauses;
    }
