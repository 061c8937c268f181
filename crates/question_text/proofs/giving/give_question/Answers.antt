-- The copies, then the rest.
use Rattle.std.proofs.Common.{List, refl, sym, ap, ◌∙◌, subst, arith}
use Rattle.std.proofs.lemmas.Result.{on_ok_weaker}
use Rattle.refutations.specs.declared.literal.Literal.{Literal}
use Rattle.tsc_net.specs.PlanView.{net_numbers}
use Rattle.exact_question.specs.Rows.{written}
use Rattle.question_text.specs.declared.numbers.Numbers.{Numbers}
use Rattle.question_text.specs.Failing.{CellsHaveRoom}
use Rattle.question_text.specs.Giving.{CanBeGiven, given}
use Rattle.question_text.specs.Nodes.{HasRoom}
use Rattle.question_text.specs.Whole.{alarm_gates, copies_gates, rest_over, word_gates, wrong_of}
use Rattle.question_text.proofs.Ends.{firsts_rise}
use Rattle.question_text.proofs.Given.{can_one, can_two, two_given}
use Rattle.question_text.proofs.Once.{before_all}
use Rattle.question_text.proofs.Rooms.{source_room, right_room, failing_room}
use Rattle.question_text.proofs.giving.give_question.Goals as goal

pub give_copies-requires-clause-source_room : goal.give_copies-requires-clause-source_room
give_copies-requires-clause-source_room c =
    let C = c.args.source.now.circuit in
    subst (λ (n : Numbers). HasRoom n.source C) (sym c.requires.numbers) (source_room C c.args.net.now.circuit c.args.groups.now c.requires.few c.requires.source_latches)

pub give_copies-requires-clause-right_room : goal.give_copies-requires-clause-right_room
give_copies-requires-clause-right_room c =
    let N = c.args.net.now.circuit in
    subst (λ (n : Numbers). HasRoom n.right N) (sym c.requires.numbers) (right_room c.args.source.now.circuit N c.args.groups.now c.requires.few c.requires.latches)

pub give_copies-requires-clause-failing_room : goal.give_copies-requires-clause-failing_room
give_copies-requires-clause-failing_room c =
    let N = c.args.net.now.circuit in
    subst (λ (n : Numbers). CellsHaveRoom n.cells N) (sym c.requires.numbers) (failing_room c.args.source.now.circuit N c.args.groups.now c.requires.few)

pub give_rest-requires-clause-outputs_room : goal.give_rest-requires-clause-outputs_room
give_rest-requires-clause-outputs_room c =
    let rise = firsts_rise c.args.source.now.circuit c.args.net.now.circuit c.args.groups.now in
    let first = ap (λ (n : Numbers). n.outputs) c.requires.numbers in
    omega (arith, first, rise.2, c.requires.few)

pub give_copies-requires-clause-can : goal.give_copies-requires-clause-can
give_copies-requires-clause-can c =
    let C = c.args.source.now.circuit in
    let N = c.args.net.now.circuit in
    let n = c.args.numbers.now in
    let groups = c.args.groups.now in
    let rail1 = c.args.rails.0.number in
    let rail2 = c.args.rails.1.number in
    let shown = net_numbers c.args.shown.now in
    let first = copies_gates n C N in
    let rest = rest_over n C N groups rail1 rail2 shown in
    let same = before_all first (word_gates n C N groups) (alarm_gates n N.inputs rail1 rail2 shown) (wrong_of n C N groups) in
    let all = subst (λ (g : List (List Literal)). CanBeGiven c.args.checker.now (written g)) (sym same) c.requires.can in
    can_one c.args.checker.now first rest all first refl

pub give_rest-requires-clause-can : goal.give_rest-requires-clause-can
give_rest-requires-clause-can c =
    let C = c.args.source.now.circuit in
    let N = c.args.net.now.circuit in
    let n = c.args.numbers.now in
    let groups = c.args.groups.now in
    let rail1 = c.args.rails.0.number in
    let rail2 = c.args.rails.1.number in
    let shown = net_numbers c.args.shown.now in
    let first = copies_gates n C N in
    let rest = rest_over n C N groups rail1 rail2 shown in
    let same = before_all first (word_gates n C N groups) (alarm_gates n N.inputs rail1 rail2 shown) (wrong_of n C N groups) in
    let all = subst (λ (g : List (List Literal)). CanBeGiven c.args.checker.now (written g)) (sym same) c.requires.can in
    can_two c.args.checker.now first rest all c.give_copies.new.checker first rest refl refl c.in_ok-give_copies.ensures.given

pub returns : goal.returns
returns c =
    let C = c.args.source.now.circuit in
    let N = c.args.net.now.circuit in
    let n = c.args.numbers.now in
    let groups = c.args.groups.now in
    let rail1 = c.args.rails.0.number in
    let rail2 = c.args.rails.1.number in
    let shown = net_numbers c.args.shown.now in
    let first = copies_gates n C N in
    let rest = rest_over n C N groups rail1 rail2 shown in
    let same = before_all first (word_gates n C N groups) (alarm_gates n N.inputs rail1 rail2 shown) (wrong_of n C N groups) in
    let all = subst (λ (g : List (List Literal)). CanBeGiven c.args.checker.now (written g)) (sym same) c.requires.can in
    record {
      given = on_ok_weaker c.give_rest.result (λ last.
          two_given c.args.checker.now first rest all c.give_copies.new.checker c.give_rest.new.checker first rest refl refl c.in_ok-give_copies.ensures.given last
          ∙ ap (λ (g : List (List Literal)). given c.args.checker.now (written g)) same) c.give_rest.ensures.given;
    }
