use Rattle.std.proofs.Common.{[], ◌∷◌, ◌++◌, ◌≡◌, ◌+◌, List, ap, ◌∙◌}
use Rattle.refutations.specs.declared.literal.Literal.{Literal}
use Rattle.tsc_net.specs.PlanView.{net_numbers}
use Rattle.question_text.specs.Gates.{is_zero, is_one, kept, after_clauses}
use Rattle.question_text.specs.Reasons.{ones_from, groups_even}
use Rattle.question_text.specs.Whole.{word_gates, alarm_gates, wrong_of}
use Rattle.question_text.proofs.Once.{both_pushed}
use Rattle.question_text.proofs.parts.push_rest.Goals as goal

pub returns : goal.returns
returns c =
    let C = c.args.source.now.circuit in
    let N = c.args.net.now.circuit in
    let n = c.args.numbers.now in
    let wrong : c.push_word.new.wrong ≡ ones_from n.outputs C.outputs ++ groups_even n.right N.outputs n.groups c.args.groups.now =
    c.in_ok-push_word.ensures.wrong ∙ ap (λ (list : List Literal). list ++ ones_from n.outputs C.outputs ++ groups_even n.right N.outputs n.groups c.args.groups.now) c.new-wrong.ensures.empty in
    record {
      clauses = both_pushed c.args.out.now (word_gates n C N c.args.groups.now)
          (alarm_gates n N.inputs c.args.rails.0.number c.args.rails.1.number (net_numbers c.args.shown.now)) (wrong_of n C N c.args.groups.now)
          c.push_word.new.out c.push_alarm.new.out c.push_last.new.out
          c.in_ok-push_word.ensures.clauses (c.in_ok-push_alarm.ensures.clauses ∙ ap (λ i. after_clauses c.push_word.new.out (alarm_gates n i c.args.rails.0.number c.args.rails.1.number (net_numbers c.args.shown.now))) c.inputs.ensures.count)
          (c.in_ok-push_last.ensures.clauses ∙ ap (λ (list : List Literal). c.push_alarm.new.out ++ kept (list ++ is_zero n.rails ∷ is_one (n.rails + 2) ∷ [])) wrong);
    }
