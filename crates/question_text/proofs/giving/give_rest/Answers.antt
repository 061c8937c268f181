use Rattle.std.proofs.Common.{◌∙◌}
use Rattle.tsc_net.specs.PlanView.{net_numbers}
use Rattle.question_text.specs.Whole.{rest_over}
use Rattle.question_text.proofs.Given.{can_made, made_given}
use Rattle.question_text.proofs.giving.give_rest.Goals as goal

pub give_all-requires : goal.give_all-requires
give_all-requires c =
    let gates = rest_over c.args.numbers.now c.args.source.now.circuit c.args.net.now.circuit c.args.groups.now c.args.rails.0.number c.args.rails.1.number (net_numbers c.args.shown.now) in
    record {
      can = can_made c.args.checker.now c.new-some.result c.as_slice.result.now gates c.new-some.ensures.empty (c.as_slice.ensures.whole ∙ c.in_ok-push_rest.ensures.clauses) c.requires.can;
    }

pub returns : goal.returns
returns c =
    let gates = rest_over c.args.numbers.now c.args.source.now.circuit c.args.net.now.circuit c.args.groups.now c.args.rails.0.number c.args.rails.1.number (net_numbers c.args.shown.now) in
    record {
      given = made_given c.args.checker.now c.give_all.new.checker c.new-some.result c.as_slice.result.now gates c.new-some.ensures.empty
          (c.as_slice.ensures.whole ∙ c.in_ok-push_rest.ensures.clauses) c.in_ok-give_all.ensures.given;
    }
