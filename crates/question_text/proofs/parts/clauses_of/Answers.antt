use Rattle.std.proofs.Common.{◌≡◌, [], take, sym, ap, ◌∙◌}
use Rattle.std.proofs.lemmas.List.{take-map}
use Rattle.tsc_net.specs.PlanView.{net_numbers}
use Rattle.question_text.specs.Gates.{after_clauses}
use Rattle.question_text.specs.Whole.{clauses_over}
use Rattle.question_text.proofs.Once.{after_clauses-written}
use Rattle.question_text.proofs.parts.clauses_of.Goals as goal

pub returns : goal.returns
returns c =
    let C = c.args.source.now.circuit in
    let N = c.args.net.now.circuit in
    let n = c.args.numbers.now in
    let list = c.outputs.result.now in
    let shown : net_numbers (take c.args.outputs list) ≡ take c.args.outputs N.outputs =
    sym (take-map (λ net. net.number) c.args.outputs list) ∙ ap (take c.args.outputs) c.outputs.ensures.outputs in
    record {
      clauses =
          c.in_ok-push_clauses.ensures.clauses
          ∙ ap (λ nets. after_clauses c.new-out.result (clauses_over n C N c.args.groups.now c.args.rails.0.number c.args.rails.1.number nets)) shown
          ∙ ap (λ out. after_clauses out (clauses_over n C N c.args.groups.now c.args.rails.0.number c.args.rails.1.number (take c.args.outputs N.outputs))) c.new-out.ensures.empty
          ∙ after_clauses-written [] (clauses_over n C N c.args.groups.now c.args.rails.0.number c.args.rails.1.number (take c.args.outputs N.outputs));
    }
