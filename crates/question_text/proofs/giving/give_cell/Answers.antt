use Rattle.std.proofs.Common.{◌++◌, List, sym, ap, ◌∙◌}
use Rattle.fault_secure.specs.Circuit.{node}
use Rattle.refutations.specs.declared.literal.Literal.{Literal}
use Rattle.question_text.specs.Failing.{cell_at, cell_gates, choice_gates}
use Rattle.question_text.specs.Gates.{after_clauses}
use Rattle.question_text.proofs.Given.{can_made, made_given}
use Rattle.question_text.proofs.Once.{after_clauses-append}
use Rattle.question_text.proofs.giving.give_cell.Goals as goal

pub give_all-requires : goal.give_all-requires
give_all-requires c =
    let N = c.args.net.now.circuit in
    let first = cell_gates c.args.numbers.now c.args.right N.inputs c.args.cells.now (cell_at c.args.cells.now c.args.place) (node N c.args.place) in
    let second = choice_gates c.args.cells.now c.args.place in
    let none = c.new-some.result in
    let made = c.as_slice.ensures.whole ∙ c.in_ok-push_choice.ensures.clauses ∙ ap (λ (out : List (List Literal)). after_clauses out second) c.in_ok-push_cell.ensures.clauses
    ∙ sym (after_clauses-append none first second) in
    record { can = can_made c.args.checker.now none c.as_slice.result.now (first ++ second) c.new-some.ensures.empty made c.requires.can }

pub returns : goal.returns
returns c =
    let N = c.args.net.now.circuit in
    let first = cell_gates c.args.numbers.now c.args.right N.inputs c.args.cells.now (cell_at c.args.cells.now c.args.place) (node N c.args.place) in
    let second = choice_gates c.args.cells.now c.args.place in
    let none = c.new-some.result in
    let made = c.as_slice.ensures.whole ∙ c.in_ok-push_choice.ensures.clauses ∙ ap (λ (out : List (List Literal)). after_clauses out second) c.in_ok-push_cell.ensures.clauses
    ∙ sym (after_clauses-append none first second) in
    record { given = made_given c.args.checker.now c.give_all.new.checker none c.as_slice.result.now (first ++ second) c.new-some.ensures.empty made c.in_ok-give_all.ensures.given }
