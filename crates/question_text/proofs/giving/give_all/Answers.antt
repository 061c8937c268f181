-- The next clause, then those after it.
use Rattle.std.proofs.Common.{[], ◌∷◌, ◌+◌, List, sym, ap, ◌∙◌, subst, drop, arith}
use Rattle.std.proofs.lemmas.List.Elements.{All-head}
use Rattle.refutations.specs.declared.literal.Literal.{Literal}
use Rattle.refutations.specs.Checking.{AreWithin, with_clause}
use Rattle.question_text.proofs.Given.{clauses_next, left_more, left_next}
use Rattle.question_text.proofs.giving.give_all.Goals as goal

pub give-requires-clause-within : goal.give-requires-clause-within
give-requires-clause-within c =
    let clauses = c.args.clauses.now in
    let i = c.loop-clause.clause-index in
    let state = c.loop-clause.checker in
    let item = c.clause-item.result in
    let can = left_next c.args.checker.now clauses state (drop i clauses) (item ∷ []) (drop (i + 1) clauses) c.loop-clause.invariant
    (clauses_next clauses i item (omega arith) c.clause-item.is) in
    subst (λ (ls : List Literal). AreWithin state.variables ls) (sym c.as_slice.ensures.whole) (All-head (AreWithin state.variables) item [] can.within)

pub loop-clause-preserved : goal.loop-clause-preserved
loop-clause-preserved c =
    let clauses = c.args.clauses.now in
    let i = c.loop-clause.clause-index in
    let state = c.loop-clause.checker in
    let item = c.clause-item.result in
    left_more c.args.checker.now clauses state c.give.new.self (drop i clauses) (item ∷ []) (drop (i + 1) clauses) c.loop-clause.invariant
    (clauses_next clauses i item (omega arith) c.clause-item.is)
    (c.in_ok-give.ensures.given ∙ ap (with_clause state (state.last + 1)) c.as_slice.ensures.whole)
