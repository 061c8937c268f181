use Rattle.refutations.proofs.StoreLemmas.{before_low, from_high}
use Rattle.refutations.proofs.clauses.search_bounds.Goals as goal

pub returns-clause-before : goal.returns-clause-before
returns-clause-before c = λ k below.
    before_low c.args.entries.now c.requires.rising c.args.number c.saturating_sub-2.result c.saturating_sub-3.result c.min-high.result c.min-low.result k
    c.saturating_sub-2.ensures c.saturating_sub-3.ensures c.min-low.ensures below

pub returns-clause-from : goal.returns-clause-from
returns-clause-from c = λ k from inside.
    from_high c.args.entries.now c.requires.rising c.args.number c.saturating_sub.result c.min-high.result k c.saturating_sub.ensures c.min-high.ensures from inside
