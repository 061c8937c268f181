-- The numbers of a row's words.
use Rattle.std.proofs.Common.{◌∙◌, ap}
use Rattle.tsc_net.specs.Names.{find_text}
use Rattle.tsc_text.specs.TextLine.{the_word}
use Rattle.kiss_read.proofs.RowNumbers.{pattern_of, row_fits, row_is}
use Rattle.kiss_read.proofs.rows.row_at.Goals as goal

pub returns-clause-row : goal.returns-clause-row
returns-clause-row c =
    let line = c.args.line.now in
    row_is c.args.heading c.args.states.now line c.requires.shape c.pattern-input.result c.pattern-outputs.result
    (pattern_of _ (the_word line 0) c.pattern-input.result c.word.ensures.word c.pattern-input.ensures.literals c.pattern-input.ensures.fit)
    (pattern_of _ (the_word line 3) c.pattern-outputs.result c.word-2.ensures.word c.pattern-outputs.ensures.literals c.pattern-outputs.ensures.fit)
    c.state_named-from.result c.state_named-next.result
    (c.state_named-from.ensures.named ∙ ap (find_text c.args.states.now) c.word-3.ensures.word)
    (c.state_named-next.ensures.named ∙ ap (find_text c.args.states.now) c.word-4.ensures.word)
    c.unwrap_or.result c.unwrap_or.ensures c.is_some.result c.is_some.ensures c.number.result

pub returns-clause-fit : goal.returns-clause-fit
returns-clause-fit c =
    let line = c.args.line.now in
    row_fits c.args.heading c.args.states.now line c.requires.shape c.pattern-input.result c.pattern-outputs.result
    (pattern_of _ (the_word line 0) c.pattern-input.result c.word.ensures.word c.pattern-input.ensures.literals c.pattern-input.ensures.fit)
    (pattern_of _ (the_word line 3) c.pattern-outputs.result c.word-2.ensures.word c.pattern-outputs.ensures.literals c.pattern-outputs.ensures.fit)
    c.state_named-from.result c.state_named-next.result
    (c.state_named-from.ensures.named ∙ ap (find_text c.args.states.now) c.word-3.ensures.word)
    (c.state_named-next.ensures.named ∙ ap (find_text c.args.states.now) c.word-4.ensures.word)
    c.unwrap_or.result c.unwrap_or.ensures c.is_some.result c.is_some.ensures c.number.result
    c.state_named-from.ensures.within c.state_named-next.ensures.within c.requires.reset
