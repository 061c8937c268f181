use Rattle.std.proofs.Common.{◌∙◌}
use Rattle.std.proofs.lemmas.Result.{on_ok_weaker}
use Rattle.machine_maker.proofs.DrawnLemmas.{row_left, row_written}
use Rattle.machine_maker.proofs.making.push_row.Goals as goal

pub returns-clause-line : goal.returns-clause-line
returns-clause-line c = on_ok_weaker c.append-2.result (λ ok.
    row_written c.args.place c.args.rng.now c.push_characters.new.rng c.draw.new.rng c.args.text.now c.push_digits.new.text
    c.push_characters.new.text c.push_state.new.text c.push_state-2.new.text c.append.new.self c.push_characters-2.new.text
    c.append-2.new.self c.from.result c.in_ok-push_digits.ensures.digits c.in_ok-push_characters.ensures.text
    c.in_ok-push_characters.ensures.left c.in_ok-push_state.ensures.name (c.from.ensures ∙ c.draw.ensures.drawn) c.draw.ensures.left
    c.in_ok-push_state-2.ensures.name c.in_ok-append.ensures.ok c.in_ok-push_characters-2.ensures.text ok)
    c.append-2.ensures.ok

pub returns-clause-left : goal.returns-clause-left
returns-clause-left c = on_ok_weaker c.append-2.result (λ ok.
    row_left c.args.place c.args.rng.now c.push_characters.new.rng c.draw.new.rng c.push_characters-2.new.rng
    c.in_ok-push_characters.ensures.left c.draw.ensures.left c.in_ok-push_characters-2.ensures.left)
    c.append-2.ensures.ok
