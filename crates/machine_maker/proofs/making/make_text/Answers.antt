use Rattle.std.proofs.Common.{rules, ◌≡◌}
use Rattle.machine_maker.specs.MadeText.{made_text}
use Rattle.machine_maker.proofs.RowFacts.{text_short}
use Rattle.machine_maker.proofs.making.make_text.Goals as goal

pub returns-clause-short : goal.returns-clause-short
returns-clause-short c = let e : c.append-2.new.self ≡ made_text c.args.number = search rules in rw e (text_short c.args.number)
