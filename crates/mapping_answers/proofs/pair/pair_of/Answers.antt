-- The first netlist, then the one behind it.
use Rattle.mapping_answers.proofs.MappedLemmas.{allowed_behind, refused_behind}
use Rattle.mapping_answers.proofs.pair.pair_of.Goals as goal

pub returns-in-Ok-unplanned_behind-clause-allowed : goal.returns-in-Ok-unplanned_behind-clause-allowed
returns-in-Ok-unplanned_behind-clause-allowed c =
    allowed_behind c.args.lines.now c.behind_first.result c.behind_first.ensures.behind c.in-Ok.ensures.allowed c.in-Ok-unplanned_behind.ensures.allowed

pub returns-in-Err-unplanned_behind-clause-refused : goal.returns-in-Err-unplanned_behind-clause-refused
returns-in-Err-unplanned_behind-clause-refused c =
    refused_behind c.args.lines.now c.behind_first.result c.behind_first.ensures.behind c.in-Ok.ensures.allowed
    c.in-Err-unplanned_behind.refusal c.in-Err-unplanned_behind.ensures.refused
