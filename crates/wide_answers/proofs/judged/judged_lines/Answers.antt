-- The network, then the netlist behind it.
use Rattle.wide_answers.proofs.WideLemmas.{allowed_behind, refused_behind}
use Rattle.wide_answers.proofs.judged.judged_lines.Goals as goal

pub returns-in-Ok-netlist_behind-clause-allowed : goal.returns-in-Ok-netlist_behind-clause-allowed
returns-in-Ok-netlist_behind-clause-allowed c =
    allowed_behind c.args.lines.now c.behind_first.result c.behind_first.ensures.behind c.in-Ok.ensures.allowed c.in-Ok-netlist_behind.ensures.allowed

pub returns-in-Err-netlist_behind-clause-refused : goal.returns-in-Err-netlist_behind-clause-refused
returns-in-Err-netlist_behind-clause-refused c =
    refused_behind c.args.lines.now c.behind_first.result c.behind_first.ensures.behind c.in-Ok.ensures.allowed
    c.in-Err-netlist_behind.refusal c.in-Err-netlist_behind.ensures.refused
