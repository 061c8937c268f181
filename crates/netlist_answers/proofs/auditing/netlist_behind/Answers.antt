-- The netlist is the last section, which begins behind the source.
use Rattle.std.proofs.Common.{◌<◌, ◌≤◌, length, sym, arith}
use Rattle.blif_read.specs.declared.kinds.Kind.TheVariants.{Netlist}
use Rattle.text_sections.specs.Denoted.{lines_from}
use Rattle.text_sections.specs.Refused.{last_netlist_refusal}
use Rattle.text_sections.proofs.BehindLemmas.{allowed_last, no_netlist, refused_last}
use Rattle.text_sections.proofs.DenotedLemmas.{plan_denoted}
use Rattle.text_sections.proofs.LimitLemmas.{few_latches, few_nets}
use Rattle.text_sections.proofs.SectionLemmas.{section_allowed}
use Rattle.text_sections.proofs.StateLemmas.{last_listed}
use Rattle.netlist_answers.proofs.auditing.netlist_behind.Goals as goal

pub returns-then-from-len-clause-refused : goal.returns-then-from-len-clause-refused
returns-then-from-len-clause-refused c =
    let past : length c.args.lines.now ≤ c.args.from = omega (arith, c.if-from-len.true, c.len.ensures.count) in
    no_netlist (last_netlist_refusal c.args.lines.now c.args.from) c.args.lines.now c.args.from past

pub returns-in-Err-clause-refused : goal.returns-in-Err-clause-refused
returns-in-Err-clause-refused c =
    let there : c.args.from < length c.args.lines.now = omega (arith, c.if-from-len.false, c.len.ensures.count) in
    refused_last (last_netlist_refusal c.args.lines.now c.args.from) c.args.lines.now c.args.from c.in-Err.refusal there c.in-Err.ensures.refused

pub returns-in-Ok-clause-allowed : goal.returns-in-Ok-clause-allowed
returns-in-Ok-clause-allowed c =
    let there : c.args.from < length c.args.lines.now = omega (arith, c.if-from-len.false, c.len.ensures.count) in
    allowed_last (last_netlist_refusal c.args.lines.now c.args.from) c.args.lines.now c.args.from there c.in-Ok.ensures.allowed

pub returns-in-Ok-clause-plan : goal.returns-in-Ok-clause-plan
returns-in-Ok-clause-plan c = sym (plan_denoted c.args.lines.now c.args.from c.in-Ok.read.net c.in-Ok.read.plan c.in-Ok.ensures.exact c.in-Ok.ensures.denoted)

pub returns-in-Ok-clause-latches : goal.returns-in-Ok-clause-latches
returns-in-Ok-clause-latches c =
    few_latches Netlist (lines_from c.args.lines.now c.args.from) c.in-Ok.read.net c.in-Ok.ensures.exact
    (section_allowed Netlist c.args.lines.now c.args.from (last_listed c.args.lines.now c.args.from c.in-Ok.ensures.allowed))

pub returns-in-Ok-clause-nets : goal.returns-in-Ok-clause-nets
returns-in-Ok-clause-nets c =
    few_nets Netlist (lines_from c.args.lines.now c.args.from) c.in-Ok.read.net c.in-Ok.ensures.exact
    (section_allowed Netlist c.args.lines.now c.args.from (last_listed c.args.lines.now c.args.from c.in-Ok.ensures.allowed))
