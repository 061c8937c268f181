-- The text's bytes, then its lines.
use Rattle.std.proofs.Common.{◌≡◌, List, IfOk, subst}
use Rattle.std.proofs.lemmas.Result.{IfErr-weaker, on_ok_weaker}
use Rattle.tsc_text.specs.TextLine.{TextLine}
use Rattle.commands.specs.declared.source_format.SourceFormat.TheVariants.{Blif}
use Rattle.text_sections.specs.Denoted.{behind_source, first_net, net_from, plan_from}
use Rattle.text_sections.specs.Refused.{IsRefusedBy}
use Rattle.wide_answers.specs.WideSections.{wide_lines_refusal, wide_refusal}
use Rattle.wide_answers.proofs.WideLemmas.{allowed_lines, refused_lines}
use Rattle.wide_answers.proofs.judged.judged_netlist.Goals as goal

pub returns-clause-source : goal.returns-clause-source
returns-clause-source c =
    let P : List TextLine → Type 0 = λ l. IfOk c.judged_lines.result (λ read. read.source ≡ first_net l) in
    subst P c.in_ok-lines.ensures.lines c.judged_lines.ensures.source

pub returns-clause-net : goal.returns-clause-net
returns-clause-net c =
    let P : List TextLine → Type 0 = λ l. IfOk c.judged_lines.result (λ read. read.net ≡ net_from l (behind_source Blif l)) in
    subst P c.in_ok-lines.ensures.lines c.judged_lines.ensures.net

pub returns-clause-plan : goal.returns-clause-plan
returns-clause-plan c =
    let P : List TextLine → Type 0 = λ l. IfOk c.judged_lines.result (λ read. read.plan ≡ plan_from l (behind_source Blif l)) in
    subst P c.in_ok-lines.ensures.lines c.judged_lines.ensures.plan

pub returns-clause-allowed : goal.returns-clause-allowed
returns-clause-allowed c =
    on_ok_weaker c.judged_lines.result (λ allowed. allowed_lines c.args.text.now c.in_ok-lines.lines c.in_ok-lines.ensures.lines c.in_ok-lines.ensures.allowed allowed)
    c.judged_lines.ensures.allowed

pub returns-clause-refused : goal.returns-clause-refused
returns-clause-refused c =
    IfErr-weaker c.judged_lines.result (IsRefusedBy (wide_lines_refusal c.in_ok-lines.lines)) (IsRefusedBy (wide_refusal c.args.text.now))
    (λ given refused. refused_lines c.args.text.now c.in_ok-lines.lines given c.in_ok-lines.ensures.lines c.in_ok-lines.ensures.allowed refused)
    c.judged_lines.ensures.refused
