-- The text's bytes, then its lines.
use Rattle.std.proofs.Common.{◌≡◌, List, IfOk, subst}
use Rattle.std.proofs.lemmas.Result.{IfErr-weaker, on_ok_weaker}
use Rattle.tsc_text.specs.TextLine.{TextLine}
use Rattle.text_sections.specs.Denoted.{first_net}
use Rattle.text_sections.specs.Refused.{IsRefusedBy}
use Rattle.mapping_answers.specs.MappedClocks.{lines_have_other_clock}
use Rattle.mapping_answers.specs.MappedSections.{mapped_lines_refusal, mapped_net, mapped_refusal}
use Rattle.mapping_answers.proofs.MappedLemmas.{allowed_lines, refused_lines}
use Rattle.mapping_answers.proofs.pair.netlist_pair.Goals as goal

pub returns-clause-plain : goal.returns-clause-plain
returns-clause-plain c =
    let P : List TextLine → Type 0 = λ l. IfOk c.pair_of.result (λ pair. pair.plain ≡ first_net l) in
    subst P c.in_ok-lines.ensures.lines c.pair_of.ensures.plain

pub returns-clause-mapped : goal.returns-clause-mapped
returns-clause-mapped c =
    let P : List TextLine → Type 0 = λ l. IfOk c.pair_of.result (λ pair. pair.mapped ≡ mapped_net l) in
    subst P c.in_ok-lines.ensures.lines c.pair_of.ensures.mapped

pub returns-clause-clocks : goal.returns-clause-clocks
returns-clause-clocks c =
    let P : List TextLine → Type 0 = λ l. IfOk c.pair_of.result (λ pair. pair.other_clock ≡ lines_have_other_clock l) in
    subst P c.in_ok-lines.ensures.lines c.pair_of.ensures.clocks

pub returns-clause-allowed : goal.returns-clause-allowed
returns-clause-allowed c =
    on_ok_weaker c.pair_of.result (λ allowed. allowed_lines c.args.text.now c.in_ok-lines.lines c.in_ok-lines.ensures.lines c.in_ok-lines.ensures.allowed allowed)
    c.pair_of.ensures.allowed

pub returns-clause-refused : goal.returns-clause-refused
returns-clause-refused c =
    IfErr-weaker c.pair_of.result (IsRefusedBy (mapped_lines_refusal c.in_ok-lines.lines)) (IsRefusedBy (mapped_refusal c.args.text.now))
    (λ given refused. refused_lines c.args.text.now c.in_ok-lines.lines given c.in_ok-lines.ensures.lines c.in_ok-lines.ensures.allowed refused)
    c.pair_of.ensures.refused
