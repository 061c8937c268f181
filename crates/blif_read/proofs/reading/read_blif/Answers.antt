-- The lines of the section are the text's.
use Rattle.std.proofs.Common.{List, IfErr, ap, arith, rules, subst, sym, ◌∙◌}
use Rattle.std.proofs.lemmas.Result.{err_from_is_err_and}
use Rattle.tsc_text.specs.TextLine.{TextLine, word_count}
use Rattle.blif_read.specs.Denotes.{refusal}
use Rattle.blif_read.specs.Refusal.{IsRefusedBy}
use Rattle.blif_read.proofs.NextLine.{word_count-section}
use Rattle.blif_read.proofs.Refused.{last_refusal, refused_last}
use Rattle.blif_read.proofs.reading.read_blif.Goals as goal

pub read_net-requires : goal.read_net-requires
read_net-requires c = record {
  few = omega (arith, ap word_count c.of-section.ensures.lines, word_count-section c.args.lines.now c.args.section.first c.args.section.past, c.len-lines.ensures.words);
}

pub returns-in_err-net-clause-refused : goal.returns-in_err-net-clause-refused
returns-in_err-net-clause-refused c =
    subst (λ (lines : List TextLine). IfErr c.from_residual.result (IsRefusedBy (refusal c.args.kind lines))) c.of-section.ensures.lines (search rules)

pub returns-in_err-plan-clause-refused : goal.returns-in_err-plan-clause-refused
returns-in_err-plan-clause-refused c =
    let p = err_from_is_err_and c.from_residual-in_err-plan.result c.from_residual-in_err-plan.ensures.1 in rw (p.1, p.2) (
    refused_last c.args.kind c.of-section.result _ c.in_err-plan.field-0.0 c.of-section.ensures.lines c.in_ok-net.ensures.sound c.in_err-plan.ensures.refused)

pub returns-clause-sound : goal.returns-clause-sound
returns-clause-sound c =
    ap (refusal c.args.kind) (sym c.of-section.ensures.lines) ∙ (last_refusal c.args.kind c.of-section.result c.in_ok-net.ensures.sound ∙ c.in_ok-plan.ensures.sound)
