-- The lines of the section are the text's.
use Rattle.std.proofs.Common.{List, ◌-◌, All, IfErr, drop, sym, subst}
use Rattle.std.proofs.lemmas.List.Elements.{All-drop, All-take}
use Rattle.tsc_text.specs.TextLine.{TextLine}
use Rattle.table_lines.specs.Denotes.{HasWords}
use Rattle.kiss_read.specs.Refusal.{refusal, IsRefusedBy}
use Rattle.kiss_read.proofs.reading.read_kiss.Goals as goal

pub returns-clause-words : goal.returns-clause-words
returns-clause-words c = λ written.
    c.read_text.ensures.words
    (subst (λ (lines : List TextLine). All HasWords lines) (sym c.of-section.ensures.lines)
    (All-take HasWords (c.args.section.past - c.args.section.first) (drop c.args.section.first c.args.lines.now)
    (All-drop HasWords c.args.section.first c.args.lines.now written)))

pub returns-clause-refused : goal.returns-clause-refused
returns-clause-refused c =
    subst (λ (lines : List TextLine). IfErr c.read_text.result (IsRefusedBy (refusal lines))) c.of-section.ensures.lines c.read_text.ensures.refused
