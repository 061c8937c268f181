-- The lines of the section are the text's.
use Rattle.std.proofs.Common.{◌≡◌, List, ◌-◌, All, IfOk, IfErr, OnOk, drop, sym, subst}
use Rattle.std.proofs.lemmas.List.Elements.{All-drop, All-take}
use Rattle.tsc_net.specs.NetlistOf.{netlist_of}
use Rattle.tsc_text.specs.TextLine.{TextLine}
use Rattle.table_lines.specs.Denotes.{HasWords}
use Rattle.pla_read.specs.TableText.{is_one, table_text, AreWide}
use Rattle.pla_read.specs.Networks.{value_text, AnswersAs}
use Rattle.pla_read.specs.Loose.{free_text, IsFreeNet}
use Rattle.pla_read.specs.Refusal.{refusal, IsRefusedBy}
use Rattle.pla_read.specs.declared.reading.PlaText.{PlaText}
use Rattle.pla_read.proofs.reading.read_pla.Goals as goal

pub returns-clause-value : goal.returns-clause-value
returns-clause-value c =
    subst (λ (lines : List TextLine). IfOk c.read_text.result (λ (text : PlaText). text.loose.value ≡ netlist_of (value_text lines)))
    c.of-section.ensures.lines c.read_text.ensures.value

pub returns-clause-values : goal.returns-clause-values
returns-clause-values c =
    subst (λ (lines : List TextLine). IfOk c.read_text.result (λ (text : PlaText). AnswersAs (is_one (table_text lines)) text.loose.value.circuit))
    c.of-section.ensures.lines c.read_text.ensures.values

pub returns-clause-free : goal.returns-clause-free
returns-clause-free c =
    subst (λ (lines : List TextLine). IfOk c.read_text.result (λ (text : PlaText). text.loose.free ≡ netlist_of (free_text lines)))
    c.of-section.ensures.lines c.read_text.ensures.free

pub returns-clause-frees : goal.returns-clause-frees
returns-clause-frees c =
    subst (λ (lines : List TextLine). IfOk c.read_text.result (λ (text : PlaText). IsFreeNet text.inputs text.outputs (table_text lines) text.loose.free))
    c.of-section.ensures.lines c.read_text.ensures.frees

pub returns-clause-wide : goal.returns-clause-wide
returns-clause-wide c =
    subst (λ (lines : List TextLine). OnOk c.read_text.result (AreWide (table_text lines))) c.of-section.ensures.lines c.read_text.ensures.wide

pub returns-clause-words : goal.returns-clause-words
returns-clause-words c = λ written.
    c.read_text.ensures.words
    (subst (λ (lines : List TextLine). All HasWords lines) (sym c.of-section.ensures.lines)
    (All-take HasWords (c.args.section.past - c.args.section.first) (drop c.args.section.first c.args.lines.now)
    (All-drop HasWords c.args.section.first c.args.lines.now written)))

pub returns-clause-refused : goal.returns-clause-refused
returns-clause-refused c =
    subst (λ (lines : List TextLine). IfErr c.read_text.result (IsRefusedBy (refusal lines))) c.of-section.ensures.lines c.read_text.ensures.refused
