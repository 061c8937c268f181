-- Lines without a fault have rows of their shape, and short names.
use Rattle.std.proofs.Common.{List, ℕ, ◌++◌, All, sym, ap₂, subst}
use Rattle.table_lines.specs.Denotes.{IsName, IsShort}
use Rattle.kiss_read.proofs.CleanLines.{named_by_words, shaped_lines, short_names}
use Rattle.kiss_read.proofs.reading.read_text.Goals as goal

pub read_machine-requires-clause-shaped : goal.read_machine-requires-clause-shaped
read_machine-requires-clause-shaped c =
    shaped_lines c.args.section.now c.args.inputs c.args.outputs c.requires.clean c.requires.inputs c.requires.outputs

pub returns-clause-short : goal.returns-clause-short
returns-clause-short c =
    subst (All IsShort) (sym (ap₂ (λ (a b : List (List ℕ)). a ++ b) c.in-Ok.ensures.inputs c.in-Ok.ensures.outputs))
    (short_names c.args.section.now c.args.inputs c.args.outputs c.requires.clean c.requires.inputs c.requires.outputs
    c.requires.few_inputs c.requires.few_outputs)

pub returns-clause-words : goal.returns-clause-words
returns-clause-words c = λ written.
    subst (All IsName) (sym (ap₂ (λ (a b : List (List ℕ)). a ++ b) c.in-Ok.ensures.inputs c.in-Ok.ensures.outputs))
    (named_by_words c.args.section.now c.args.inputs c.args.outputs c.requires.inputs c.requires.outputs
    c.requires.few_inputs c.requires.few_outputs written)
