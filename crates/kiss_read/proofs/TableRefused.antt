-- The refusal of a table whose rows and reset state name states is that of a conflict.
use Rattle.std.proofs.Common.{◌≡◌, ℕ, List, [], ◌∷◌, length, map, None, refl, sym, ap, ap₂, ◌∙◌}
use Rattle.fault_secure.specs.Logic.{Transition}
use Rattle.tsc_net.specs.MachineView.{lines_of, transitions_of}
use Rattle.tsc_net.specs.declared.machine.MachineRow.{MachineRow}
use Rattle.tsc_text.specs.TextLine.{TextLine}
use Rattle.kiss_read.specs.Selections.{line_of, rows_of, states_of_lines}
use Rattle.kiss_read.specs.RowText.{transition_at}
use Rattle.kiss_read.specs.TableText.{machine_text, reset_at, reset_of}
use Rattle.kiss_read.specs.Conflict.{first_clash}
use Rattle.kiss_read.specs.Shaped.{HasRows}
use Rattle.kiss_read.specs.Refusal.{clash_refusal, conflict_refusal, first_refusal, reset_refusal, rows_refusal, table_refusal}
use Rattle.kiss_read.specs.declared.kinds.LineKind.TheVariants.{Reset}
use Rattle.kiss_read.specs.declared.rows.Heading.{Heading}

some_states : (states : List (List ℕ)) → (length states ≡ 0 → ⊥) → rows_refusal states ≡ None
some_states [] h = absurd (h refl)
some_states (state ∷ states) h = refl

pub table_refused : (lines : List TextLine) (states : List (List ℕ)) (heading : Heading) (rows : List MachineRow) → states ≡ states_of_lines lines
    → heading.reset ≡ reset_at (line_of Reset lines) states (rows_of lines) → HasRows heading states lines rows → (length states ≡ 0 → ⊥)
    → reset_refusal states (line_of Reset lines) ≡ None
    → table_refusal lines ≡ clash_refusal (lines_of rows) (first_clash (transitions_of heading.inputs heading.outputs rows))
table_refused lines states heading rows is reset has some named =
    let resets : heading.reset ≡ reset_of lines = reset ∙ ap (λ s. reset_at (line_of Reset lines) s (rows_of lines)) is in
    let table : transitions_of heading.inputs heading.outputs rows ≡ map (transition_at (states_of_lines lines) (reset_of lines)) (rows_of lines) =
    has.same ∙ ap₂ (λ s r. map (transition_at s r) (rows_of lines)) is resets in
    ap₂ (λ a b. first_refusal a (first_refusal b (conflict_refusal (machine_text lines))))
    (ap rows_refusal (sym is) ∙ some_states states some)
    (ap (λ s. reset_refusal s (line_of Reset lines)) (sym is) ∙ named)
    ∙ ap₂ (λ numbers (ts : List Transition). clash_refusal numbers (first_clash ts)) (sym has.numbers) (sym table)
