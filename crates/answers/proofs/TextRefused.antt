-- A text is refused for its bytes, or for its lines, or for what is asked behind them.
use Rattle.std.proofs.Common.{◌≡◌, ℕ, List, Option, None, sym, ◌∙◌, ap, subst}
use Rattle.tsc_text.specs.Bytes.{bad_line}
use Rattle.tsc_text.specs.Lines.{lines_of}
use Rattle.tsc_text.specs.TextLine.{TextLine}
use Rattle.refusals.specs.declared.refusal.Refusal.{Refusal}
use Rattle.refusals.specs.declared.text_refusal.TextRefusal.{TextRefusal}
use Rattle.text_sections.specs.Refused.{IsRefusedBy, byte_refusal, first_of}
use Rattle.text_sections.proofs.SectionLemmas.{allowed_both, refused_first, refused_later}

module _ (of_lines : List TextLine → Option TextRefusal) (text : List ℕ) where
  -- the text as a whole
  abbrev whole : Option TextRefusal
  whole = first_of (byte_refusal (bad_line text)) (of_lines (lines_of text))

  pub text_allowed : (lines : List TextLine) → lines ≡ lines_of text → bad_line text ≡ None → of_lines lines ≡ None → whole ≡ None
  text_allowed lines are sound allowed =
      allowed_both (byte_refusal (bad_line text)) (of_lines (lines_of text)) (ap byte_refusal sound) (ap of_lines (sym are) ∙ allowed)

  module _ (later : Option TextRefusal) (given : Refusal) where
    pub refused_bytes : IsRefusedBy (byte_refusal (bad_line text)) given → IsRefusedBy (first_of whole later) given
    refused_bytes refused = refused_first whole later given (refused_first (byte_refusal (bad_line text)) (of_lines (lines_of text)) given refused)

    pub refused_lines : (lines : List TextLine) → lines ≡ lines_of text → bad_line text ≡ None → IsRefusedBy (of_lines lines) given → IsRefusedBy (first_of whole later) given
    refused_lines lines are sound refused =
        let P : List TextLine → Type 0 = λ l. IsRefusedBy (of_lines l) given in
        refused_first whole later given (refused_later (byte_refusal (bad_line text)) (of_lines (lines_of text)) given (ap byte_refusal sound) (subst P are refused))
