-- The first line that passes a test, and the first fault of lines, one line after the other.
use Rattle.std.proofs.Common.{◌≡◌, ℕ, ◌+◌, ◌<◌, Bool, true, false, cond, find, List, [], ◌∷◌, ◌++◌, length, take, drop, All, Option, Some, None, refl, sym, ap, ◌∙◌, subst}
use Rattle.std.proofs.lemmas.List.{drop_more, take_more}
use Rattle.std.proofs.lemmas.List.Elements.{All-head, All-tail}
use Rattle.tsc_text.specs.TextLine.{TextLine, no_line, the_line}
use Rattle.table_lines.specs.FirstFault.{fault_or, first_fault_behind, FaultBehind}
use Rattle.table_lines.specs.declared.cause.Cause.{Cause}
use Rattle.table_lines.specs.declared.cause.LineFault.{LineFault}

-- the first line that passes a test is a line, and passes it
pub found_line : (test : TextLine → Bool) (P : TextLine → Type 0) (lines : List TextLine) (line : TextLine) → All P lines → find test lines ≡ Some line
    → P line × (test line ≡ true)
found_line test P [] line h e = cc
found_line test P (first ∷ lines) line h e = by (test first) refl (found_line test P lines line (All-tail P first lines h)) e
  where
    by : (b : Bool) → test first ≡ b → (find test lines ≡ Some line → P line × (test line ≡ true))
        → cond b (Some first) (find test lines) ≡ Some line → P line × (test line ≡ true)
    by true is rest f =
        let same : first ≡ line = cc in
        let Q : TextLine → Type 0 = λ l. P l × (test l ≡ true) in
        subst Q same (All-head P first lines h, is)
    by false is rest f = rest f

-- no fault is one of no line
pub no_fault : (fault : Option Cause) (line : TextLine) (later : Option LineFault) → fault_or fault line later ≡ None → (fault ≡ None) × (later ≡ None)
no_fault None line later e = (refl, e)
no_fault (Some cause) line later e = cc

-- what holds of each line without a fault that passes a test holds of the first
module _ (fault_behind : FaultBehind) (test : TextLine → Bool) (P : TextLine → Type 0)
    (clean : (before : List TextLine) (line : TextLine) → test line ≡ true → fault_behind before line ≡ None → P line) where
  -- where no line has a fault, it holds of the first line that passes the test
  pub clean_behind : (lines before : List TextLine) (line : TextLine) → first_fault_behind fault_behind before lines ≡ None → find test lines ≡ Some line → P line
  clean_behind [] before line e f = cc
  clean_behind (first ∷ lines) before line e f =
      let parts = no_fault (fault_behind before first) first (first_fault_behind fault_behind (before ++ first ∷ []) lines) e in
      by (test first) refl parts.0 (clean_behind lines (before ++ first ∷ []) line parts.1) f
    where
      by : (b : Bool) → test first ≡ b → fault_behind before first ≡ None → (find test lines ≡ Some line → P line)
          → cond b (Some first) (find test lines) ≡ Some line → P line
      by true is sound rest g =
          let same : first ≡ line = cc in
          subst P same (clean before first is sound)
      by false is sound rest g = rest g

-- ---- one line after the other
module _ (fault_behind : FaultBehind) (lines : List TextLine) (at : ℕ) (below : at < length lines) where
  abbrev before : List TextLine
  before = take at lines

  abbrev here : TextLine
  here = the_line lines at

  -- the lines before the next one are those before this one, and then this one
  pub before_next : take (at + 1) lines ≡ before ++ here ∷ []
  before_next = take_more lines at no_line below

  first_here : (number : ℕ) (cause : Cause) → Some cause ≡ fault_behind before here → number ≡ here.number
      → first_fault_behind fault_behind before (drop at lines) ≡ Some (record { line = number; cause = cause })
  first_here number cause e f =
      ap (first_fault_behind fault_behind before) (drop_more lines at no_line below)
      ∙ ap (λ fault. fault_or fault here (first_fault_behind fault_behind (before ++ here ∷ []) (drop (at + 1) lines))) (sym e)
      ∙ ap (λ n. Some (record { line = n; cause = cause })) (sym f)

  -- where this line has a fault, it is the first from here on
  pub fault_found : (number : ℕ) (cause : Cause) (whole : Option LineFault) → Some cause ≡ fault_behind before here → number ≡ here.number
      → whole ≡ first_fault_behind fault_behind before (drop at lines) → whole ≡ Some (record { line = number; cause = cause })
  fault_found number cause whole e f is = is ∙ first_here number cause e f

  -- where this line has no fault, the first one from here on is the first of the later lines
  pub fault_later : (whole : Option LineFault) → None ≡ fault_behind before here → whole ≡ first_fault_behind fault_behind before (drop at lines)
      → whole ≡ first_fault_behind fault_behind (take (at + 1) lines) (drop (at + 1) lines)
  fault_later whole sound is =
      is
      ∙ ap (first_fault_behind fault_behind before) (drop_more lines at no_line below)
      ∙ ap (λ fault. fault_or fault here (first_fault_behind fault_behind (before ++ here ∷ []) (drop (at + 1) lines))) (sym sound)
      ∙ ap (λ list. first_fault_behind fault_behind list (drop (at + 1) lines)) (sym before_next)
