-- The next line of a list of lines, and the words of some of them.
use Rattle.std.proofs.Common.{◌≡◌, ℕ, ◌+◌, ◌-◌, ◌<◌, ◌≤◌, List, ◌∷◌, drop, length, take, sym, ap, ◌∙◌, arith}
use Rattle.std.specs.List.{slice_range}
use Rattle.std.proofs.lemmas.List.{drop_more, take-append-drop}
use Rattle.std.proofs.lemmas.List.Sums.{sum_by-append}
use Rattle.tsc_text.specs.TextLine.{TextLine, no_line, the_line, word_count}
use Rattle.tsc_text.proofs.WordCounts.{word_count-take}

pub next_line : (lines : List TextLine) (at : ℕ) (line : TextLine) → at < length lines → line ≡ the_line lines at → drop at lines ≡ line ∷ drop (at + 1) lines
next_line lines at line h is = drop_more lines at no_line h ∙ ap (λ line. line ∷ drop (at + 1) lines) (sym is)

-- the lines of a section have at most the words of all
pub word_count-section : (lines : List TextLine) (first past : ℕ) → word_count (slice_range lines first past) ≤ word_count lines
word_count-section lines first past =
    omega (
      arith,
      word_count-take (drop first lines) (past - first),
      sym (sum_by-append (λ (l : TextLine). length l.words) (take first lines) (drop first lines)) ∙ ap word_count (take-append-drop first lines),
    )
