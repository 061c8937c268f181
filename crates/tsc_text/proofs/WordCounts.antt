-- The words of the first lines of a list.
use Rattle.std.proofs.Common.{◌≡◌, ℕ, ◌+◌, ◌<◌, ◌≤◌, List, [], ◌∷◌, drop, length, take, sym, ap, ◌∙◌, arith}
use Rattle.std.proofs.lemmas.List.{take-append-drop, take_more}
use Rattle.std.proofs.lemmas.List.Sums.{sum_by-append, sum_by-cons}
use Rattle.tsc_text.specs.TextLine.{TextLine, no_line, the_line, word_count}

-- one line more has its words more
pub word_count-more : (lines : List TextLine) (n : ℕ) → n < length lines → word_count (take (n + 1) lines) ≡ word_count (take n lines) + length (the_line lines n).words
word_count-more lines n h =
    let words : TextLine → ℕ = λ l. length l.words in
    ap word_count (take_more lines n no_line h) ∙ sum_by-append words (take n lines) (the_line lines n ∷ [])
    ∙ ap (λ k. word_count (take n lines) + k) (sum_by-cons words (the_line lines n) [] ∙ omega arith)

-- the first lines have at most the words of all
pub word_count-take : (lines : List TextLine) (n : ℕ) → word_count (take n lines) ≤ word_count lines
word_count-take lines n =
    omega (arith, sym (sum_by-append (λ (l : TextLine). length l.words) (take n lines) (drop n lines)) ∙ ap word_count (take-append-drop n lines))
