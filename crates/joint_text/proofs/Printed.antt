-- A text of which nothing is left was printed; and so was one that is the same.
use Rattle.std.proofs.Common.{◌≡◌, ℕ, List, [], ◌++◌, Result, sym, ap, subst, ◌∙◌, append-nil}
use Rattle.buffered_sink.specs.Output.{Output, IsPrinted, Prints}
use Rattle.buffered_sink.proofs.PrintLemmas.{IsUnderWay}

pub all_printed : {before now : Output} {text : List ℕ} (rest : List ℕ) → IsUnderWay before now text rest → rest ≡ [] → IsPrinted before now text
all_printed {before} {now} {text} rest u none =
    let P : List ℕ → Type 0 = λ t. IsPrinted before now t in
    subst P (sym (append-nil u.done) ∙ ap (λ (l : List ℕ). u.done ++ l) (sym none) ∙ u.whole) u.printed

pub prints_same : {T E : Type 0} (result : Result T E) (before after : Output) (one other : List ℕ) → one ≡ other → Prints result before after one → Prints result before after other
prints_same result before after one other same p = subst (λ (t : List ℕ). Prints result before after t) same p
