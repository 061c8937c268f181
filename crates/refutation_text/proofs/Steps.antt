-- One more deletion, and one more line.
use Rattle.std.proofs.Common.{◌≡◌, ℕ, ◌+◌, ◌<◌, Bool, true, false, ◌&&◌, List, [], ◌∷◌, length, drop, get_or, is_some, if◌then◌else◌, Option, None, Some, sym, ap, ◌∙◌}
use Rattle.std.proofs.lemmas.List.{drop_more}
use Rattle.tsc_text.specs.TextLine.{TextLine, no_line}
use Rattle.refutations.specs.Steps.{clause_at}
use Rattle.refutations.specs.Checking.{CheckerState}
use Rattle.refutation_text.specs.declared.fault.RefutationFault.{RefutationFault}
use Rattle.refutation_text.specs.declared.fault.RefutationFault.TheVariants.{Unfinished}
use Rattle.refutation_text.specs.Following.{after_line, are_alive, line_fault, lines_fault, or_fault, without_clause, without_clauses}

-- ---- deletions

module _ (state new : CheckerState) (numbers : List ℕ) (i : ℕ) (inside : i < length numbers) (is : new ≡ without_clause state (get_or numbers i 0)) where
  pub alive_more : is_some (clause_at state.clauses (get_or numbers i 0)) ≡ true → are_alive state (drop i numbers) ≡ are_alive new (drop (i + 1) numbers)
  alive_more was = ap (are_alive state) (drop_more numbers i 0 inside)
      ∙ (ap (λ (b : Bool). b && are_alive (without_clause state (get_or numbers i 0)) (drop (i + 1) numbers)) was
      ∙ ap (λ (s : CheckerState). are_alive s (drop (i + 1) numbers)) (sym is))

  pub without_more : without_clauses state (drop i numbers) ≡ without_clauses new (drop (i + 1) numbers)
  without_more = ap (without_clauses state) (drop_more numbers i 0 inside) ∙ ap (λ (s : CheckerState). without_clauses s (drop (i + 1) numbers)) (sym is)

-- ---- lines

-- there is no fault once the empty clause came
pub refuted_has_none : (state : CheckerState) (lines : List TextLine) → state.refuted ≡ true → lines_fault state lines ≡ None
refuted_has_none state [] is = ap (λ (b : Bool). if b then None else Some Unfinished) is
refuted_has_none state (line ∷ lines) is = ap (λ (b : Bool). if b then None else or_fault (line_fault state line) (lines_fault (after_line state line) lines)) is

-- a line without a fault leads on
pub line_more : (state new : CheckerState) (lines : List TextLine) (i : ℕ) → i < length lines → state.refuted ≡ false → line_fault state (get_or lines i no_line) ≡ None
    → new ≡ after_line state (get_or lines i no_line) → lines_fault state (drop i lines) ≡ lines_fault new (drop (i + 1) lines)
line_more state new lines i inside unrefuted fault is =
    let line = get_or lines i no_line in
    let rest = drop (i + 1) lines in
    ap (lines_fault state) (drop_more lines i no_line inside)
    ∙ (ap (λ (b : Bool). if b then None else or_fault (line_fault state line) (lines_fault (after_line state line) rest)) unrefuted
    ∙ (ap (λ (f : Option RefutationFault). or_fault f (lines_fault (after_line state line) rest)) fault
    ∙ ap (λ (s : CheckerState). lines_fault s rest) (sym is)))
