-- What came is joined.
use Rattle.std.proofs.Common.{◌≡◌, ◌++◌, ◌∙◌, ℕ, List, ap, append_assoc}
use Rattle.std.specs.Prelude.{codes}
use Rattle.std.specs.Fmt.{decimal}
use Rattle.refusals.proofs.note.push_conflict.Goals as goal

joined : (a b c d e f : List ℕ) → (a ++ (b ++ (c ++ (d ++ e)))) ++ f ≡ a ++ (b ++ (c ++ (d ++ (e ++ f))))
joined a b c d e f =
    append_assoc a (b ++ (c ++ (d ++ e))) f
    ∙ ap (λ x. a ++ x) (append_assoc b (c ++ (d ++ e)) f ∙ ap (λ x. b ++ x) (append_assoc c (d ++ e) f ∙ ap (λ x. c ++ x) (append_assoc d e f)))

pub returns : goal.returns
returns c = record {
  text = c.in_ok-push_number.ensures.ok ∙ ap (λ x. x ++ decimal c.args.earlier) c.in_ok-push_at_line.ensures.text
      ∙ joined c.args.out.now (codes "line ") (decimal c.args.later) (codes ": ") (codes "conflicts with line ") (decimal c.args.earlier);
}
