use Rattle.std.proofs.Common.{ℕ, List, ◌∷◌, ◌++◌, sym, ap, ap₂, ◌∙◌, append_assoc}
use Rattle.blif_write.specs.Steps.{line_end}
use Rattle.joint_text.proofs.Printed.{prints_same}
use Rattle.joint_text.proofs.part_lines.print_last.Goals as goal

pub returns : goal.returns
returns g c =
    let before = c.label_before-before.result.now in
    let name = c.name-name.result.now in
    let word = ap (λ (t : List ℕ). c.label_before-before.result.now ++ t) c.name-name.ensures.name ∙ c.label_before-before.ensures.name in
    record {
      printed = prints_same c.print_all.result _ _ _ _
          (ap (λ (t : List ℕ). 32 ∷ t) (sym (append_assoc before name c.line_end.result.now) ∙ ap₂ (λ (x y : List ℕ). x ++ y) word (c.line_end.ensures.end ∙ ap line_end word)))
          c.print_all.ensures.printed;
    }
