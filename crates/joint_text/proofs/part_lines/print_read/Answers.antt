use Rattle.std.proofs.Common.{ℕ, List, ◌∷◌, ◌++◌, ap, ◌∙◌}
use Rattle.joint_text.proofs.Printed.{prints_same}
use Rattle.joint_text.proofs.part_lines.print_read.Goals as goal

pub returns : goal.returns
returns g c = record {
  printed = prints_same c.print_all.result _ _ _ _
      (ap (λ (t : List ℕ). 32 ∷ t) (ap (λ (t : List ℕ). c.label_before.result.now ++ t) c.name.ensures.name ∙ c.label_before.ensures.name))
      c.print_all.ensures.printed;
}
