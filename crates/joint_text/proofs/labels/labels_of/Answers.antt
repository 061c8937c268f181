use Rattle.std.proofs.Common.{ℕ, List, [], ◌∷◌, ◌++◌, sym, ap₂, ◌∙◌, arith}
use Rattle.std.proofs.lemmas.List.FromFn.{map-range_with_len_more}
use Rattle.joint_text.specs.JointNamed.{part_label}
use Rattle.joint_text.proofs.labels.labels_of.Goals as goal

pub loop-part-preserved : goal.loop-part-preserved
loop-part-preserved c =
    c.in_ok-push.ensures.ok
    ∙ ap₂ (λ (l : List (List ℕ)) (t : List ℕ). l ++ t ∷ []) c.loop-part.invariant c.in_ok-label_of.ensures.label
    ∙ sym (map-range_with_len_more (part_label c.args.prefix.now) 0 c.loop-part.part c.loop-part.part (omega arith))
