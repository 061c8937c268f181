use Rattle.std.proofs.Common.{slice_index, sym, ◌∙◌, refl}
use Rattle.structure_audit.proofs.PairLemmas.{sharing_in, sharing_out, sharing_none}
use Rattle.structure_audit.proofs.pairs.sharing_lines.Goals as goal
use Rattle.structure_audit.proofs.pairs.sharing_lines.Goals.{then-has_line, else-has_line}

pub loop-mask-init : goal.loop-mask-init
loop-mask-init c = λ k. sharing_none c.args.masks.now k c.args.place

pub loop-mask-preserved : goal.loop-mask-preserved
loop-mask-preserved c = elim c.if-has_line.branch [
  | then-has_line w ↦
      sharing_in c.args.masks.now c.loop-mask.mask-index c.args.place c.loop-mask.sharing (slice_index c.args.masks.now c.loop-mask.mask-index) c.if-has_line.sharing refl
      (sym c.has_line.ensures.bit ∙ w.if-has_line.true) w.sharing-is c.loop-mask.invariant
  | else-has_line w ↦
      sharing_out c.args.masks.now c.loop-mask.mask-index c.args.place c.loop-mask.sharing (slice_index c.args.masks.now c.loop-mask.mask-index) c.if-has_line.sharing refl
      (sym c.has_line.ensures.bit ∙ w.if-has_line.false) w.sharing-is c.loop-mask.invariant
]
