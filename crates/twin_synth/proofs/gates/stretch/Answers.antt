use Rattle.std.proofs.Common.{List, ℕ, sym, ap, ◌∙◌, ◌+◌, [], ◌∷◌, ◌++◌}
use Rattle.twin_synth.proofs.WatchGates.{stretch_more}
use Rattle.twin_synth.proofs.gates.stretch.Goals as goal

pub loop-place-preserved : goal.loop-place-preserved
loop-place-preserved c =
    c.in_ok-push.ensures.ok ∙ ap (λ (list : List ℕ). list ++ (c.args.first + c.loop-place.place) ∷ []) c.loop-place.invariant ∙ sym (stretch_more c.args.first c.loop-place.place)
