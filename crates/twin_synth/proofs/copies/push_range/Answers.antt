use Rattle.std.proofs.Common.{◌≡◌, ℕ, ◌+◌, ◌++◌, ◌∷◌, [], List, ◌∙◌, ap, sym, append_assoc}
use Rattle.std.specs.List.{range_with_len}
use Rattle.twin_synth.proofs.TableSteps.{range_more}
use Rattle.twin_synth.proofs.copies.push_range.Goals as goal

pub loop-place-preserved : goal.loop-place-preserved
loop-place-preserved c =
    c.in_ok-push.ensures.ok ∙ ap (λ (l : List ℕ). l ++ (c.args.first + c.loop-place.place) ∷ []) c.loop-place.invariant
    ∙ append_assoc c.args.list.now (range_with_len c.args.first c.loop-place.place) ((c.args.first + c.loop-place.place) ∷ [])
    ∙ ap (λ (l : List ℕ). c.args.list.now ++ l) (sym (range_more c.args.first c.loop-place.place))
