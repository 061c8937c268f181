use Rattle.std.proofs.Common.{◌≡◌, ℕ, ◌+◌, ◌++◌, ◌∷◌, [], List, ◌∙◌, ap, sym, arith}
use Rattle.std.specs.List.{range_with_len}
use Rattle.twin_synth.proofs.TableSteps.{range_more}
use Rattle.twin_synth.proofs.tables.count_to.Goals as goal

pub loop-number-preserved : goal.loop-number-preserved
loop-number-preserved c =
    let number = c.loop-number.number in
    c.in_ok-push.ensures.ok ∙ ap (λ (l : List ℕ). l ++ c.loop-number.number ∷ []) c.loop-number.invariant
    ∙ ap (λ (k : ℕ). range_with_len 0 c.loop-number.number ++ k ∷ []) (let e : c.loop-number.number ≡ 0 + c.loop-number.number = omega arith in e)
    ∙ sym (range_more 0 c.loop-number.number)
