-- One word more.
use Rattle.std.proofs.Common.{[], ◌∷◌, ◌++◌, List, ℕ, sym, ap₂, ◌∙◌, arith}
use Rattle.tsc_bits.proofs.Ranges.{range_push}
use Rattle.table_lines.proofs.names.names_at.Goals as goal

pub loop-place-preserved : goal.loop-place-preserved
loop-place-preserved c =
    c.in_ok-push.ensures.ok
    ∙ ap₂ (λ (names : List (List ℕ)) name. names ++ name ∷ []) c.loop-place.invariant (c.in_ok-name.ensures.same ∙ c.word.ensures.word)
    ∙ sym (range_push c.args.line.now.words 1 c.loop-place.place [] (omega arith) (omega arith))
