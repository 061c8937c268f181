use Rattle.std.proofs.Common.{◌≡◌, ◌<◌, ℕ, map, length, All, sym, ap, ◌∙◌, subst, arith}
use Rattle.std.specs.List.{range_with_len}
use Rattle.circuit_diagrams.proofs.Lists.{written_back}
use Rattle.diagrams.proofs.Waits.{same_error}
use Rattle.circuit_diagrams.specs.Steps.{AreShortOf}
use Rattle.wide_diagrams.specs.Wide.{difference_at}
use Rattle.wide_diagrams.proofs.differences.output_rows.Goals as goal

pub returns-in-Ok-difference_rows-clause-rows : goal.returns-in-Ok-difference_rows-clause-rows
returns-in-Ok-difference_rows-clause-rows c =
    subst (All (λ row. row < length c.difference_rows.new.diagrams.rows))
    (sym (written_back c.difference_rows.new.rows c.in-Ok.rows.items c.in-Ok.rows.len (omega arith) (c.in-Ok-difference_rows.ensures.sized ∙ ap length c.deref_mut.ensures.value))) c.in-Ok-difference_rows.ensures.rows

pub returns-in-Err-difference_rows-clause-short : goal.returns-in-Err-difference_rows-clause-short
returns-in-Err-difference_rows-clause-short c = λ spent fs gs F G.
    let count : length c.deref_mut.result.now ≡ c.args.outputs = omega (arith, ap length c.deref_mut.ensures.value, c.in-Ok.ensures.len) in
    subst (λ (n : ℕ). AreShortOf c.args.diagrams.now c.difference_rows.new.diagrams (map (difference_at fs gs) (range_with_len 0 n))) count
    (c.in-Err-difference_rows.ensures.short (same_error c.in-Err-difference_rows.e _ spent) fs gs F G)
