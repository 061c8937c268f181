use Rattle.std.proofs.Common.{ap, ◌∙◌, arith}
use Rattle.refutations.proofs.Trails.{blanks, all_undone}
use Rattle.refutations.proofs.known.Known.forget.Goals as goal

pub returns : goal.returns
returns c = record {
  nothing = all_undone c.loop-variable.variable-index _ c.deref-variable-items.result.now c.loop-variable.invariant.trailed (omega (arith, c.loop-variable-test.false))
      ∙ ap blanks c.loop-variable.invariant.sized;
}
