use Rattle.std.proofs.Common.{ℕ, nat_eq, ap, arith}
use Rattle.diagrams.proofs.LeastLemmas.{path_more}
use Rattle.diagrams.proofs.diagrams.Diagrams.path.Goals as goal

pub loop-level-preserved : goal.loop-level-preserved
loop-level-preserved c = record {
  inside = c.step-place.ensures.inside;
  path = path_more c.args.self.now.rows c.args.end c.args.self.now.inputs c.loop-level.level c.loop-level.place _ c.loop-level.bits.items _ _ (nat_eq c.step.result c.args.end)
      (omega (arith, c.loop-level-test.true, c.inputs-inputs.ensures.inputs)) (ap (λ (j : ℕ). nat_eq j c.args.end) c.step.ensures.step) c.step-place.ensures.step c.in_ok-push.ensures.items c.loop-level.invariant.path;
}
