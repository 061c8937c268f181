use Rattle.std.proofs.Common.{◌≡◌, inl, inr, sym, subst, arith}
use Rattle.std.proofs.lemmas.Bool.{cases_lt}
use Rattle.mapping_audit.specs.Covers.{IsRealised}
use Rattle.mapping_audit.proofs.Answering.{match_none}
use Rattle.mapping_audit.proofs.covers.failing_on.Goals as goal

pub loop-node-preserved : goal.loop-node-preserved
loop-node-preserved c = record {
  zeros = c.missed_value.ensures.zeros;
  given = λ k low. elim (cases_lt k c.loop-node.node) [
    | inl before ↦ c.loop-node.invariant.given k before
    | inr here ↦
        let is : k ≡ c.loop-node.node = omega arith in
        subst (IsRealised c.args.plain.now.circuit c.args.mapped.now.circuit c.args.moved.now c.args.blocks.now) (sym is)
        (match_none c.in_ok-missed.missed _ _ c.in_default.not-Some c.in_ok-missed.ensures.first)
  ];
}
