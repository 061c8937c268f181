-- One row after the other.
use Rattle.std.proofs.Common.{ℕ, List, length, ap, ◌∙◌, arith, refl}
use Rattle.pla_read.proofs.CoverLists.{spread_all, spread_fit, spread_more, spread_none}
use Rattle.pla_read.proofs.spread.spread.Goals as goal

pub loop-row-init : goal.loop-row-init
loop-row-init c =
    spread_none c.args.mark c.args.within c.args.inputs c.args.outputs _ c.in_ok-covers.covers
    (ap (λ (list : List ℕ). length list) c.deref.ensures.value ∙ c.in_ok-counts.ensures.count) c.in_ok-covers.ensures.covers

pub push_at_bits-requires-clause-fit : goal.push_at_bits-requires-clause-fit
push_at_bits-requires-clause-fit c =
    spread_fit c.args.mark c.args.within c.args.inputs c.args.outputs _ c.loop-row.covers _ c.loop-row.invariant
    (c.requires.fit c.loop-row.row _ c.loop-row-test.true)

pub loop-row-preserved : goal.loop-row-preserved
loop-row-preserved c =
    spread_more c.args.mark c.args.within c.args.inputs c.args.outputs c.args.rows.now c.loop-row.row _ _ c.marks_in.result c.loop-row.covers c.push_at_bits.new.covers
    c.loop-row.invariant c.loop-row-test.true refl c.marks_in.ensures.marks c.in_ok-push_at_bits.ensures.pushed

pub returns : goal.returns
returns c = record {
  covers = spread_all c.args.mark c.args.within c.args.inputs c.args.outputs c.args.rows.now c.loop-row.row c.loop-row.covers (omega arith) c.loop-row.invariant;
}
