-- One cover more.
use Rattle.std.proofs.Common.{arith, subst}
use Rattle.pla_read.specs.Spread.{no_rows, AreCovers}
use Rattle.pla_read.proofs.CoverLists.{covers_push}
use Rattle.pla_read.proofs.spread.empty_covers.Goals as goal

pub loop-count-preserved : goal.loop-count-preserved
loop-count-preserved c =
    covers_push c.loop-count.count-index (λ place. no_rows c.args.width) c.loop-count.covers c.push.new.self _ c.loop-count.invariant
    c.in_ok-with_capacity.ensures.cover c.in_ok-push.ensures.ok

pub returns : goal.returns
returns c = record {
  covers = subst (λ n. AreCovers 0 n (λ place. no_rows c.args.width) c.loop-count.covers) (omega arith) c.loop-count.invariant;
}
