use Rattle.std.proofs.Common.{◌∙◌, arith, length, ◌*◌}
use Rattle.std.proofs.Math.Logic.{⊎_elim}
use Rattle.lane_sim.proofs.ReaderLemmas.{none_on_chain, next_inside, kept_more, marked_more}
use Rattle.lane_sim.proofs.readers.Readers.mark.Goals as goal

pub loop-at-preserved : goal.loop-at-preserved
loop-at-preserved c =
    let list = c.args.self.now.list.items in
    let at = c.loop-at.at in
    let reader = c.index-reader.result.now in
    let old = c.loop-at.marked in
    let new = c.mark.new.self in
    let i = c.loop-at.invariant in
    record {
      room = c.mark.ensures.room ∙ i.room;
      inside = next_inside list at reader old new c.loop-at-test.true i.inside c.index-reader.ensures c.mark.ensures.marked c.mark.ensures.others
          c.args.self.now.heads.items (length c.args.marked.now.words.items * 64) c.requires.chains;
      kept = λ place marked.
          kept_more list at reader old new c.loop-at-test.true i.inside c.index-reader.ensures c.mark.ensures.marked c.mark.ensures.others place (i.kept place marked);
      marked = λ place on.
          marked_more list at reader old new c.loop-at-test.true i.inside c.index-reader.ensures c.mark.ensures.marked c.mark.ensures.others place (i.marked place on);
    }

pub returns-clause-marked : goal.returns-clause-marked
returns-clause-marked c = λ place on. ⊎_elim
    (λ marked. marked)
    (λ rest. absurd (none_on_chain c.args.self.now.list.items place c.loop-at.at (omega (arith, c.loop-at-test.false)) rest))
    (c.loop-at.invariant.marked place on)
