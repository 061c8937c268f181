use Rattle.std.proofs.Common.{arith, sym, ◌∙◌}
use Rattle.blif_read.proofs.Shares.{not_once}
use Rattle.blif_read.proofs.plan_rules.each_once.Goals as goal

pub returns-then-occurrences-ne1 : goal.returns-then-occurrences-ne1
returns-then-occurrences-ne1 c = record {
  once = sym (not_once c.args.places.now c.args.count c.loop-place.place (omega arith) (λ e. c.if-occurrences-ne1.true (c.occurrences.ensures.count ∙ e)));
}
