use Rattle.std.proofs.Common.{◌+◌, ◌*◌, ◌<◌, Bool, [], ◌∷◌, take, sym, ◌∙◌, subst}
use Rattle.tsc_cover.specs.Cover.{truth}
use Rattle.lane_sim.specs.TwoPins.{table_bit}
use Rattle.lane_sim.proofs.TwoPinLemmas.{table_gives, table_small}
use Rattle.lane_sim.proofs.steps.table_of.Goals as goal

pub returns : goal.returns
returns c =
    let cover = c.args.cover.now in
    record {
      table = record {
        small = subst (λ n. n < 16) (sym (λ i. ((c.from.ensures i + 2 * c.from-2.ensures i) + 4 * c.from-3.ensures i) + 8 * c.from-4.ensures i)) (table_small _ _ _ _);
        gives = λ a b.
            (λ i. table_bit (((c.from.ensures i + 2 * c.from-2.ensures i) + 4 * c.from-3.ensures i) + 8 * c.from-4.ensures i) a b)
            ∙ table_gives c.truth_at-none.result c.truth_at-one.result c.truth_at-other.result c.truth_at-all.result a b (λ (x y : Bool). truth cover (take cover.width (x ∷ y ∷ [])))
            c.truth_at-none.ensures.truth c.truth_at-one.ensures.truth c.truth_at-other.ensures.truth c.truth_at-all.ensures.truth;
      };
    }
