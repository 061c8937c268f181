use Rattle.std.proofs.Common.{◌+◌, ◌<◌, sym, subst, arith, ℕ}
use Rattle.tsc_net.specs.SourceView.{logic_of}
use Rattle.behaviour_audit.specs.Trial.{ShowsSource}
use Rattle.behaviour_audit.proofs.WatchLemmas.{shows_step}
use Rattle.behaviour_audit.proofs.trial.settle_batch.Goals as goal
use Rattle.lane_sim.specs.Places.{point_at}

pub returns-clause-shows : goal.returns-clause-shows
returns-clause-shows c = λ slot inside.
    let M = logic_of c.args.audited.now.source.now in
    let N = c.args.audited.now.net.now.circuit in
    let P = c.args.audited.now.plan.now in
    let below : slot < 1024 = omega arith in
    record {
      settled = c.settle.ensures.settled;
      step = shows_step N P c.settle.new.watch.bench c.put_points.new.watch.points slot (point_at N.inputs (c.args.first + slot)) (c.put_points.ensures.put slot inside) (c.settle.ensures.shows slot below);
      source = subst (λ (n : ℕ). ShowsSource M c.settle_source.new.reference slot (point_at n (c.args.first + slot))) (sym c.requires.trial.fit.inputs) (c.settle_source.ensures.shows slot inside);
    }
