use Rattle.std.proofs.Common.{ℕ, length, subst, arith}
use Rattle.lane_sim.specs.First.{IsFirstIn}
use Rattle.lane_sim.proofs.FirstLemmas.{first_same}
use Rattle.unheard_cells.specs.There.{near_count, AreUnheardAt, IsUnheardThere}
use Rattle.unheard_cells.proofs.LaneLemmas.{unheard_there, there_unheard}
use Rattle.unheard_cells.proofs.WatchLemmas.{near_words}
use Rattle.unheard_cells.proofs.stems.first_held.Goals as goal

pub first_unheard-requires-clause-some : goal.first_unheard-requires-clause-some
first_unheard-requires-clause-some c = omega (arith, near_words (length c.args.wrong.now) (near_count c.args.span) c.requires.room)

pub first_unheard-requires-clause-right : goal.first_unheard-requires-clause-right
first_unheard-requires-clause-right c =
    omega (arith, c.requires.settled.room, c.requires.span.within, c.requires.some, near_words (length c.args.wrong.now) (near_count c.args.span) c.requires.room)

pub first_unheard-requires-clause-wrong : goal.first_unheard-requires-clause-wrong
first_unheard-requires-clause-wrong c = omega (arith, c.requires.room, near_words (length c.args.wrong.now) (near_count c.args.span) c.requires.room)

pub returns : goal.returns
returns c =
    let N = c.args.net.now.circuit in
    let P = c.args.plan.now in
    let points = c.args.trial.now.points in
    let right = c.args.right.now in
    let wrong = c.args.wrong.now in
    let span = c.args.span in
    let many = c.args.many in
    let cell = c.args.cell.number in
    let held = c.args.held in
    let acyclic = c.order-order.ensures.acyclic in
    let counted = near_words (length wrong) (near_count span) c.requires.room in
    let first = subst (λ (n : ℕ). IsFirstIn (AreUnheardAt right wrong span.low n) 0 many c.first_unheard.result) counted c.first_unheard.ensures.first in
    record {
      first = first_same (AreUnheardAt right wrong span.low (near_count span)) (IsUnheardThere N P points cell held) 0 many c.first_unheard.result
          (λ p below at. unheard_there N P points acyclic p (omega (arith, below, c.requires.many)) cell held span right wrong c.requires.cell c.requires.span c.requires.some
          c.requires.settled.lanes c.requires.held at)
          (λ p below at. there_unheard N P points acyclic p (omega (arith, below, c.requires.many)) cell held span right wrong c.requires.cell c.requires.span c.requires.some
          c.requires.settled.lanes c.requires.held at) first;
    }
