use Rattle.std.proofs.Common.{◌≡◌, ℕ, ◌+◌, ◌<◌, true, false, length, slice_index, Option, None, sym, ap, ◌∙◌, subst, arith, true≢false}
use Rattle.std.specs.Option.{option_map}
use Rattle.std.specs.Prelude.{unwrap_or}
use Rattle.tsc_net.specs.Fault.{stuck_at_or_none}
use Rattle.lane_sim.specs.First.{IsFirstIn}
use Rattle.lane_sim.specs.Readers.{has, IsOnChain}
use Rattle.lane_sim.specs.Again.{net_there, reads_there, IsSame, IsWalked}
use Rattle.lane_sim.specs.Program.{ProgramState}
use Rattle.lane_sim.specs.ProgramView.{program_as}
use Rattle.lane_sim.proofs.ProgramLemmas.{keeps_along}
use Rattle.lane_sim.proofs.AgainLemmas.{jump, ended, step, unchanged, unmarked, same_place}
use Rattle.lane_sim.proofs.program.Program.settle_next.Goals as goal

pub returns-in_err-place-clause-walked : goal.returns-in_err-place-clause-walked
returns-in_err-place-clause-walked c = λ e walked.
    let program = c.args.self.now in
    let steps = c.self.inside.steps in
    let keeps = keeps_along (program_as c.self.inside) program steps c.self.view_is c.self.invariant in
    let f = stuck_at_or_none c.args.fault in
    let marked = c.args.marked.now in
    let many = length program.circuit.nodes in
    let none : IsFirstIn (λ j. has marked j ≡ true) c.args.from many None = subst (λ n. IsFirstIn (λ j. has marked j ≡ true) c.args.from n None) (c.nodes.ensures.count ∙ ap (λ (s : ProgramState). length s.circuit.nodes) c.self.view_is) c.in_err-place.ensures.first in
    subst (λ (o : Option ℕ). IsWalked program e f c.args.points.now c.args.block.now c.take_from.new.self (unwrap_or (option_map (λ place. place + 1) o) many)) (sym c.from_residual.ensures)
    (ended program steps keeps c.requires.watches c.args.points.now c.requires.points e f c.args.block.now marked c.take_from.new.self c.args.from c.requires.from none walked)

pub returns-then-settle_place-clause-walked : goal.returns-then-settle_place-clause-walked
returns-then-settle_place-clause-walked c = λ e walked.
    let program = c.args.self.now in
    let steps = c.self.inside.steps in
    let keeps = keeps_along (program_as c.self.inside) program steps c.self.view_is c.self.invariant in
    let f = stuck_at_or_none c.args.fault in
    let points = c.args.points.now in
    let marked = c.args.marked.now in
    let taken = c.take_from.new.self in
    let left = c.mark.new.marked in
    let place = c.in_ok-place.place in
    let readers = c.args.readers.now in
    let first = c.in_ok-place.ensures.first in
    let inside : place < length program.circuit.nodes = omega (arith, first.1, c.nodes.ensures.count, ap (λ (s : ProgramState). length s.circuit.nodes) c.self.view_is) in
    let at = jump program steps keeps c.requires.watches points c.requires.points e f c.args.block.now marked c.args.from place first.0 (omega arith) first.3 walked in
    let kept : (j : ℕ) → place < j → has left j ≡ false → has marked j ≡ false = (λ j past no.
    unmarked (has marked j) (has taken j) (has left j) (c.in_ok-place.ensures.others j (λ same. let is = same_place same in omega arith)) (c.mark.ensures.kept j) no) in
    let known : (j : ℕ) → j < length program.circuit.nodes → has left j ≡ false → reads_there program.circuit (net_there program.circuit place) j ≡ true
    → IsSame program.circuit e f points (net_there program.circuit place) = (λ j below no reads.
    let on = c.requires.readers.each j (net_there program.circuit place) below reads in
    absurd (true≢false (sym (c.mark.ensures.marked j (subst (λ n. IsOnChain readers.list.items j (slice_index readers.heads.items n)) (sym c.net_there.ensures.net) on)) ∙ no))) in
    step program steps keeps c.requires.watches points c.requires.points e f c.args.block.now c.settle_place.new.block place inside c.settle_place.ensures.here c.settle_place.ensures.others
    marked left at kept known

pub returns-else-settle_place-clause-walked : goal.returns-else-settle_place-clause-walked
returns-else-settle_place-clause-walked c = λ e walked.
    let program = c.args.self.now in
    let steps = c.self.inside.steps in
    let keeps = keeps_along (program_as c.self.inside) program steps c.self.view_is c.self.invariant in
    let f = stuck_at_or_none c.args.fault in
    let points = c.args.points.now in
    let marked = c.args.marked.now in
    let left = c.take_from.new.self in
    let place = c.in_ok-place.place in
    let first = c.in_ok-place.ensures.first in
    let inside : place < length program.circuit.nodes = omega (arith, first.1, c.nodes.ensures.count, ap (λ (s : ProgramState). length s.circuit.nodes) c.self.view_is) in
    let at = jump program steps keeps c.requires.watches points c.requires.points e f c.args.block.now marked c.args.from place first.0 (omega arith) first.3 walked in
    let kept : (j : ℕ) → place < j → has left j ≡ false → has marked j ≡ false = (λ j past no.
    sym (c.in_ok-place.ensures.others j (λ same. let is = same_place same in omega arith)) ∙ no) in
    let same = unchanged program steps keeps c.requires.watches points c.requires.points e f c.args.block.now c.settle_place.new.block place inside c.settle_place.ensures.here c.settle_place.ensures.others
    marked at (c.settle_place.ensures.same c.if-settle_place.false) in
    step program steps keeps c.requires.watches points c.requires.points e f c.args.block.now c.settle_place.new.block place inside c.settle_place.ensures.here c.settle_place.ensures.others
    marked left at kept (λ j below no reads. same)
