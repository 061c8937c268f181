use Rattle.std.proofs.Common.{List, ℕ, ◌*◌, length, subst}
use Rattle.tsc_net.specs.Fault.{stuck_at_or_none}
use Rattle.lane_rows.specs.Alive.{source_count}
use Rattle.lane_sim.specs.Along.{HoldsSources, HoldsNodes}
use Rattle.lane_sim.specs.ProgramView.{program_as}
use Rattle.lane_sim.proofs.ProgramLemmas.{keeps_along, shows_watched}
use Rattle.lane_sim.proofs.program.Program.settle.Goals as goal

pub returns-clause-shows : goal.returns-clause-shows
returns-clause-shows g c =
    let inside = c.self.inside in
    let program = c.args.self.now in
    let keeps = keeps_along (program_as inside) program inside.steps c.self.view_is c.self.invariant in
    let f = stuck_at_or_none c.args.fault in
    let block = c.settle_nodes.new.block in
    shows_watched program inside.steps keeps (g.row.N * 64) c.args.points.now f block c.requires.points
    (subst (λ (w : List ℕ). HoldsSources (g.row.N * 64) (source_count program.circuit) program.rows.rows f w block) c.words-words.ensures.words c.settle_nodes.ensures.sources)
    (subst (λ (w : List ℕ). HoldsNodes (g.row.N * 64) program f w block (length program.circuit.nodes)) c.words-words.ensures.words c.settle_nodes.ensures.nodes)

pub returns-clause-acyclic : goal.returns-clause-acyclic
returns-clause-acyclic g c =
    let inside = c.self.inside in
    let keeps = keeps_along (program_as inside) c.args.self.now inside.steps c.self.view_is c.self.invariant in
    keeps.acyclic
