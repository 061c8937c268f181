use Rattle.std.proofs.Common.{Bool, List, subst, arith}
use Rattle.sim_text.specs.Tables.{AreTablesOf}
use Rattle.sim_text.proofs.BatchLemmas.{steps_apart}
use Rattle.sim_text.proofs.TableLemmas.{tables_still}
use Rattle.sim_text.proofs.batches.fill.Goals as goal

pub returns-clause-filled : goal.returns-clause-filled
returns-clause-filled c =
    let ys = c.read_inputs.new.inputs in
    record {
      within = omega (arith, c.read_inputs.ensures.count, c.requires.first);
      are = steps_apart c.args.steps.now ys c.args.first c.read_inputs.ensures.read;
      tables = tables_still c.args.sim.now c.put_tables.new.sim c.put_tables.ensures.still 1 ys c.put_tables.new.tables
          (subst (λ (list : List (List Bool)). AreTablesOf c.args.sim.now 1 list c.put_tables.new.tables) c.as_slice.ensures.whole c.put_tables.ensures.tables);
    }
