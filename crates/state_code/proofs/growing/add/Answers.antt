use Rattle.state_code.proofs.OverInputs.{over_either, stored_at}
use Rattle.state_code.proofs.Without.{without_either, stays}
use Rattle.state_code.proofs.growing.add.Goals as goal

pub returns-clause-grown : goal.returns-clause-grown
returns-clause-grown c = λ test fails. without_either c.add.result test c.args.gates.now c.add.new.self c.args.gate c.add.ensures.once c.add.ensures.refused fails

pub returns-clause-there : goal.returns-clause-there
returns-clause-there c = λ there. stays c.add.result c.args.gates.now c.add.new.self c.args.gate c.add.ensures.once c.add.ensures.refused there

pub returns-clause-over_inputs : goal.returns-clause-over_inputs
returns-clause-over_inputs c = λ plain negates. over_either c.add.result c.args.gates.now c.add.new.self c.args.gate c.add.ensures.sound c.requires.reads c.add.ensures.once c.add.ensures.refused plain negates

pub returns-clause-stored : goal.returns-clause-stored
returns-clause-stored c = stored_at c.add.result c.add.new.self.gates c.args.gate c.add.ensures.stored
