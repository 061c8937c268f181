-- A new name has the number of the names before it.
use Rattle.pla_read.proofs.Segments.{number_new}
use Rattle.pla_read.proofs.beginning.add_output.Goals as goal

pub returns-clause-number : goal.returns-clause-number
returns-clause-number c = λ new. number_new c.args.parts.now.names c.args.name.now c.in_ok-name.name.number c.in_ok-name.ensures.number new
