use Rattle.table_laws.proofs.TableNets.{tables_answer}
use Rattle.table_laws.proofs.laws.tables_answer.Goals as goal

pub returns : goal.returns
returns c = record { answers = tables_answer }
