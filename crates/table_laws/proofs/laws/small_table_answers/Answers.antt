use Rattle.table_laws.proofs.TableNets.{small_table_answers}
use Rattle.table_laws.proofs.laws.small_table_answers.Goals as goal

pub returns : goal.returns
returns c = record { answers = small_table_answers }
