use Rattle.register_laws.proofs.PartRuns.{parts_answer_alike}
use Rattle.register_laws.proofs.parts.parts_answer_alike.Goals as goal

pub returns : goal.returns
returns c = record { alike = parts_answer_alike }
