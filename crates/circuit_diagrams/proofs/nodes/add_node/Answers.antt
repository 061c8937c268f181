use Rattle.diagrams.proofs.Waits.{same_error}
use Rattle.circuit_diagrams.proofs.nodes.add_node.Goals as goal

pub returns-in-Ok-clause-made : goal.returns-in-Ok-clause-made
returns-in-Ok-clause-made c = λ v kept stand all. c.in-Ok.ensures.made v kept (stand c.if-not-marks-place.false) (all c.if-not-marks-place.false)

pub returns-in-Err-clause-made : goal.returns-in-Err-clause-made
returns-in-Err-clause-made c = λ v kept stand all. c.in-Err.ensures.made v kept (stand c.if-not-marks-place.false) (all c.if-not-marks-place.false)

pub returns-in-Err-clause-short : goal.returns-in-Err-clause-short
returns-in-Err-clause-short c = λ spent v kept stand all. c.in-Err.ensures.short (same_error c.in-Err.e _ spent) v kept (stand c.if-not-marks-place.false) (all c.if-not-marks-place.false)
