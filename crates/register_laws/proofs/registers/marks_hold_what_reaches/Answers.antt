use Rattle.register_laws.proofs.Outside.{marks_hold_what_reaches}
use Rattle.register_laws.proofs.registers.marks_hold_what_reaches.Goals as goal

pub returns : goal.returns
returns c = record { marked = marks_hold_what_reaches }
