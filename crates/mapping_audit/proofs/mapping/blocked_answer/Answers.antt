use Rattle.mapping_reading.proofs.FoundReadings.{open_pin_refutes}
use Rattle.mapping_audit.proofs.mapping.blocked_answer.Goals as goal

pub returns-in-Some : goal.returns-in-Some
returns-in-Some c = record {
  answer = (
    record { blocks = c.args.blocks.now; blocked = c.requires.blocked; first = c.in-Some.ensures.first },
    open_pin_refutes c.args.plain.now.circuit c.args.mapped.now.circuit c.args.moved.now c.requires.blocked.owners c.args.blocks.now c.in-Some.open.gate c.in-Some.open.pin c.requires.blocked.found c.in-Some.ensures.first,
  );
}
