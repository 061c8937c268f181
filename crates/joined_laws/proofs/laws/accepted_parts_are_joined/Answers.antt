use Rattle.joined_laws.proofs.AcceptedParts.{accepted_parts_are_joined}
use Rattle.joined_laws.proofs.laws.accepted_parts_are_joined.Goals as goal

pub returns : goal.returns
returns c = record { joined = accepted_parts_are_joined }
