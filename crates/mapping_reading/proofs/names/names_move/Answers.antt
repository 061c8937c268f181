use Rattle.mapping_reading.proofs.NamesMoved.{names_move}
use Rattle.mapping_reading.proofs.names.names_move.Goals as goal

pub returns : goal.returns
returns c = record { moved = names_move }
