use Rattle.std.proofs.Common.{take}
use Rattle.mapping_audit.specs.NamesFound.{HasPlaces}
use Rattle.mapping_audit.proofs.moved.places_of.Given as goal

-- the names of the nets so far
abbrev pub invariant-loop-number : goal.invariant-loop-number
invariant-loop-number l = HasPlaces (take l.number l.net.names) l.places
