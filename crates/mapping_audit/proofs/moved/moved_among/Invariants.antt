use Rattle.std.proofs.Common.{◌≡◌, map, take}
use Rattle.tsc_net.specs.Names.{place_of_text}
use Rattle.mapping_audit.proofs.moved.moved_among.Given as goal

-- the nets so far
abbrev pub invariant-loop-net : goal.invariant-loop-net
invariant-loop-net l = l.moved.items ≡ map (place_of_text l.mapped.names) (take l.net l.plain.names)
