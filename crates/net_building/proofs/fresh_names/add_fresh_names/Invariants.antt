use Rattle.std.proofs.Common.{◌≡◌, ◌+◌, ◌-◌, map, take, length}
use Rattle.std.specs.Fn.{iterate}
use Rattle.std.specs.List.{range_with_len}
use Rattle.tsc_net.specs.Names.{IsNumbering}
use Rattle.tsc_net.specs.Parts.{with_fresh}
use Rattle.net_building.specs.Names.{numbered}
use Rattle.net_building.proofs.fresh_names.add_fresh_names.Given as goal

abbrev pub invariant-loop-place : goal.invariant-loop-place
invariant-loop-place l = record {
  left : iterate with_fresh (l.count - l.place) l.parts ≡ iterate with_fresh l.count l.fn.parts;
  numbers : l.names ≡ map numbered (range_with_len (length l.fn.parts.names) l.place);
  counted : length l.parts.names ≡ length l.fn.parts.names + l.place;
  named : l.parts.named ≡ l.fn.parts.named;
  first : take (length l.fn.parts.names) l.parts.names ≡ l.fn.parts.names;
  distinct : IsNumbering l.fn.parts.names → IsNumbering l.parts.names;
}
