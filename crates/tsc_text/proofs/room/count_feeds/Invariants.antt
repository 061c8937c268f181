use Rattle.std.proofs.Common.{◌≡◌, ◌≤◌, count_by, take}
use Rattle.tsc_text.specs.Bytes.{is_feed}
use Rattle.tsc_text.proofs.room.count_feeds.Given as goal

abbrev pub invariant-loop-byte : goal.invariant-loop-byte
invariant-loop-byte l = (l.count ≡ count_by is_feed (take l.byte-index l.text)) × (l.count ≤ l.byte-index)
