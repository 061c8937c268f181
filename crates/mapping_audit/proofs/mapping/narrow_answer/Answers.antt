use Rattle.mapping_reading.proofs.FoundReadings.{found_blocks_read, missed_cover_refutes}
use Rattle.mapping_audit.proofs.Answering.{match_some, match_is_none}
use Rattle.mapping_audit.proofs.mapping.narrow_answer.Goals as goal

pub returns-in-Some : goal.returns-in-Some
returns-in-Some c =
    let first = match_some c.in_ok-missed.field-0 c.in-Some.missed _ _ c.in-Some.is c.in_ok-missed.ensures.first in
    record {
      answer = (
        record { blocks = c.args.blocks.now; pinned = c.requires.pinned; narrow = c.requires.narrow; first = first },
        missed_cover_refutes c.args.plain.now.circuit c.args.mapped.now.circuit c.args.moved.now c.requires.pinned.blocked.owners c.args.blocks.now c.in-Some.missed.node c.in-Some.missed.value
            c.nets-nets.ensures.checked.closed c.nets-nets.ensures.checked.acyclic c.nets-mapped.ensures.checked.closed c.requires.pinned.blocked.found first.inside first.misses.first,
      );
    }

pub returns-in-None : goal.returns-in-None
returns-in-None c = record {
  answer = record {
    blocks = c.args.blocks.now;
    pinned = c.requires.pinned;
    narrow = c.requires.narrow;
    reads = found_blocks_read c.args.plain.now.circuit c.args.mapped.now.circuit c.args.moved.now c.requires.pinned.blocked.owners c.args.blocks.now c.requires.moved c.requires.pinned.blocked.found
        c.requires.pinned.blocked.some_node c.requires.pinned.well (match_is_none c.in_ok-missed.field-0 _ _ c.in-None.is c.in_ok-missed.ensures.first);
  };
}
