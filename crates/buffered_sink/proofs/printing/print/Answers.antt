use Rattle.std.proofs.Common.{◌≡◌, ℕ, ◌+◌, ◌<◌, ◌≤◌, ◌⊎◌, List, [], length, inl, inr, arith}
use Rattle.buffered_sink.proofs.PrintLemmas.{Prints-direct, Prints-then}
use Rattle.buffered_sink.proofs.printing.print.Goals as goal

-- a piece that is longer than a page goes out where nothing waits
nothing_waits : (held piece : List ℕ) → (length held + length piece ≤ 65536) ⊎ (held ≡ []) → 65536 < length piece → held ≡ []
nothing_waits held piece (inl fits) long = absurd (omega arith)
nothing_waits held piece (inr none) long = none

pub returns-then-piece-gt-PAGE_BYTES : goal.returns-then-piece-gt-PAGE_BYTES
returns-then-piece-gt-PAGE_BYTES g c =
    let none : c.make_room.new.page ≡ [] = nothing_waits c.make_room.new.page c.args.piece.now c.in_ok-make_room.ensures.room c.if-piece-gt-PAGE_BYTES.true in
    record {
      printed = Prints-then c.write_all.result _ c.args.piece.now c.in_ok-make_room.ensures.printed
          (Prints-direct c.write_all.result _ _ c.args.piece.now none none c.write_all.ensures.ok c.write_all.ensures.write_fault c.write_all.ensures.prefix c.write_all.ensures.faults_stay);
    }
