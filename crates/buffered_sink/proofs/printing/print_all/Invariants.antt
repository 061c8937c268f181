-- The pieces before this one were printed.
use Rattle.std.proofs.Common.{drop}
use Rattle.buffered_sink.specs.Output.{output}
use Rattle.buffered_sink.specs.Pieces.{pieces_text}
use Rattle.buffered_sink.proofs.PrintLemmas.{IsUnderWay}
use Rattle.buffered_sink.proofs.printing.print_all.Given as goal

abbrev pub invariant-loop-piece : goal.invariant-loop-piece
invariant-loop-piece g l =
    IsUnderWay (output (g.K.Sink.written l.initial.sink) (g.K.Sink.faults l.initial.sink) l.initial.page) (output (g.K.Sink.written l.sink) (g.K.Sink.faults l.sink) l.page)
    (pieces_text l.pieces) (pieces_text (drop l.piece-index l.pieces))
