use Rattle.buffered_sink.proofs.PieceLemmas.{pieces_text-drop}
use Rattle.buffered_sink.proofs.PrintLemmas.{cut, exits, more}
use Rattle.buffered_sink.proofs.printing.print_all.Goals as goal

pub returns-in_err-print_piece : goal.returns-in_err-print_piece
returns-in_err-print_piece g c = record {
  printed = exits _ c.from_residual.result c.from_residual.ensures.1
      (cut _ c.loop-piece.invariant c.in_err-print_piece.ensures.printed (pieces_text-drop c.args.pieces.now c.loop-piece.piece-index _ c.loop-piece-test.true));
}

pub loop-piece-preserved : goal.loop-piece-preserved
loop-piece-preserved g c =
    more _ c.loop-piece.invariant c.in_ok-print_piece.ensures.printed (pieces_text-drop c.args.pieces.now c.loop-piece.piece-index _ c.loop-piece-test.true)
