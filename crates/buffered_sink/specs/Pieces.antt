-- The text of the pieces of a line.
use Rattle.std.specs.Prelude.{ℕ, List, [], ◌∷◌, ◌++◌}
use Rattle.std.specs.Fmt.{decimal}
use Rattle.buffered_sink.specs.declared.piece.Piece.{Piece}
use Rattle.buffered_sink.specs.declared.piece.Piece.TheVariants.{Text, Number}

-- the text of a piece
abbrev pub piece_text : Piece → List ℕ
piece_text (Text bytes) = bytes.now
piece_text (Number value) = decimal value

-- the text of pieces, one after the other
abbrev pub pieces_text : List Piece → List ℕ
pieces_text [] = []
pieces_text (piece ∷ []) = piece_text piece
pieces_text (piece ∷ next ∷ rest) = piece_text piece ++ pieces_text (next ∷ rest)
