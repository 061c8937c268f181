-- Pieces of a line, one after the other.
use Rattle.std.proofs.Common.{◌≡◌, ℕ, ◌+◌, ◌<◌, List, [], ◌∷◌, ◌++◌, drop, length, get_or, refl, sym, ap, ◌∙◌, append-nil, add-one, drop-cons}
use Rattle.buffered_sink.specs.declared.piece.Piece.{Piece}
use Rattle.buffered_sink.specs.Pieces.{piece_text, pieces_text}

-- the first piece, and the others
pub pieces_text-cons : (piece : Piece) (pieces : List Piece) → pieces_text (piece ∷ pieces) ≡ piece_text piece ++ pieces_text pieces
pieces_text-cons piece [] = sym (append-nil (piece_text piece))
pieces_text-cons piece (next ∷ rest) = refl

-- the pieces from a place on
pub pieces_text-drop : (pieces : List Piece) (place : ℕ) (default : Piece) → place < length pieces
    → pieces_text (drop place pieces) ≡ piece_text (get_or pieces place default) ++ pieces_text (drop (place + 1) pieces)
pieces_text-drop pieces place default within =
    let front : drop place pieces ≡ get_or pieces place default ∷ drop (place + 1) pieces = rw add-one (drop-cons pieces place default within) in
    ap pieces_text front ∙ pieces_text-cons (get_or pieces place default) (drop (place + 1) pieces)
