-- The text of pieces.
use Rattle.std.specs.Prelude.{◌++◌, ℕ, List, [], ◌∷◌, true, false, codes, decimal}
use Rattle.std.specs.Fmt.{signed_decimal}
use Rattle.io_text.specs.declared.pieces.Piece.{Piece}
use Rattle.io_text.specs.declared.pieces.Piece.TheVariants.{Text, Number, Signed, Bit}

abbrev pub piece_text : Piece → List ℕ
piece_text (Text text) = text.now
piece_text (Number number) = decimal number
piece_text (Signed number) = signed_decimal number
piece_text (Bit true) = codes "1"
piece_text (Bit false) = codes "0"

-- the texts of the pieces, one after the other
abbrev pub pieces_text : List Piece → List ℕ
pieces_text [] = []
pieces_text (p ∷ ps) = piece_text p ++ pieces_text ps
