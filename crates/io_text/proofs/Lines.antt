-- Records that are written line by line.
use Rattle.std.proofs.Common.{◌≡◌, ◌∙◌, ℕ, List, [], ◌∷◌, ◌++◌, sym, ap, append-nil}
use Rattle.io_text.specs.Buffer.{SendsAll}
use Rattle.io_text.specs.Log.{PutsPrefix, WriteLog}
use Rattle.io_text.proofs.Sending.{sends_prefix, sends_more, sends_same}
use Rattle.io_text.specs.Left.{Fields}
use Rattle.io_text.specs.Text.{line_text, lines_text}
use Rattle.io_text.proofs.Commas.{lines_text-append}

-- one line more
pub line_more : (a b c : WriteLog) (w0 w1 w2 : List ℕ) (rows longer : List Fields) (r : Fields) → longer ≡ rows ++ r ∷ [] → SendsAll a b w0 w1 (lines_text rows)
    → SendsAll b c w1 w2 (line_text r) → SendsAll a c w0 w2 (lines_text longer)
line_more a b c w0 w1 w2 rows longer r e p q =
    let text : lines_text longer ≡ lines_text rows ++ line_text r = ap lines_text e ∙ lines_text-append rows (r ∷ []) ∙ ap (λ t. lines_text rows ++ t) (append-nil (line_text r)) in
    sends_same a c w0 w2 (lines_text rows ++ line_text r) (lines_text longer) (sym text) (sends_more a b c w0 w1 w2 (lines_text rows) (line_text r) p q)

-- a line that is not written to its end
pub line_prefix : (a b c : WriteLog) (w0 w1 : List ℕ) (rows all more : List Fields) (r : Fields) → all ≡ rows ++ r ∷ more → SendsAll a b w0 w1 (lines_text rows)
    → PutsPrefix b c (w1 ++ line_text r) → PutsPrefix a c (w0 ++ lines_text all)
line_prefix a b c w0 w1 rows all more r e p q =
    sends_prefix a b c w0 w1 (lines_text all) (lines_text rows) (line_text r) (lines_text more) (ap lines_text e ∙ lines_text-append rows (r ∷ more)) p q
