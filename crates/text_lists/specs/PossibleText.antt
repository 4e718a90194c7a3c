-- The text of what is possible, or forced: a record with the names of the listed inputs, and one for each row.
use Rattle.std.specs.Prelude.{◌≡◌, ◌⊎◌, ◌≤◌, ℕ, ◌^◌, Bool, true, false, not, List, ◌∷◌, length, map, codes, count_by, decimal, IfSome, Option, Some}
use Rattle.std.specs.List.{range_with_len}
use Rattle.io_text.specs.Left.{Fields}
use Rattle.io_text.specs.Text.{bit_text, lines_text}
use Rattle.diagram_program.specs.Program.{Drawing}
use Rattle.causes_query.specs.Assignment.{bit_of}
use Rattle.causes_any_state.specs.Possible.{AreRowsBy, PossibleCursor}
use Rattle.causes_any_state.specs.declared.possible.PossibleCause.{PossibleCause}
use Rattle.text_causes.specs.CauseText.{name_of}
use Rattle.text_lists.specs.declared.possible_text.PossibleSummary.{PossibleSummary}

abbrev pub possible_header : Drawing → List ℕ → Fields
possible_header p listed = codes "number" ∷ codes "settled" ∷ map (name_of p) listed

-- whether it is settled what is claimed of the number
abbrev pub mark : Bool → List ℕ
mark true = codes "1"
mark false = codes "?"

-- a number in decimal, whether it is settled, and the number's bits as the k listed inputs have them
abbrev pub possible_record : ℕ → PossibleCause → Fields
possible_record k c = decimal c.number ∷ mark c.is_settled ∷ map (λ place. bit_text (bit_of k place c.number)) (range_with_len 0 k)

abbrev pub possible_text : Drawing → List ℕ → List PossibleCause → List ℕ
possible_text p listed rows = lines_text (possible_header p listed ∷ map (possible_record (length listed)) rows)

-- how many rows there are, and how many aren't settled
abbrev pub IsCount : PossibleSummary → List PossibleCause → Type 0
IsCount s rows = (s.rows ≡ length rows) × (s.unsettled ≡ count_by (λ row. not row.is_settled) rows)

-- A cursor gave these rows, and is where it is after them.
pub record Gave (c : PossibleCursor) (rows : List PossibleCause) (d : PossibleCursor) : Type 0 where
  pub later : c.from ≤ d.from
  pub rows_are : AreRowsBy c.assumed c.program c.coil c.listed c.states c.claim c.from d.from rows
  pub same : d ≡ record c { from = d.from }

-- They are no more than a limit allows.
abbrev pub AreFew : Option ℕ → List PossibleCause → Type 0
AreFew limit rows = IfSome limit (λ n. length rows ≤ n)

-- They were all, or as many as the limit allows.
abbrev pub AreAll : PossibleCursor → List PossibleCause → Option ℕ → Type 0
AreAll d rows limit = (d.from ≡ 2 ^ length d.listed) ⊎ (limit ≡ Some (length rows))
