-- The text of causes that were asked of the runs: a record with the names of the listed inputs, and one for each row.
use Rattle.std.specs.Prelude.{◌≡◌, ◌⊎◌, ◌≤◌, ℕ, ◌^◌, Bool, true, false, List, ◌∷◌, length, map, codes, count_by, decimal, IfSome, Option, Some}
use Rattle.std.specs.List.{range_with_len}
use Rattle.io_text.specs.Left.{Fields}
use Rattle.io_text.specs.Text.{bit_text, lines_text}
use Rattle.diagram_program.specs.Program.{Drawing}
use Rattle.causes_query.specs.Assignment.{bit_of}
use Rattle.causes_in_runs.specs.Rows.{AreRunRows, RunCursor}
use Rattle.causes_in_runs.specs.declared.row.Reached.{Reached}
use Rattle.causes_in_runs.specs.declared.row.Reached.TheVariants.{Run, Possible, Unsettled}
use Rattle.causes_in_runs.specs.declared.row.RunCause.{RunCause}
use Rattle.text_causes.specs.CauseText.{name_of}
use Rattle.text_runs.specs.declared.cause_rows.RunSummary.{RunSummary}

abbrev pub run_header : Drawing → List ℕ → Fields
run_header p listed = codes "number" ∷ codes "settled" ∷ map (name_of p) listed

-- what is known of the runs to a number: that one comes to it, that some state leads to it, or nothing
abbrev pub mark : Reached → List ℕ
mark Run = codes "r"
mark Possible = codes "1"
mark Unsettled = codes "?"

-- No run to it is known.
abbrev pub is_open : Reached → Bool
is_open Run = false
is_open other = true

-- a number in decimal, what is known of the runs to it, and the number's bits as the k listed inputs have them
abbrev pub run_record : ℕ → RunCause → Fields
run_record k c = decimal c.number ∷ mark c.reached ∷ map (λ place. bit_text (bit_of k place c.number)) (range_with_len 0 k)

abbrev pub run_causes_text : Drawing → List ℕ → List RunCause → List ℕ
run_causes_text p listed rows = lines_text (run_header p listed ∷ map (run_record (length listed)) rows)

-- how many rows there are, and to how many no run is known
abbrev pub IsCount : RunSummary → List RunCause → Type 0
IsCount s rows = (s.rows ≡ length rows) × (s.unsettled ≡ count_by (λ row. is_open row.reached) rows)

-- A cursor gave these rows, and is where it is after them.
pub record Gave (c : RunCursor) (rows : List RunCause) (d : RunCursor) : Type 0 where
  pub later : c.from ≤ d.from
  pub rows_are : AreRunRows c.assumed c.program c.state c.coil c.listed c.states c.from d.from rows
  pub same : d ≡ record c { from = d.from }

-- They are no more than a limit allows.
abbrev pub AreFew : Option ℕ → List RunCause → Type 0
AreFew limit rows = IfSome limit (λ n. length rows ≤ n)

-- They were all, or as many as the limit allows.
abbrev pub AreAll : RunCursor → List RunCause → Option ℕ → Type 0
AreAll d rows limit = (d.from ≡ 2 ^ length d.listed) ⊎ (limit ≡ Some (length rows))
