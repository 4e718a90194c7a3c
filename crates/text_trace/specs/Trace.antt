-- What is written of a stimulus: one scan for each good record, and for the trace (the profile) a row with its moment and the output
-- image, with what is watched beside it where that is asked for.
use Rattle.std.specs.Prelude.{◌≡◌, ◌++◌, ◌∷◌, ◌≤◌, ◌⊎◌, ℕ, zero, suc, List, [], Bool, true, false, codes, decimal, filter, map, zip}
use Rattle.diagram_declarations.specs.declared.decls.Var.{Var}
use Rattle.diagram_declarations.specs.declared.decls.VarKind.TheVariants as kind
use Rattle.diagram_declarations.specs.Decls.{is_input}
use Rattle.diagram_program.specs.Program.{Drawing}
use Rattle.io_text.specs.Left.{Fields}
use Rattle.io_text.specs.Text.{bit_text, line_text}
use Rattle.scan_cycle.specs.Programs.{diagram_of}
use Rattle.scan_cycle.specs.Scan.{after_scan}
use Rattle.scan_cycle.specs.Standing.{Standing}
use Rattle.text_trace.specs.declared.column.Column.{Column}
use Rattle.text_trace.specs.Stimulus.{IsRow, given_by}
use Rattle.text_trace.specs.Watching.{column_name, column_text}

-- ---- the rows of a trace

-- The variable is an output.
abbrev pub is_output : Var → Bool
is_output v = elim v.kind [ kind.Output ↦ true | _ ↦ false ]

-- The values of those variables that are asked for, in order of declaration.
abbrev pub values_of : (Var → Bool) → List Var → List Bool → List Bool
values_of is_asked vars values = map (λ pair. pair.1) (filter (λ pair. is_asked pair.0) (zip vars values))

-- The first line of a trace: the word for the moment, and the titles of the outputs.
abbrev pub trace_header : Drawing → List ℕ
trace_header p = line_text (codes "moment" ∷ map (λ v. v.title) (filter is_output p.decls.vars))

-- The row of a state: its moment, and the values of the outputs.
abbrev pub trace_row : Drawing → Standing → List ℕ
trace_row p s = line_text (decimal s.moment ∷ map bit_text (values_of is_output p.decls.vars s.held.values))

-- The first line with columns behind the outputs: their names too.
abbrev pub watched_header : Drawing → List Column → List ℕ
watched_header p columns = line_text (codes "moment" ∷ (map (λ v. v.title) (filter is_output p.decls.vars) ++ map (column_name p.decls) columns))

-- The row of a state with these columns: their fields too.
abbrev pub watched_row : Drawing → List Column → Standing → List ℕ
watched_row p columns s =
    line_text (decimal s.moment ∷ (map bit_text (values_of is_output p.decls.vars s.held.values) ++ map (column_text p.decls s) columns))

-- ---- the scans, and what is recorded of them

-- The state after a scan at a moment, with these inputs.
abbrev pub scanned : Drawing → Standing → ℕ → List Bool → Standing
scanned p s moment inputs = record { held = after_scan (diagram_of p) moment inputs s.held; kinds = s.kinds; moment = moment }

-- What a simulation records: of how many records at most where there are no scans in between, the text before the scans, which begin in a
-- state, and which text tells of a scan after so many others, from a state, at a moment, with these inputs.
pub record Recorded : Type 1 where
  pub most : ℕ
  pub head : Drawing → Standing → List ℕ
  pub Tells : Drawing → ℕ → Standing → ℕ → List Bool → List ℕ → Type 0

-- A trace is its first line, and of each scan the row of the state after it.
abbrev pub as_trace : Recorded
as_trace = record {
  most = 1000000;
  head = λ p s. trace_header p;
  Tells = λ p done s moment inputs piece. piece ≡ trace_row p (scanned p s moment inputs);
}

-- So is a trace with columns behind the outputs.
abbrev pub as_watched : List Column → Recorded
as_watched columns = record {
  most = 1000000;
  head = λ p s. watched_header p columns;
  Tells = λ p done s moment inputs piece. piece ≡ watched_row p columns (scanned p s moment inputs);
}

-- The rows of two states are the same but for their moments: the outputs have the same values, and these columns the same fields.
abbrev pub AreAlike : Drawing → List Column → Standing → Standing → Type 0
AreAlike p columns s t =
    (values_of is_output p.decls.vars s.held.values ≡ values_of is_output p.decls.vars t.held.values)
    × (map (column_text p.decls s) columns ≡ map (column_text p.decls t) columns)

-- Of a trace of changes this is written of a scan that leads from s to t, after so many others: the row of the first scan, and of a later one
-- its row where that isn't like the row before.
abbrev pub TellsChange : Drawing → List Column → ℕ → Standing → Standing → List ℕ → Type 0
TellsChange p columns zero s t piece = piece ≡ watched_row p columns t
TellsChange p columns (suc n) s t piece =
    (AreAlike p columns s t × (piece ≡ [])) ⊎ ((AreAlike p columns s t → ⊥) × (piece ≡ watched_row p columns t))

-- A trace of changes has the first line of a trace with these columns, and these rows of it.
abbrev pub as_changes : List Column → Recorded
as_changes columns = record {
  most = 1000000;
  head = λ p s. watched_header p columns;
  Tells = λ p done s moment inputs piece. TellsChange p columns done s (scanned p s moment inputs) piece;
}

-- A trace with these columns: of changes, or whole.
abbrev pub as_rows : Bool → List Column → Recorded
as_rows true columns = as_changes columns
as_rows false columns = as_watched columns

-- The inputs of a record's scan: those that the header names have the record's bits, the others the values that they had.
abbrev pub inputs_given : Drawing → List ℕ → List Bool → Standing → List Bool
inputs_given p columns bits s = given_by columns bits (values_of is_input p.decls.vars s.held.values)

-- The record is a moment that isn't before the state's, with a bit for each column; its scan, after so many others, leads from s to t, and the
-- piece tells of it.
pub record IsStep (recorded : Recorded) (p : Drawing) (columns : List ℕ) (done : ℕ) (s : Standing) (fields : Fields) (t : Standing) (piece : List ℕ) : Type 0 where
  pub moment : ℕ
  pub bits : List Bool
  pub row : IsRow columns fields moment bits
  pub later : s.moment ≤ moment
  pub after : t ≡ scanned p s moment (inputs_given p columns bits s)
  pub told : recorded.Tells p done s moment (inputs_given p columns bits s) piece
