-- G3: the forms of a cell that differ least from what is drawn.
use Rattle.std.specs.Prelude.{◌++◌, ◌-◌, ◌+◌, ◌/◌, ◌%◌, ◌==◌, ℕ, zero, suc, Bool, ◌||◌, nat_lt, List, [], ◌∷◌, Option, Some, None, codes, if◌then◌else◌, is_some, map, nat_le, take, drop, replicate, slice_index_or}
use Rattle.diagram_page.specs.Form.{symbols, whole_cells}
use Rattle.diagram_page.specs.declared.form.Form.{Form}
use Rattle.diagram_program.specs.Bytes.{dash, space}
use Rattle.diagram_program.specs.declared.geometry.TheConstants.{CELL}
use Rattle.text_reasons.specs.declared.forms.TheConstants.{FORMS, OFFSETS, WHOLE}

-- The cells that are spelled in one way but for the empty one; and each symbol between dashes, or with spaces behind it.
abbrev pub wholes : List (List ℕ)
wholes = drop 1 (map (λ (e : List ℕ × Form). e.0) whole_cells)

abbrev pub strip_of : ℕ → List ℕ × Form → List ℕ
strip_of filler symbol = replicate 8 dash ++ (symbol.0 ++ replicate 7 filler)

abbrev pub strips : List (List ℕ)
strips = map (strip_of dash) symbols ++ map (strip_of space) symbols

-- The forms of a cell, but for jumps and returns: the cells that are spelled in one way, and then eleven characters of each strip, with one
-- to eight dashes before the symbol.
abbrev pub form_text : ℕ → List ℕ
form_text n =
    if nat_lt n WHOLE then slice_index_or wholes n []
    else take CELL (drop ((n - WHOLE) % OFFSETS) (slice_index_or strips ((n - WHOLE) / OFFSETS) []))

-- In how many characters of the form the cell has another one; past the end of a line are spaces.
abbrev pub differing : List ℕ → List ℕ → ℕ
differing cell [] = 0
differing cell (f ∷ fs) = (if slice_index_or cell 0 space == f then 0 else 1) + differing (drop 1 cell) fs

-- The cell is the form one or two places too far left, or one too far right, as far as it is in its place.
abbrev pub is_beside : List ℕ → List ℕ → Bool
is_beside cell form = (differing cell (drop 1 form) == 0) || ((differing cell (drop 2 form) == 0) || (differing form (drop 1 cell) == 0))

-- How far a cell is from a form: in how many characters it differs, if these are three at most; then 4 if it stands beside its place; and else 5.
abbrev pub apart : List ℕ → List ℕ → ℕ
apart cell form = if nat_le (differing cell form) 3 then differing cell form else (if is_beside cell form then 4 else 5)

-- the first of so many forms, from this one on, that differs in so many characters
abbrev pub near_from : List ℕ → ℕ → ℕ → ℕ → Option ℕ
near_from cell distance n zero = None
near_from cell distance n (suc left) = if apart cell (form_text n) == distance then Some n else near_from cell distance (n + 1) left

-- the first of all, and the next one behind one
unfoldable pub first_near : List ℕ → ℕ → Option ℕ
first_near cell distance = near_from cell distance 0 FORMS

abbrev pub next_near : List ℕ → ℕ → Option ℕ → Option ℕ
next_near cell distance None = None
next_near cell distance (Some n) = near_from cell distance (n + 1) (FORMS - (n + 1))

-- a form behind another one, in quotation marks
abbrev pub quotes : Option ℕ → List ℕ
quotes form = if is_some form then codes "\" \"" else []

abbrev pub told : Option ℕ → List ℕ
told None = []
told (Some n) = form_text n

abbrev pub told_text : ℕ → Option ℕ → Option ℕ → List ℕ
told_text first second third =
    codes "nearest forms: \"" ++ (form_text first ++ (quotes second ++ (told second ++ (quotes third ++ (told third ++ codes "\"\n")))))

-- the first three that differ in so many characters
abbrev pub forms_at : List ℕ → ℕ → Option ℕ → List ℕ
forms_at cell distance None = []
forms_at cell distance (Some n) =
    told_text n (next_near cell distance (Some n)) (next_near cell distance (next_near cell distance (Some n)))

-- How far the nearest form is from the cell.
abbrev pub least : List ℕ → ℕ
least cell =
    if is_some (first_near cell 1) then 1
    else (if is_some (first_near cell 2) then 2 else (if is_some (first_near cell 3) then 3 else 4))

abbrev pub nearest_text : List ℕ → List ℕ
nearest_text cell = forms_at cell (least cell) (first_near cell (least cell))
