-- The rungs of a project: 6 rows of 10 elements each.
use Rattle.std.specs.Prelude.{ℕ, ◌==◌, ◌&&◌, nat_eq, List, [], ◌∷◌, ◌++◌, length, drop, codes, Option, Some, None, Result, Ok, Err, if◌then◌else◌}
use Rattle.std.specs.List.{slice_split, starts_with}
use Rattle.clp_project.specs.declared.element.Element.{Element}
use Rattle.clp_project.specs.declared.rung.ClpRung.{ClpRung}
use Rattle.clp_project.specs.Format.{number_in, other_in, before, behind, is_data, is_line, body_of, value_of}

-- ---- elements

abbrev pub element_with : Option ℕ → Option ℕ → Option ℕ → Option ℕ → Option Element
element_with (Some kind) (Some link) (Some class) (Some number) = Some (record { kind = kind; link = link; class = class; number = number })
element_with kind link class number = None

-- An element is `kind-link-class/number`; 45 is the dash, 47 the slash.
unfoldable pub element_in : List ℕ → Option Element
element_in field =
    element_with (number_in (before 45 field)) (number_in (before 45 (behind 45 field)))
    (number_in (before 47 (behind 45 (behind 45 field)))) (number_in (behind 47 (behind 45 (behind 45 field))))

-- ---- rows

abbrev pub with_first : {A : Type 0} → Option A → Option (List A) → Option (List A)
with_first (Some x) (Some xs) = Some (x ∷ xs)
with_first first others = None

-- what each of the fields is, where each is an element
abbrev pub elements_in : List (List ℕ) → Option (List Element)
elements_in [] = Some []
elements_in (f ∷ fs) = with_first (element_in f) (elements_in fs)

-- the fields of a line, with commas (44) between them
abbrev pub fields_of : List ℕ → List (List ℕ)
fields_of line = slice_split (λ b. b == 44) line

-- A row has 10 elements.
unfoldable pub row_in : List ℕ → Option (List Element)
row_in line = if length (fields_of line) == 10 then elements_in (fields_of line) else None

abbrev pub joined : {A : Type 0} → Option (List A) → Option (List A) → Option (List A)
joined (Some xs) (Some ys) = Some (xs ++ ys)
joined xs ys = None

-- the elements of all rows, one row after the other
abbrev pub rows_in : List (List ℕ) → Option (List Element)
rows_in [] = Some []
rows_in (l ∷ ls) = if is_data l then joined (row_in l) (rows_in ls) else rows_in ls

-- ---- rungs

-- A rung as it stands in a project: its number, that of the next one, its label and comment, and 60 elements by row and column.
pub record RungRead : Type 0 where
  pub number : ℕ
  pub next : Option ℕ
  pub label : List ℕ
  pub comment : List ℕ
  pub elements : List Element

abbrev pub read_of : ClpRung → RungRead
read_of r = record { number = r.number; next = r.next; label = r.label.now; comment = r.comment.now; elements = r.elements }

-- A rung that doesn't say which one is next has none.
abbrev pub next_in : List ℕ → Option (Option ℕ)
next_in [] = Some None
next_in (b ∷ bs) = other_in (b ∷ bs)

-- the rung with these elements that the lines of a part are
abbrev pub rung_with : ℕ → List (List ℕ) → List Element → Option RungRead
rung_with number body elements =
    elim (next_in (value_of (codes "#NEXTRUNG=") body)) [
      | Some next ↦
          if length elements == 60
          then Some (record { number = number; next = next; label = value_of (codes "#LABEL=") body; comment = value_of (codes "#COMMENT=") body; elements = elements })
          else None
      | None ↦ None
    ]

unfoldable pub rung_in : ℕ → List (List ℕ) → Option RungRead
rung_in number body = elim (rows_in body) [ Some elements ↦ rung_with number body elements | None ↦ None ]

-- the number of the rung whose part begins with this line, `_FILE-rung_NUMBER.csv`; 46 is the point
unfoldable pub rung_number : List ℕ → Option ℕ
rung_number line =
    if starts_with nat_eq line (codes "_FILE-rung_") && is_line (codes "csv") (behind 46 line) then number_in (before 46 (drop 11 line)) else None

-- One more rung before others; or the number of the first one that is none.
abbrev pub with_rung : ℕ → Option RungRead → Result (List RungRead) ℕ → Result (List RungRead) ℕ
with_rung number (Some rung) (Ok rungs) = Ok (rung ∷ rungs)
with_rung number (Some rung) (Err other) = Err other
with_rung number None rungs = Err number

-- the rungs of all parts that are one, in their order in the file
abbrev pub rungs_in : List (List ℕ) → Result (List RungRead) ℕ
rungs_in [] = Ok []
rungs_in (l ∷ ls) = elim (rung_number l) [ Some number ↦ with_rung number (rung_in number (body_of ls)) (rungs_in ls) | None ↦ rungs_in ls ]
