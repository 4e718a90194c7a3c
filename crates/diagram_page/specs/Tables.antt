-- Private: tables over the cells of a page, as the code makes them.
use Rattle.std.specs.Prelude.{◌≡◌, ℕ, ◌<◌, ◌/◌, ◌%◌, false, List, length, min, set, slice_index_or, Option, Some, None}
use Rattle.diagram_declarations.specs.Decls.{Declared}
use Rattle.diagram_program.specs.declared.geometry.TheConstants.{RUNGS, COLUMNS, PLACES}
use Rattle.diagram_page.specs.Picture.{Lines, has_text}
use Rattle.diagram_page.specs.Texts.{text_over}
use Rattle.diagram_page.specs.Lines.{part_in, rung_of}
use Rattle.diagram_page.specs.Operand.{word_in, refer_to}
use Rattle.diagram_page.specs.Suiting.{DrawsBlock}
use Rattle.diagram_program.specs.AllPlaces.{all_places}
use Rattle.diagram_program.specs.Geometry.{place}
use Rattle.diagram_page.specs.declared.form.Form.{Form}
use Rattle.diagram_page.specs.declared.lines.Part.{Part}
use Rattle.diagram_page.specs.declared.operand.NameOver.{NameOver}

-- what these characters over a cell are
abbrev pub over_with : Declared → List ℕ → NameOver
over_with decls chars = record { written = has_text chars; name = refer_to decls (word_in chars) }

-- what is over a cell of the k-th rung
unfoldable pub over_read : Declared → Lines → List Part → ℕ → ℕ → ℕ → NameOver
over_read decls lines parts k r c = over_with decls (text_over (rung_of lines (part_in parts k)) r c)

-- over those of the first hundred rungs
unfoldable pub overs_of : Declared → Lines → List Part → List NameOver
overs_of decls lines parts = all_places (over_read decls lines parts) (min (length parts) RUNGS)

-- ---- where each instance is drawn first; places are counted in the order of reading

abbrev pub place_read : ℕ → ℕ
place_read n = place (n / PLACES) (n % PLACES / COLUMNS) (n % PLACES % COLUMNS)

-- the n-th place has a block of the instance
abbrev pub HasBlock : Declared → List (Option Form) → List NameOver → ℕ → ℕ → Type 0
HasBlock decls forms overs n inst =
    DrawsBlock decls (slice_index_or forms (place_read n) None) (slice_index_or overs (place_read n) (record { written = false; name = None })).name inst

-- What is said of an instance: the first one of the first n places that has a block of it.
pub record FirstIn (Has : ℕ → ℕ → Type 0) (n inst : ℕ) (first : Option ℕ) : Type 0 where
  pub none : first ≡ None → (m : ℕ) → m < n → Has m inst → ⊥
  pub some : (at : ℕ) → first ≡ Some at → (at < n) × Has at inst × ((m : ℕ) → m < at → Has m inst → ⊥)

-- for each instance, by its number
pub record AreFirsts (Has : ℕ → ℕ → Type 0) (instances n : ℕ) (firsts : List (Option ℕ)) : Type 0 where
  pub size : length firsts ≡ instances
  pub each : (inst : ℕ) → inst < instances → FirstIn Has n inst (slice_index_or firsts inst None)

-- with an entry of this instance, the n-th place where it has none; an instance that isn't declared gets none
abbrev pub noted_at : ℕ → ℕ → Option ℕ → List (Option ℕ) → List (Option ℕ)
noted_at n inst (Some first) firsts = firsts
noted_at n inst None firsts = set firsts inst (Some n)

abbrev pub noted : ℕ → Option ℕ → List (Option ℕ) → List (Option ℕ)
noted n None firsts = firsts
noted n (Some inst) firsts = noted_at n inst (slice_index_or firsts inst (Some n)) firsts

-- it comes before this place
abbrev pub IsBefore : Option ℕ → ℕ → Type 0
IsBefore None here = ⊥
IsBefore (Some first) here = first < here
