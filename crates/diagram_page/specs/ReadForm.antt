-- Private: the form of a cell as the code finds it. That this is the form of Form.antt, both ways, is the law `cell_forms`.
use Rattle.std.specs.Prelude.{◌≡◌, ◌⊎◌, ℕ, Bool, ◌&&◌, ◌||◌, ◌==◌, List, [], ◌∷◌, take, drop, codes, Option, Some, None, option_map, if◌then◌else◌}
use Rattle.std.specs.List.{find, list_all, prefix_len}
use Rattle.std.specs.Option.{option_or}
use Rattle.std.specs.Str.{bytes_eq}
use Rattle.diagram_declarations.specs.Name.{is_name_byte}
use Rattle.diagram_declarations.specs.Text.{begins_with}
use Rattle.diagram_program.specs.Bytes.{dash, space}
use Rattle.diagram_page.specs.declared.form.Form.{Form}
use Rattle.diagram_page.specs.declared.form.Form.TheVariants.{Jump, Return}
use Rattle.diagram_page.specs.Form.{whole_cells, symbols, is_label_name}

-- spellings, each with the form that it has
abbrev pub Table : Type 0
Table = List (List ℕ × Form)

-- the table has the spelling with this form
abbrev pub Lists : Table → List ℕ → Form → Type 0
Lists [] chars form = ⊥
Lists (e ∷ es) chars form = ((chars ≡ e.0) × (form ≡ e.1)) ⊎ Lists es chars form

abbrev pub lookup : Table → List ℕ → Option Form
lookup table chars = option_map (λ e. e.1) (find (λ e. bytes_eq e.0 chars) table)

abbrev pub dashes : List ℕ → ℕ
dashes chars = prefix_len (λ b. b == dash) chars

abbrev pub is_filler : List ℕ → Bool
is_filler tail = list_all (λ b. b == dash) tail || list_all (λ b. b == space) tail

-- a symbol at the start, with nothing but its filler after it
abbrev pub symbol_at : List ℕ → Option Form
symbol_at (a ∷ b ∷ c ∷ tail) = if is_filler tail then lookup symbols (a ∷ b ∷ c ∷ []) else None
symbol_at _ = None

-- a label, and then spaces alone
unfoldable pub label_at : List ℕ → List ℕ
label_at text = take (prefix_len is_name_byte text) text

unfoldable pub behind_label : List ℕ → List ℕ
behind_label text = drop (prefix_len is_name_byte text) text

abbrev pub label_named : List ℕ → Option (List ℕ)
label_named word = if is_label_name word then Some word else None

abbrev pub jump_with : Option (List ℕ) → Option Form
jump_with None = None
jump_with (Some label) = Some (Jump label)

abbrev pub jump_to : List ℕ → Option Form
jump_to text = if list_all (λ b. b == space) (behind_label text) then jump_with (label_named (label_at text)) else None

-- `>>` (62) and a label
abbrev pub jump_at : List ℕ → Option Form
jump_at (a ∷ b ∷ text) = if b == 62 then jump_to text else None
jump_at _ = None

abbrev pub return_at : List ℕ → Option Form
return_at text = if bytes_eq (codes "<RETURN>") (take 8 text) && list_all (λ b. b == space) (drop 8 text) then Some Return else None

-- 62 is `>`, 60 is `<`
abbrev pub mark_at : List ℕ → Option Form
mark_at text = if begins_with 62 text then jump_at text else (if begins_with 60 text then return_at text else symbol_at text)

unfoldable pub marked_at : List ℕ → Option Form
marked_at chars = if dashes chars == 0 then None else mark_at (drop (dashes chars) chars)

unfoldable pub form_at : List ℕ → Option Form
form_at chars = option_or (lookup whole_cells chars) (marked_at chars)
