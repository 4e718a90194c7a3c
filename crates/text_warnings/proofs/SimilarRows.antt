-- The row of two names that are similar, and all rows, as they are written.
use Rattle.std.proofs.Common.{◌≡◌, ◌∙◌, ◌++◌, ◌∷◌, [], ℕ, List, ap, ap₂, append_assoc, append-nil, codes, length, refl}
use Rattle.std.specs.List.{flat_map, range_with_len}
use Rattle.diagram_declarations.specs.Decls.{names_of}
use Rattle.text_cross_reference.specs.Uses.{symbols_of}
use Rattle.io_text.specs.Left.{Fields}
use Rattle.io_text.specs.Text.{line_text, lines_text}
use Rattle.io_text.proofs.Commas.{lines_text-append}
use Rattle.diagram_program.specs.Program.{Drawing}
use Rattle.text_warnings.specs.Decided.{decided}
use Rattle.text_warnings.specs.Told.{Told}
use Rattle.text_warnings.specs.Warnings.{all_warnings, declared_rows, name_at_number, name_rows, place_rows, row_if, row_if_unused, row_if_warned, row_of_names, rows_at, rows_of_name, similar_row, unused_rows, warning_rows}

similar_line : (name earlier : List ℕ) → line_text (similar_row name earlier) ≡ codes "warning,similar_names,,,," ++ (name ++ (codes " " ++ (earlier ++ codes "\n")))
similar_line name earlier =
    ap (λ t. codes "warning,similar_names,,,," ++ t)
    (ap (λ t. t ++ codes "\n") (append-nil (name ++ (codes " " ++ earlier))) ∙ append_assoc name (codes " " ++ earlier) (codes "\n"))

pub similar_lines : (name earlier : List ℕ)
    → lines_text (similar_row name earlier ∷ []) ≡ codes "warning,similar_names,,,," ++ (name ++ (codes " " ++ (earlier ++ codes "\n")))
similar_lines name earlier = append-nil (line_text (similar_row name earlier)) ∙ similar_line name earlier

-- the text of the rows of declarations, and of all rows
pub declared_text : (d : Drawing) → lines_text (declared_rows decided d) ≡ lines_text (name_rows decided d.decls) ++ lines_text (unused_rows decided d)
unfolding declared_rows
declared_text d = lines_text-append (name_rows decided d.decls) (unused_rows decided d)

pub rows_text : (d : Drawing) → lines_text (warning_rows decided d) ≡ lines_text (declared_rows decided d) ++ lines_text (place_rows decided d)
unfolding warning_rows
rows_text d = lines_text-append (declared_rows decided d) (place_rows decided d)

-- ---- whatever tells what holds, the rows are the same

same_row : {Holds : Type 0} (a b : Dec Holds) (row : Fields) → row_if a row ≡ row_if b row
same_row (yes p) (yes q) row = refl
same_row (yes p) (no none) row = absurd (none p)
same_row (no none) (yes p) row = absurd (none p)
same_row (no none) (no other) row = refl

same_each : {A : Type 0} (f g : A → List Fields) → ((x : A) → f x ≡ g x) → (xs : List A) → flat_map f xs ≡ flat_map g xs
same_each f g h [] = refl
same_each f g h (x ∷ xs) = ap₂ (λ a b. a ++ b) (h x) (same_each f g h xs)

pub rows_told : (t u : Told) (d : Drawing) → warning_rows t d ≡ warning_rows u d
unfolding warning_rows declared_rows name_rows unused_rows place_rows rows_of_name rows_at
rows_told t u d =
    ap₂ (λ a b. a ++ b) (ap₂ (λ a b. a ++ b)
    (same_each (rows_of_name t d.decls) (rows_of_name u d.decls) (λ n. same_each (row_of_names t d.decls n) (row_of_names u d.decls n)
    (λ earlier. same_row (t.similar (name_at_number d.decls n) (name_at_number d.decls earlier)) (u.similar (name_at_number d.decls n) (name_at_number d.decls earlier)) _) (range_with_len 0 n)) (range_with_len 0 (length (names_of d.decls))))
    (same_each (row_if_unused t d) (row_if_unused u d) (λ s. same_row (t.unused d s) (u.unused d s) _) (symbols_of d.decls)))
    (same_each (rows_at t d) (rows_at u d) (λ n. same_each (row_if_warned t d n) (row_if_warned u d n) (λ w. same_row (t.warned d n w) (u.warned d n w) _) all_warnings) (range_with_len 0 (length d.sites)))
