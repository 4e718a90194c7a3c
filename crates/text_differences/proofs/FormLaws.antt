-- The text of a form in its parts.
use Rattle.std.proofs.Common.{◌≡◌, ◌∙◌, ℕ, ◌==◌, Bool, true, false, List, [], ◌∷◌, ◌++◌, sym, refl, ap, append_assoc, append-nil, arith, codes, flat_map, length, map, ne_eqb}
use Rattle.io_text.specs.Text.{line_text, lines_text}
use Rattle.io_text.proofs.Commas.{lines_text-append}
use Rattle.diagram_program.specs.Program.{Drawing}
use Rattle.search_groups.specs.Groups.{Row}
use Rattle.search_differences.specs.declared.side.Side.{Side}
use Rattle.search_differences.specs.declared.side.Side.TheVariants.{Old, New}
use Rattle.text_causes.specs.CauseText.{name_of}
use Rattle.text_causes.specs.Forms.{end_text}
use Rattle.text_causes.specs.TermText.{bracketed, condition, literals, statement_text, term}
use Rattle.text_causes.specs.declared.group_text.GroupForm.{GroupForm}
use Rattle.text_causes.specs.declared.group_text.GroupForm.TheVariants.{Statement, Table, Terms}
use Rattle.text_differences.specs.Forms.{rows_text, side_text, start_text}
use Rattle.text_differences.specs.GroupText.{difference_group_header, difference_group_record, difference_group_text, sign, signed_terms, suffix}

-- ---- the rows of a side in each form

table_is : (side : Side) (names : List (List ℕ)) (first : Bool) (rows : List Row) → lines_text (map (difference_group_record side) rows) ≡ rows_text Table side names first rows
unfolding rows_text
table_is side names first [] = refl
table_is side names first (r ∷ rs) = ap (λ t. line_text (difference_group_record side r) ++ t) (table_is side names false rs)

terms_are : (side : Side) (names : List (List ℕ)) (first : Bool) (rows : List Row) → signed_terms side names rows ≡ rows_text Terms side names first rows
unfolding rows_text
terms_are side names first [] = refl
terms_are side names first (r ∷ rs) = ap (λ t. (sign side ++ (term (literals names r) ++ codes "\n")) ++ t) (terms_are side names false rs)

others_are : (coil : ℕ) (side : Side) (names : List (List ℕ)) (rows : List Row)
    → flat_map (λ s. codes "\n    OR " ++ bracketed (literals names s)) rows ≡ rows_text (Statement coil) side names false rows
unfolding rows_text
others_are coil side names [] = refl
others_are coil side names (r ∷ rs) = ap (λ t. (codes "\n    OR " ++ bracketed (literals names r)) ++ t) (others_are coil side names rs)

condition_is : (coil : ℕ) (side : Side) (names : List (List ℕ)) (rows : List Row)
    → condition names rows ++ codes ";\n" ≡ rows_text (Statement coil) side names true rows ++ end_text (Statement coil) (length rows == 0)
unfolding rows_text
condition_is coil side names [] = refl
condition_is coil side names (r ∷ rs) =
    let some : (length (r ∷ rs) == 0) ≡ false = ne_eqb (length (r ∷ rs)) 0 (λ e. omega (arith, e)) in
    ap (λ t. (bracketed (literals names r) ++ t) ++ codes ";\n") (others_are coil side names rs)
    ∙ ap (λ b. rows_text (Statement coil) side names true (r ∷ rs) ++ end_text (Statement coil) b) (sym some)

statement_is : (coil : ℕ) (p : Drawing) (listed : List ℕ) (side : Side) (rows : List Row)
    → statement_text (name_of p coil ++ suffix side) (map (name_of p) listed) rows ≡ side_text (Statement coil) p listed side rows
statement_is coil p listed side rows =
    let names = map (name_of p) listed in
    let text = rows_text (Statement coil) side names true rows ++ end_text (Statement coil) (length rows == 0) in
    ap (λ t. (name_of p coil ++ suffix side) ++ (codes " := " ++ t)) (condition_is coil side names rows)
    ∙ append_assoc (name_of p coil) (suffix side) (codes " := " ++ text)
    ∙ ap (λ t. name_of p coil ++ t) (sym (append_assoc (suffix side) (codes " := ") text))
    ∙ sym (append_assoc (name_of p coil) (suffix side ++ codes " := ") text)

-- ---- the whole text

pub form_parts : (form : GroupForm) (p : Drawing) (listed : List ℕ) (old_rows new_rows : List Row)
    → difference_group_text form p listed old_rows new_rows ≡ start_text form p listed ++ (side_text form p listed Old old_rows ++ side_text form p listed New new_rows)
form_parts Table p listed old_rows new_rows =
    let names = map (name_of p) listed in
    ap (λ t. line_text (difference_group_header p listed) ++ t)
    (lines_text-append (map (difference_group_record Old) old_rows) (map (difference_group_record New) new_rows)
    ∙ ap (λ t. t ++ lines_text (map (difference_group_record New) new_rows)) (table_is Old names true old_rows ∙ sym (append-nil (rows_text Table Old names true old_rows)))
    ∙ ap (λ t. side_text Table p listed Old old_rows ++ t) (table_is New names true new_rows ∙ sym (append-nil (rows_text Table New names true new_rows))))
form_parts Terms p listed old_rows new_rows =
    let names = map (name_of p) listed in
    ap (λ t. t ++ signed_terms New names new_rows) (terms_are Old names true old_rows ∙ sym (append-nil (rows_text Terms Old names true old_rows)))
    ∙ ap (λ t. side_text Terms p listed Old old_rows ++ t) (terms_are New names true new_rows ∙ sym (append-nil (rows_text Terms New names true new_rows)))
form_parts (Statement coil) p listed old_rows new_rows =
    let names = map (name_of p) listed in
    ap (λ t. t ++ statement_text (name_of p coil ++ suffix New) names new_rows) (statement_is coil p listed Old old_rows)
    ∙ ap (λ t. side_text (Statement coil) p listed Old old_rows ++ t) (statement_is coil p listed New new_rows)
