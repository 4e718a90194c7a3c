-- Grouped causes as conditions: a line with a term for each group, or one statement in Structured Text.
use Rattle.std.specs.Prelude.{◌++◌, ℕ, Bool, true, false, List, [], ◌∷◌, Option, None, Some, codes, flat_map, map}
use Rattle.diagram_program.specs.Program.{Drawing}
use Rattle.search_groups.specs.Groups.{Row}
use Rattle.text_causes.specs.CauseText.{name_of}
use Rattle.text_causes.specs.GroupText.{group_text}
use Rattle.text_causes.specs.declared.group_text.GroupForm.{GroupForm}
use Rattle.text_causes.specs.declared.group_text.GroupForm.TheVariants.{Statement, Table, Terms}

-- what a group says of an input: its name where it is ON, NOT and its name where it is OFF, nothing where it doesn't matter
abbrev pub literal : List ℕ → Option Bool → List (List ℕ)
literal name (Some true) = name ∷ []
literal name (Some false) = (codes "NOT " ++ name) ∷ []
literal name None = []

-- what it says of the inputs with these names
unfoldable pub literals : List (List ℕ) → Row → List (List ℕ)
literals [] row = []
literals (name ∷ names) [] = []
literals (name ∷ names) (c ∷ row) = literal name c ++ literals names row

-- joined by AND; TRUE where nothing is said
abbrev pub term : List (List ℕ) → List ℕ
term [] = codes "TRUE"
term (l ∷ ls) = l ++ flat_map (λ m. codes " AND " ++ m) ls

abbrev pub terms_text : List (List ℕ) → List Row → List ℕ
terms_text names rows = flat_map (λ r. term (literals names r) ++ codes "\n") rows

-- In a statement a term is in brackets, however short it is; TRUE is not.
abbrev pub bracketed : List (List ℕ) → List ℕ
bracketed [] = codes "TRUE"
bracketed (l ∷ ls) = codes "(" ++ (term (l ∷ ls) ++ codes ")")

-- joined by OR, each but the first on a line of its own; FALSE where there is no group
abbrev pub condition : List (List ℕ) → List Row → List ℕ
condition names [] = codes "FALSE"
condition names (r ∷ rs) = bracketed (literals names r) ++ flat_map (λ s. codes "\n    OR " ++ bracketed (literals names s)) rs

abbrev pub statement_text : List ℕ → List (List ℕ) → List Row → List ℕ
statement_text coil names rows = coil ++ (codes " := " ++ (condition names rows ++ codes ";\n"))

-- the text of groups in any form
abbrev pub form_text : GroupForm → Drawing → List ℕ → List Row → List ℕ
form_text Table p listed rows = group_text p listed rows
form_text Terms p listed rows = terms_text (map (name_of p) listed) rows
form_text (Statement coil) p listed rows = statement_text (name_of p coil) (map (name_of p) listed) rows
