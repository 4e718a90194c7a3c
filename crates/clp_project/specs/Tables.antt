-- The tables of a project. Each line with data is an entry, and its fields have commas (44) between them.
use Rattle.std.specs.Prelude.{ℕ, ◌==◌, ◌&&◌, ◌||◌, nat_eq, not, Bool, false, List, [], ◌∷◌, codes, Option, Some, None, if◌then◌else◌}
use Rattle.std.specs.List.{list_all, list_any, starts_with}
use Rattle.clp_project.specs.declared.table.Preset.{Preset}
use Rattle.clp_project.specs.declared.table.Section.{Section}
use Rattle.clp_project.specs.declared.table.ClpSymbol.{ClpSymbol}
use Rattle.clp_project.specs.declared.table.Expression.{Expression}
use Rattle.clp_project.specs.Format.{number_in, other_in, before, behind, is_data}
use Rattle.clp_project.specs.Rungs.{with_first}

abbrev pub preset_with : Option ℕ → Option ℕ → Option ℕ → Option Preset
preset_with (Some base) (Some count) (Some mode) = Some (record { base = base; count = count; mode = mode })
preset_with base count mode = None

-- 0 where there is no third field
abbrev pub mode_in : List ℕ → Option ℕ
mode_in [] = Some 0
mode_in (b ∷ bs) = number_in (before 44 (b ∷ bs))

-- A preset is `base,count` or `base,count,mode`.
unfoldable pub preset_in : List ℕ → Option Preset
preset_in line = preset_with (number_in (before 44 line)) (number_in (before 44 (behind 44 line))) (mode_in (behind 44 (behind 44 line)))

abbrev pub presets_in : List (List ℕ) → Option (List Preset)
presets_in [] = Some []
presets_in (l ∷ ls) = if is_data l then with_first (preset_in l) (presets_in ls) else presets_in ls

abbrev pub section_with : Option ℕ → Option ℕ → Option (Option ℕ) → Option ℕ → Option ℕ → Option Section
section_with (Some number) (Some language) (Some subroutine) (Some first) (Some last) =
    Some (record { number = number; language = language; subroutine = subroutine; first = first; last = last })
section_with number language subroutine first last = None

-- A section is `number,language,subroutine,first,last`, and more that says nothing of the scan.
unfoldable pub section_in : List ℕ → Option Section
section_in line =
    section_with (number_in (before 44 line)) (number_in (before 44 (behind 44 line))) (other_in (before 44 (behind 44 (behind 44 line))))
    (number_in (before 44 (behind 44 (behind 44 (behind 44 line))))) (number_in (before 44 (behind 44 (behind 44 (behind 44 (behind 44 line))))))

abbrev pub sections_in : List (List ℕ) → Option (List Section)
sections_in [] = Some []
sections_in (l ∷ ls) = if is_data l then with_first (section_in l) (sections_in ls) else sections_in ls

-- A symbol: the variable, its name, and a comment.
pub record SymbolRead : Type 0 where
  pub variable : List ℕ
  pub name : List ℕ
  pub comment : List ℕ

abbrev pub symbol_of : ClpSymbol → SymbolRead
symbol_of s = record { variable = s.variable.now; name = s.name.now; comment = s.comment.now }

unfoldable pub symbol_in : List ℕ → SymbolRead
symbol_in line = record { variable = before 44 line; name = before 44 (behind 44 line); comment = behind 44 (behind 44 line) }

abbrev pub symbols_in : List (List ℕ) → List SymbolRead
symbols_in [] = []
symbols_in (l ∷ ls) = if is_data l then symbol_in l ∷ symbols_in ls else symbols_in ls

-- What a compare or an operate computes, and its number, where the line has one.
pub record ExpressionRead : Type 0 where
  pub number : Option ℕ
  pub text : List ℕ

abbrev pub expression_of : Expression → ExpressionRead
expression_of e = record { number = e.number; text = e.text.now }

unfoldable pub expression_in : List ℕ → ExpressionRead
expression_in line = record { number = number_in (before 44 line); text = behind 44 line }

abbrev pub expressions_in : List (List ℕ) → List ExpressionRead
expressions_in [] = []
expressions_in (l ∷ ls) = if is_data l then expression_in l ∷ expressions_in ls else expressions_in ls

-- An operate is `@class/number@=..`. It writes a number in memory (class 200), or a whole number or another one for the machine
-- (280, 310), and so no bit and no preset.
abbrev pub is_assignment_of_number : List ℕ → Bool
is_assignment_of_number text =
    starts_with nat_eq text (codes "@200/") || (starts_with nat_eq text (codes "@280/") || starts_with nat_eq text (codes "@310/"))

abbrev pub has_number : ℕ → Expression → Bool
has_number n e = elim e.number [ Some m ↦ m == n | None ↦ false ]

abbrev pub is_harmless : ℕ → Expression → Bool
is_harmless n e = not (has_number n e) || is_assignment_of_number e.text.now

-- There is an expression with the number, and it writes a number.
abbrev pub writes_number : List Expression → ℕ → Bool
writes_number expressions n = list_any (has_number n) expressions && list_all (is_harmless n) expressions
