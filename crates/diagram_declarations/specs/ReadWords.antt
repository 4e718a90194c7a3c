-- Private to the proofs: words read from left to right, as the code reads them.
use Rattle.std.specs.Prelude.{ℕ, ◌&&◌, ◌==◌, ◌≤◌, nat_le, List, [], ◌∷◌, length, take, drop, Option, Some, None, if◌then◌else◌}
use Rattle.std.specs.List.{find, list_all, prefix_len}
use Rattle.std.specs.Map.{lookup}
use Rattle.std.specs.Char.{is_ascii_digit, to_ascii_uppercase}
use Rattle.diagram_declarations.specs.declared.limits.TheConstants.{MOST_DIGITS}
use Rattle.diagram_declarations.specs.declared.decls.VarKind.{VarKind}
use Rattle.diagram_declarations.specs.declared.decls.VarKind.TheVariants as var_kind
use Rattle.diagram_declarations.specs.declared.kind.BlockKind.{BlockKind}
use Rattle.diagram_declarations.specs.declared.kind.BlockKind.TheVariants as block_kind
use Rattle.diagram_declarations.specs.declared.kind.Parameter.{Parameter}
use Rattle.diagram_declarations.specs.declared.kind.Parameter.TheVariants as parameter
use Rattle.diagram_declarations.specs.declared.decls.Address.{Address}
use Rattle.diagram_declarations.specs.Name.{same_letters}
use Rattle.diagram_declarations.specs.Kind.{traits_of, largest_value}
use Rattle.diagram_declarations.specs.Duration.{number_of, IsDuration}
use Rattle.diagram_declarations.specs.ReadTimes.{◌>>=◌, time_of}
use Rattle.diagram_declarations.specs.Grammar.{IsNumber}

-- what the variables at an address with this letter are for; 73, 81 and 77 are I, Q and M
abbrev pub kind_of : ℕ → Option VarKind
kind_of letter = lookup (λ capital. letter == capital) ((73, var_kind.Input) ∷ (81, var_kind.Output) ∷ (77, var_kind.Memory) ∷ [])

-- ---- numbers

abbrev pub short_number : List ℕ → Option ℕ
short_number word =
    if nat_le 1 (length word) && (nat_le (length word) MOST_DIGITS && list_all is_ascii_digit word) then Some (number_of word) else None

abbrev pub count_of : List ℕ → Option ℕ
count_of word = short_number word >>= λ n. if nat_le n (largest_value parameter.Count) then Some n else None

-- ---- addresses

abbrev pub after_size : List ℕ → List ℕ
after_size [] = []
after_size (b ∷ bs) = if to_ascii_uppercase b == 88 then bs else b ∷ bs

abbrev pub second_of : List ℕ → Option (Option ℕ)
second_of [] = Some None
second_of (b ∷ bs) = if b == 46 then (short_number bs >>= λ n. Some (Some n)) else None

unfoldable pub numbers_of : List ℕ → Option (ℕ × Option ℕ)
numbers_of text = do
  first ← short_number (take (prefix_len is_ascii_digit text) text)
  second ← second_of (drop (prefix_len is_ascii_digit text) text)
  Some (first, second)

abbrev pub placed_at : ℕ → List ℕ → Option (VarKind × Address)
placed_at capital text = do
  kind ← kind_of capital
  numbers ← numbers_of (after_size text)
  Some (kind, record { letter = capital; first = numbers.0; second = numbers.1 })

abbrev pub address_of : List ℕ → Option (VarKind × Address)
address_of [] = None
address_of (a ∷ []) = None
address_of (percent ∷ letter ∷ text) = if percent == 37 then placed_at (to_ascii_uppercase letter) text else None

-- ---- parameters

abbrev pub value_of : Parameter → List ℕ → Option ℕ
value_of parameter.Time word = time_of word
value_of parameter.Count word = count_of word

-- what a parameter can be given
abbrev pub IsValue : Parameter → List ℕ → ℕ → Type 0
IsValue parameter.Time word n = IsDuration word n
IsValue parameter.Count word n = IsNumber word n × (n ≤ largest_value parameter.Count)

-- ---- function blocks

abbrev pub all_kinds : List BlockKind
all_kinds = block_kind.Ton ∷ block_kind.Tof ∷ block_kind.Tp ∷ block_kind.Ctu ∷ block_kind.Ctd ∷ block_kind.Sr ∷ block_kind.Rs ∷ []

-- the kind whose type the word names
abbrev pub block_of : List ℕ → Option BlockKind
block_of word = find (λ k. same_letters word (traits_of k).word) all_kinds
