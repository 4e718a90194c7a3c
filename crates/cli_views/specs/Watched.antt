-- What is watched of a simulation beside its outputs: what the names of `--watch` are, or what `--watch-all` takes.
use Rattle.std.specs.Prelude.{◌≡◌, ◌++◌, ◌+◌, ◌∷◌, ℕ, Bool, true, false, List, [], Option, None, Some, filter, flat_map, is_none, length, map, position, if◌then◌else◌, slice_get, slice_index_or}
use Rattle.std.specs.List.{range_with_len}
use Rattle.diagram_declarations.specs.declared.decls.Instance.{Instance}
use Rattle.diagram_declarations.specs.declared.decls.Symbol.{Symbol}
use Rattle.diagram_declarations.specs.declared.decls.Symbol.TheVariants as symbol
use Rattle.diagram_declarations.specs.declared.decls.Var.{Var}
use Rattle.diagram_declarations.specs.declared.decls.VarKind.TheVariants as kind
use Rattle.diagram_declarations.specs.declared.kind.Parameter.{Parameter}
use Rattle.diagram_declarations.specs.declared.kind.Parameter.TheVariants as parameter
use Rattle.diagram_declarations.specs.Decls.{Declared, find}
use Rattle.diagram_declarations.specs.Kind.{traits_of}
use Rattle.diagram_declarations.specs.Name.{is_name}
use Rattle.text_trace.specs.declared.column.Column.{Column}
use Rattle.text_trace.specs.declared.column.Column.TheVariants as column

-- ---- by name

-- the variable or the instance with this name, whatever its letter case
abbrev pub symbol_of : Declared → List ℕ → Option Symbol
symbol_of decls word = if is_name word then find decls word else None

-- The name of this number, counted from 1, is the first that isn't declared.
abbrev pub IsUnknownName : Declared → List (List ℕ) → ℕ → Type 0
IsUnknownName decls words number = (at : ℕ) × (position (λ word. is_none (symbol_of decls word)) words ≡ Some at) × (number ≡ at + 1)

-- ---- all

abbrev pub is_memory : Var → Bool
is_memory v = elim v.kind [ kind.Memory ↦ true | _ ↦ false ]

-- the memory variables, in order of declaration
abbrev pub memories_of : List Var → List Symbol
memories_of vars = map symbol.Var (filter (λ n. slice_index_or (map is_memory vars) n false) (range_with_len 0 (length vars)))

-- all memory variables and then all instances
abbrev pub all_of : Declared → List Symbol
all_of d = memories_of d.vars ++ map symbol.Instance (range_with_len 0 (length d.instances))

-- What is watched: all, or what is named, in the order of its names.
abbrev pub AreWatched : Declared → Bool → List (List ℕ) → List Symbol → Type 0
AreWatched d true words watched = watched ≡ all_of d
AreWatched d false words watched = map (symbol_of d) words ≡ map Some watched

-- ---- the columns of what is watched

-- ET of a timer, CV of a counter
abbrev pub parameter_column : ℕ → Option Parameter → Option Column
parameter_column n (Some parameter.Time) = Some (column.Elapsed n)
parameter_column n (Some parameter.Count) = Some (column.Count n)
parameter_column n None = None

abbrev pub further_column : ℕ → Option Instance → Option Column
further_column n None = None
further_column n (Some i) = parameter_column n (traits_of i.kind).parameter

-- A variable has its value, an instance its output and what its kind has further.
abbrev pub columns_of : Declared → Symbol → List Column
columns_of d (symbol.Var n) = column.Value n ∷ []
columns_of d (symbol.Instance n) = column.Output n ∷ elim (further_column n (slice_get d.instances n)) [ None ↦ [] | Some further ↦ further ∷ [] ]

abbrev pub all_columns : Declared → List Symbol → List Column
all_columns d watched = flat_map (columns_of d) watched

-- the columns of what is watched, whether all or what is named
abbrev pub AreColumns : Declared → Bool → List (List ℕ) → List Column → Type 0
AreColumns d is_all words columns = (watched : List Symbol) × AreWatched d is_all words watched × (columns ≡ all_columns d watched)
