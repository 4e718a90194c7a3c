-- The declarations of a text as a value: its variables and its function block instances, each in order of declaration.
use Rattle.std.specs.Prelude.{ℕ, ◌≤◌, Bool, true, false, ◌&&◌, ◌==◌, List, [], ◌++◌, codes, length, map, position, slice_get, Option, None, Some, option_map}
use Rattle.std.specs.Option.{option_or, option_eq}
use Rattle.std.specs.List.{All, IsDistinct, filter_map}
use Rattle.diagram_declarations.specs.declared.limits.TheConstants.{MOST_VARS, MOST_INSTANCES}
use Rattle.diagram_declarations.specs.declared.decls.VarKind.TheVariants as kind
use Rattle.diagram_declarations.specs.declared.decls.Address.{Address}
use Rattle.diagram_declarations.specs.declared.decls.Var.{Var}
use Rattle.diagram_declarations.specs.declared.decls.Instance.{Instance}
use Rattle.diagram_declarations.specs.declared.decls.Symbol.{Symbol}
use Rattle.diagram_declarations.specs.declared.decls.Symbol.TheVariants as symbol
use Rattle.diagram_declarations.specs.declared.kind.Output.{Output}
use Rattle.diagram_declarations.specs.declared.kind.Output.TheVariants as output
use Rattle.diagram_declarations.specs.Name.{same_letters}
use Rattle.diagram_declarations.specs.Kind.{traits_of, largest_preset}

pub record Declared : Type 0 where
  pub vars : List Var
  pub instances : List Instance

abbrev pub is_input : Var → Bool
is_input v = elim v.kind [ kind.Input ↦ true | _ ↦ false ]

abbrev pub is_input_at : Option Var → Bool
is_input_at (Some v) = is_input v
is_input_at None = false

-- The variable or the instance that is declared with a name, in any letter case.
abbrev pub find : Declared → List ℕ → Option Symbol
find declared name =
    option_or (option_map symbol.Var (position (λ v. same_letters name v.name) declared.vars))
    (option_map symbol.Instance (position (λ i. same_letters name i.name) declared.instances))

-- Two addresses are the same where the letter and the numbers are.
abbrev pub same_address : Address → Address → Bool
same_address a b = (a.letter == b.letter) && ((a.first == b.first) && option_eq (λ m n. m == n) a.second b.second)

abbrev pub names_of : Declared → List (List ℕ)
names_of declared = map (λ v. v.name) declared.vars ++ map (λ i. i.name) declared.instances

abbrev pub addresses_of : List Var → List Address
addresses_of vars = filter_map (λ v. v.address) vars

-- What holds of all declarations: each name and each address is declared once (IEC 61131-3), and the limits are kept (the profile).
abbrev pub AreKept : Declared → Type 0
AreKept declared =
    IsDistinct same_letters (names_of declared) × IsDistinct same_address (addresses_of declared.vars) × (length declared.vars ≤ MOST_VARS)
    × (length declared.instances ≤ MOST_INSTANCES) × All (λ i. length i.name ≤ (traits_of i.kind).longest_name) declared.instances

-- The same of declarations that were read: no preset is larger than that of its block can be, as the grammar has it.
pub record AreInRange (declared : Declared) : Type 0 where
  pub kept : AreKept declared
  pub presets : All (λ i. i.preset ≤ largest_preset i.kind) declared.instances

-- ---- how they are written

-- the title of a variable or an instance, by its number
abbrev pub var_name : Declared → ℕ → List ℕ
var_name d var = elim (slice_get d.vars var) [ None ↦ [] | Some v ↦ v.title ]

abbrev pub instance_name : Declared → ℕ → List ℕ
instance_name d inst = elim (slice_get d.instances inst) [ None ↦ [] | Some i ↦ i.title ]

abbrev pub symbol_name : Declared → Symbol → List ℕ
symbol_name d (symbol.Var var) = var_name d var
symbol_name d (symbol.Instance inst) = instance_name d inst

-- what stands after the title of an instance, for its output
abbrev pub suffix : Output → List ℕ
suffix output.Q = codes ".Q"
suffix output.Q1 = codes ".Q1"

abbrev pub output_suffix : Declared → ℕ → List ℕ
output_suffix d inst = elim (slice_get d.instances inst) [ None ↦ [] | Some i ↦ suffix (traits_of i.kind).output ]
